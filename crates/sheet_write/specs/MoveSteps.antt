-- The writer of sheets, by the steps of the code: the code of a change; a link that stays, and one that moves. Assumes nothing.
use Rattle.std.specs.Prelude.{ℕ, zero, suc, ◌+◌, ◌-◌, ◌*◌, ◌<◌, ◌≤◌, ◌≡◌, pos, ◌-ℤ◌, length}
use Rattle.std.proofs.Common.{add-one, arith, sym, ◌∙◌, length-append, eq-eqb, ne_eqb, lt-ltb, le-ltb}
use Rattle.std.proofs.Math.Path.{ap}
use mathlib.Core.List.{List, [], ◌∷◌, ◌++◌, flat_map, append-nil, append_assoc}
use Rattle.limits.specs.Limits.{change_bytes}
use Rattle.loops.specs.Loop.{gather}
use Rattle.number.specs.Number.{encode}
use Rattle.codec.specs.ListLaws.{gather_within}
use Rattle.sheet.specs.Sheet.{Move, coded, move_of, moves_of}
use Rattle.sheet.proofs.EntryLaws.{entries_bytes}
use Rattle.sheet.proofs.MoveLaws.{entries_append}

-- ---- the code of a change

pub code_rise : (old new : ℕ) → old ≤ new → 2 * (new - old) ≡ coded (pos new -ℤ pos old)
code_rise zero new l = omega arith
code_rise (suc old) new l = rw (le-ltb new (suc old) l)

pub code_fall : (old new : ℕ) → new < old → 2 * (old - new) - 1 ≡ coded (pos new -ℤ pos old)
code_fall zero new l = absurd (omega arith)
code_fall (suc old) new l = rw (lt-ltb new (suc old) l) (omega arith)

-- ---- one link more

module _ (c d : ℕ → ℕ) where
  more : (e : ℕ) → moves_of (e + 1) c d ≡ moves_of e c d ++ move_of e (c e) (d e)
  unfolding gather
  more e = rw (add-one e)

  -- The entries of more links take no fewer bytes.
  pub entries_within : (e n : ℕ) → e ≤ n → length (entries_bytes (moves_of e c d)) ≤ length (entries_bytes (moves_of n c d))
  entries_within =
      gather_within entries_bytes (λ e. move_of e (c e) (d e))
      (λ e. let own = move_of e (c e) (d e) in
      omega (
        arith,
        ap (λ (ks : List Move). length (entries_bytes ks)) (more e) ∙ ap length (entries_append (moves_of e c d) own) ∙
            length-append (entries_bytes (moves_of e c d)) (entries_bytes own),
      ))

  -- A link that stays, and one that moves.
  module _ (e : ℕ) where
    pub moves_stay : c e ≡ d e → moves_of (e + 1) c d ≡ moves_of e c d
    moves_stay q = more e ∙ rw (eq-eqb (d e) (c e) (sym q)) (append-nil (moves_of e c d))

    module _ (moved : c e ≡ d e → ⊥) where
      one : moves_of (e + 1) c d ≡ moves_of e c d ++ (record { edge = e; change = pos (d e) -ℤ pos (c e) } ∷ [])
      one = more e ∙ rw (ne_eqb (d e) (c e) (λ q. moved (sym q)))

      pub moves_count : length (moves_of (e + 1) c d) ≡ length (moves_of e c d) + 1
      moves_count = ap length one ∙ length-append (moves_of e c d) _

      module _ (code : ℕ) (is : code ≡ coded (pos (d e) -ℤ pos (c e))) where
        pub moves_bytes : entries_bytes (moves_of (e + 1) c d) ≡ entries_bytes (moves_of e c d) ++ encode change_bytes e ++ encode change_bytes code
        unfolding flat_map
        moves_bytes =
            ap entries_bytes one ∙ entries_append (moves_of e c d) _ ∙
            rw (← is, append-nil (encode change_bytes code))
            (sym (append_assoc (entries_bytes (moves_of e c d)) (encode change_bytes e) (encode change_bytes code)))

        pub moves_size :
            length (entries_bytes (moves_of (e + 1) c d))
            ≡ length (entries_bytes (moves_of e c d)) + length (encode change_bytes e) + length (encode change_bytes code)
        moves_size = ap length moves_bytes ∙ simp length-append
