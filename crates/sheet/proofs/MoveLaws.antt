-- The sheet of new costs: it is one in form and leads to them, no other one does, its absolute changes are the steps, and it is
-- at most `sheet_most` bytes long, and at most 6 n + 2 if n links move. Assumes nothing.
use Prim.Native.Nat.{ℕ, zero, suc, ◌+◌, ◌-◌, ◌*◌, ◌<◌, ◌≤◌}
use Rattle.std.proofs.Math.Decide.{ℕ_discrete, dec_lt}
use native.Mathlib.Omega.{arith}
use Rattle.std.specs.Prelude.{◌≡◌, refl, ◌≢◌, ℤ, negsuc, nat_abs, ◌+ℤ◌, ◌-ℤ◌}
use Rattle.std.proofs.Common.{sym, ◌∙◌, inl, inr, eq-eqb, ne_eqb}
use Rattle.std.proofs.Math.Path.{ap}
use mathlib.Core.List.Memᴰ
use mathlib.Core.List.{List, [], ◌∷◌, ◌++◌, flat_map, Memᴰ}
use Rattle.std.proofs.Math.IntN.{pos, +ℤ_idr}
use Rattle.std.proofs.Math.ListN.{length, length-append}
use Rattle.limits.specs.Limits.{max_edges, change_bytes, sheet_most}
use Rattle.loops.specs.Below.{sum}
use Rattle.loops.specs.Loop.{gather}
use Rattle.loops.specs.Ordered.{ordered_unique}
use Rattle.loops.specs.GatherLaws.{gather_has, gather_from, gather_ordered, gather_sum}
use Rattle.loops.specs.SumLaws.{sum_over, sum_same}
use Rattle.number.specs.Number.{encode}
use Rattle.number.proofs.Laws.{encode_size_most, encode_size_below}
use Rattle.optimum.specs.Distance.{distance_is}
use Rattle.frame.specs.Job.{bytes_by}
use Rattle.frame.proofs.RoundTrip.{flat_map_append}
use Rattle.sheet.specs.Sheet.{Move, coded, move_numbers, sheet_frame, MoveIn, RisingMoves, SheetOf, InRange, change_of, LeadsTo, move_of, moves_of, move_sum}
use Rattle.sheet.proofs.ChangeLaws.{change_is, change_leads, no_change, same_change, unnamed, named, change_named}
use Rattle.sheet.proofs.EntryLaws.{entries_bytes}

-- ---- the entry of a link

-- An entry of the sheet of new costs is that of a link which they move.
pub record Moved (c d : ℕ → ℕ) (k : Move) : Type 0 where
  pub differs : d k.edge ≢ c k.edge
  pub change : k.change ≡ pos (d k.edge) -ℤ pos (c k.edge)

move_from : (e old new : ℕ) (k : Move) → Memᴰ k (move_of e old new) → (k ≡ record { edge = e; change = pos new -ℤ pos old }) × (new ≢ old)
move_from e old new k m =
    elim (ℕ_discrete new old) [
      | yes q ↦ absurd (Memᴰ.not-nil (rw (eq-eqb new old q) at m))
      | no n ↦
          elim (Memᴰ.cases_cons (rw (ne_eqb new old n) at m)) [
            | inl q ↦ (q, n)
            | inr r ↦ absurd (Memᴰ.not-nil r)
          ]
    ]

move_has : (e old new : ℕ) → new ≢ old → Memᴰ (record { edge = e; change = pos new -ℤ pos old }) (move_of e old new)
move_has e old new n = rw (ne_eqb new old n) (Memᴰ.head refl)

-- A code is at most twice its change.
coded_most : (k : ℤ) → coded k ≤ 2 * nat_abs k
coded_most (pos k) = omega arith
coded_most (negsuc k) = omega arith

module _ (m : ℕ) (c d : ℕ → ℕ) where
  pub moves_from : (k : Move) → Memᴰ k (moves_of m c d) → (k.edge < m) × Moved c d k
  moves_from k q =
      let (e, l, r) = gather_from m (λ e. move_of e (c e) (d e)) q in
      let (same, n) = move_from e (c e) (d e) k r in
      rw same (l, record { differs = n; change = refl })

  pub moves_have : (k : Move) → k.edge < m → Moved c d k → Memᴰ k (moves_of m c d)
  moves_have k l f =
      let e = k.edge in
      let whole : k ≡ record { edge = e; change = pos (d e) -ℤ pos (c e) } = λ i. record { edge = e; change = f.change i } in
      rw whole (gather_has m (λ e. move_of e (c e) (d e)) e l (move_has e (c e) (d e) f.differs))

  pub moves_rise : RisingMoves (moves_of m c d)
  moves_rise =
      gather_ordered (λ k k'. k.edge < k'.edge) m (λ e. move_of e (c e) (d e)) (λ e l. one e)
      λ i j k k' l h q q'.
      let first = (move_from i (c i) (d i) k q).0 in
      let second = (move_from j (c j) (d j) k' q').0 in
      rw (first, second) l
    where
      one : (e : ℕ) → RisingMoves (move_of e (c e) (d e))
      one e =
          elim (ℕ_discrete (d e) (c e)) [
            | yes q ↦ rw (eq-eqb (d e) (c e) q) tt
            | no n ↦ rw (ne_eqb (d e) (c e) n) (λ k q. absurd (Memᴰ.not-nil q), tt)
          ]

  -- ---- it is in form

  module _ (old : InRange m c) (new : InRange m d) where
    moves_in : (k : Move) → Memᴰ k (moves_of m c d) → MoveIn m k
    moves_in k q =
        let (l, f) = moves_from k q in
        let e = k.edge in
        record {
          inside = l;
          moved = λ z. f.differs (no_change (d e) (c e) (sym f.change ∙ z));
          limit = omega (arith, coded_most k.change, ap nat_abs f.change ∙ distance_is (pos (d e)) (c e), old e l, new e l);
        }

    pub moves_sheet : SheetOf m (sheet_frame (moves_of m c d)) (moves_of m c d)
    moves_sheet = record { joined = refl; rising = moves_rise; each = moves_in }

    -- ---- it leads to the costs

    pub moves_lead : LeadsTo m (moves_of m c d) c d
    moves_lead = record { changed = to; limit = new }
      where
        to : (e : ℕ) → e < m → pos (d e) ≡ pos (c e) +ℤ change_of (moves_of m c d) e
        to e l =
            elim (ℕ_discrete (d e) (c e)) [
              | yes q ↦
                  rw (unnamed (moves_of m c d) e (λ k r s. (moves_from k r).1.differs (rw s q)), +ℤ_idr (pos (c e)))
                  (ap pos q)
              | no n ↦
                  let own : Move = record { edge = e; change = pos (d e) -ℤ pos (c e) } in
                  change_leads (pos (d e)) (pos (c e)) ∙
                  ap (λ (k : ℤ). pos (c e) +ℤ k) (sym (named (moves_of m c d) moves_rise own (moves_have own l (record { differs = n; change = refl }))))
            ]

-- ---- no other sheet leads there

module _ (m : ℕ) (c d : ℕ → ℕ) (ks : List Move) (o : RisingMoves ks) (each : (k : Move) → Memᴰ k ks → MoveIn m k) (leads : LeadsTo m ks c d) where
  -- A change is the difference of the costs.
  difference : (e : ℕ) → e < m → change_of ks e ≡ pos (d e) -ℤ pos (c e)
  difference e l = change_is (pos (d e)) (pos (c e)) (change_of ks e) (leads.changed e l)

  entry_moved : (k : Move) → Memᴰ k ks → Moved c d k
  entry_moved k q =
      let f = each k q in
      let e = k.edge in
      let change : k.change ≡ pos (d e) -ℤ pos (c e) = sym (named ks o k q) ∙ difference e f.inside in
      record { differs = λ r. f.moved (change ∙ same_change (d e) (c e) r); change = change }

  moved_entry : (k : Move) → Memᴰ k (moves_of m c d) → Memᴰ k ks
  moved_entry k q =
      let (l, f) = moves_from m c d k q in
      let e = k.edge in
      let r = change_named ks e (λ z. f.differs (no_change (d e) (c e) (sym (difference e l) ∙ z))) in
      let change : r.move.change ≡ k.change = r.change ∙ difference e l ∙ sym f.change in
      let same : r.move ≡ k = λ i. record { edge = r.edge i; change = change i } in
      rw same at r.member

  pub lead_moves : moves_of m c d ≡ ks
  lead_moves =
      ordered_unique (λ k k'. k.edge < k'.edge) (λ k k' l l'. omega (arith, l, l')) (moves_of m c d) ks (moves_rise m c d) o
      moved_entry
      (λ k q. moves_have m c d k (each k q).inside (entry_moved k q))

-- ---- its absolute changes

pub move_sum_lem : (m : ℕ) (c d : ℕ → ℕ) → move_sum (moves_of m c d) ≡ sum m (λ e. nat_abs (pos (d e) -ℤ pos (c e)))
unfolding sum_over
move_sum_lem m c d =
    gather_sum m (λ e. move_of e (c e) (d e)) (λ (k : Move). nat_abs k.change) ∙
    sum_same m (λ e. move_sum (move_of e (c e) (d e))) (λ e. nat_abs (pos (d e) -ℤ pos (c e))) (λ e l. one e)
  where
    one : (e : ℕ) → move_sum (move_of e (c e) (d e)) ≡ nat_abs (pos (d e) -ℤ pos (c e))
    one e =
        elim (ℕ_discrete (d e) (c e)) [
          | yes q ↦ rw (eq-eqb (d e) (c e) q, same_change (d e) (c e) q)
          | no n ↦ rw (ne_eqb (d e) (c e) n) (omega arith)
        ]

-- ---- its length

pub entries_append : (ks ls : List Move) → entries_bytes (ks ++ ls) ≡ entries_bytes ks ++ entries_bytes ls
entries_append ks ls =
    ap (bytes_by change_bytes) (flat_map_append move_numbers ks ls)
    ∙ flat_map_append (encode change_bytes) (flat_map move_numbers ks) (flat_map move_numbers ls)

-- Entries of links below 16,384 take at most six bytes each: a link two, a code four.
entries_each : (ks : List Move) → ((k : Move) → Memᴰ k ks → k.edge < 16384) → length (entries_bytes ks) ≤ 6 * length ks
unfolding flat_map
entries_each [] each = omega arith
entries_each (k ∷ ks) each =
    let link = encode change_bytes k.edge in
    let code = encode change_bytes (coded k.change) in
    omega (
      arith,
      length-append link (code ++ entries_bytes ks),
      length-append code (entries_bytes ks),
      encode_size_below 2 change_bytes k.edge (omega arith) (omega (arith, each k (Memᴰ.head refl))),
      encode_size_most change_bytes (coded k.change),
      entries_each ks (λ x q. each x (Memᴰ.tail q)),
    )

module _ (c d : ℕ → ℕ) where
  -- An entry takes at most five bytes below link 128, and six from there to link 16,383.
  entry_most : (e : ℕ) → e < 16384 → length (entries_bytes (move_of e (c e) (d e))) ≤ 5 + ((e + 1 - 128) - (e - 128))
  unfolding flat_map
  entry_most e l =
      elim (ℕ_discrete (d e) (c e)) [
        | yes q ↦ rw (eq-eqb (d e) (c e) q) (omega arith)
        | no n ↦
            let code : ℕ = coded (pos (d e) -ℤ pos (c e)) in
            let size : length (encode change_bytes e) ≤ 1 + ((e + 1 - 128) - (e - 128)) =
            elim (dec_lt e 128) [
              | yes s ↦ omega (arith, encode_size_below 1 change_bytes e (omega arith) (omega arith))
              | no s ↦ omega (arith, encode_size_below 2 change_bytes e (omega arith) (omega arith))
            ] in
            rw (ne_eqb (d e) (c e) n)
            (omega (
              arith,
              size,
              encode_size_most change_bytes code,
              length-append (encode change_bytes e) (encode change_bytes code ++ []),
              length-append (encode change_bytes code) [],
            ))
      ]

  move_one : (e : ℕ) → length (move_of e (c e) (d e)) ≤ 1
  move_one e =
      elim (ℕ_discrete (d e) (c e)) [
        | yes q ↦ rw (eq-eqb (d e) (c e) q) (omega arith)
        | no n ↦ rw (ne_eqb (d e) (c e) n) (omega arith)
      ]

  pub moves_few : (m : ℕ) → length (moves_of m c d) ≤ m
  unfolding gather
  moves_few zero = omega arith
  moves_few (suc m) = omega (arith, length-append (moves_of m c d) (move_of m (c m) (d m)), moves_few m, move_one m)

  pub entries_most : (m : ℕ) → m ≤ 16384 → length (entries_bytes (moves_of m c d)) ≤ 5 * m + (m - 128)
  unfolding gather flat_map
  entries_most zero l = omega arith
  entries_most (suc m) l =
      let own = move_of m (c m) (d m) in
      omega (
        arith,
        ap length (entries_append (moves_of m c d) own) ∙ length-append (entries_bytes (moves_of m c d)) (entries_bytes own),
        entries_most m (omega arith),
        entry_most m (omega arith),
      )

  -- The count in front takes at most two bytes.
  count_two : (m : ℕ) → m ≤ max_edges → length (sheet_frame (moves_of m c d)) ≤ length (entries_bytes (moves_of m c d)) + 2
  unfolding flat_map
  count_two m l =
      let count : ℕ = length (moves_of m c d) in
      omega (
        arith,
        length-append (encode change_bytes count) (entries_bytes (moves_of m c d)),
        encode_size_below 2 change_bytes count (omega arith) (omega (arith, moves_few m)),
      )

  pub sheet_most_lem : (m : ℕ) → m ≤ max_edges → length (sheet_frame (moves_of m c d)) ≤ sheet_most
  sheet_most_lem m l = omega (arith, count_two m l, entries_most m (omega arith))

  -- A sheet of n moves takes at most 6 n + 2 bytes.
  pub sheet_short : (m : ℕ) → m ≤ max_edges → length (sheet_frame (moves_of m c d)) ≤ 6 * length (moves_of m c d) + 2
  sheet_short m l = omega (arith, count_two m l, entries_each (moves_of m c d) (λ k q. omega (arith, (moves_from m c d k q).0)))
