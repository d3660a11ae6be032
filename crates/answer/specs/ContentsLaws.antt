-- Laws of the list of pairs: a pair stored behind the first n, one mate more; and the answer of given costs and mates.
-- Assumes nothing.
use Prim.Native.Nat.{ℕ, suc, ◌+◌, ◌*◌, ◌-◌, ◌<◌, ◌≤◌}
use Rattle.std.proofs.Math.Numerals.{add-one}
use native.Mathlib.Omega.{arith}
use Rattle.std.specs.Prelude.{◌≡◌, refl, List, [], ◌∷◌, ◌++◌, length, set}
use Rattle.std.proofs.Common.{ap, ap₂, ◌∙◌, append-nil, length-set, get_or-set_same, get_or-set_other}
use Rattle.std.proofs.Math.ListN.{get_or, length-append}
use Rattle.loops.specs.Loop.{gather}
use Rattle.optimum.specs.Optimum.{Pair}
use Rattle.optimum.specs.Solve.{pair_at}
use Rattle.frame.specs.Answers.{pair_from}
use Rattle.loops.specs.GatherLaws.{gather_same}
use Rattle.codec.specs.ListLaws.{gather_within}
use Rattle.codec.specs.Held.{pairs_at}
use Rattle.answer.specs.Contents.{mate_pairs, PairsListed}

-- A pair stored behind the first n.
abbrev pub pair_stored : List ℕ → ℕ → ℕ → ℕ → List ℕ
pair_stored ps n t s = set (set ps (2 * n) t) (2 * n + 1) s

length_stored : (ps : List ℕ) (n t s : ℕ) → length (pair_stored ps n t s) ≡ length ps
length_stored ps n t s = length-set (set ps (2 * n) t) (2 * n + 1) s ∙ length-set ps (2 * n) t

pairs_stored :
    (n t s : ℕ) (ps : List ℕ) → 2 * n + 1 < length ps →
    pairs_at (n + 1) (pair_stored ps n t s) ≡ pairs_at n ps ++ (record { tree = t; spare = s } ∷ [])
unfolding gather
pairs_stored n t s ps l =
    rw (add-one n, tree, spare)
    (ap (λ (l : List Pair). l ++ (record { tree = t; spare = s } ∷ []))
    (gather_same n (λ i. pair_from (pair_stored ps n t s) i ∷ []) (λ i. pair_from ps i ∷ []) kept))
  where
    m : length (set ps (2 * n) t) ≡ length ps
    m = length-set ps (2 * n) t

    tree : get_or (pair_stored ps n t s) (2 * n) 0 ≡ t
    tree = get_or-set_other (set ps (2 * n) t) (2 * n + 1) (2 * n) s 0 (omega arith) ∙ get_or-set_same ps (2 * n) t 0 (omega arith)

    spare : get_or (pair_stored ps n t s) (2 * n + 1) 0 ≡ s
    spare = get_or-set_same (set ps (2 * n) t) (2 * n + 1) s 0 (omega (arith, m))

    other : (k : ℕ) → k < 2 * n → get_or (pair_stored ps n t s) k 0 ≡ get_or ps k 0
    other k b = get_or-set_other (set ps (2 * n) t) (2 * n + 1) k s 0 (omega arith) ∙ get_or-set_other ps (2 * n) k t 0 (omega arith)

    kept : (i : ℕ) → i < n → pair_from (pair_stored ps n t s) i ∷ [] ≡ pair_from ps i ∷ []
    kept i b = ap₂ (λ (a b : ℕ). record { tree = a; spare = b } ∷ []) (other (2 * i) (omega arith)) (other (2 * i + 1) (omega arith))

-- One mate more.
module _ (mate : List ℕ) where
  mates_none : (e : ℕ) → get_or mate e 0 ≤ 0 → mate_pairs (e + 1) mate ≡ mate_pairs e mate
  unfolding gather pair_at
  mates_none e l =
      let none : get_or mate e 0 ≡ 0 = omega arith in
      rw (add-one e, none) (append-nil (mate_pairs e mate))

  mates_one : (e : ℕ) → 0 < get_or mate e 0 → mate_pairs (e + 1) mate ≡ mate_pairs e mate ++ (record { tree = e; spare = get_or mate e 0 - 1 } ∷ [])
  unfolding gather pair_at
  mates_one e l =
      let one : get_or mate e 0 ≡ suc (get_or mate e 0 - 1) = omega arith in
      rw add-one (ap (λ (m : ℕ). mate_pairs e mate ++ pair_at e m) one)

  mates_grow : (e : ℕ) → length (mate_pairs e mate) ≤ length (mate_pairs (e + 1) mate)
  unfolding gather
  mates_grow e = rw (add-one e) (omega (arith, length-append (mate_pairs e mate) (pair_at e (get_or mate e 0))))

  mates_within : (e n : ℕ) → e ≤ n → length (mate_pairs e mate) ≤ length (mate_pairs n mate)
  mates_within = gather_within (λ (l : List Pair). l) (λ e. pair_at e (get_or mate e 0)) mates_grow

  -- The pairs listed by a loop over the mates.
  module _ (ps : List ℕ) where
    pub listed_start : length ps ≡ 128 → PairsListed (mate_pairs 0 mate) 0 ps
    unfolding gather
    listed_start h = record { count = refl; pairs = refl; places = h }

    module _ (e n : ℕ) (l : PairsListed (mate_pairs e mate) n ps) where
      pub listed_none : get_or mate e 0 ≤ 0 → PairsListed (mate_pairs (e + 1) mate) n ps
      listed_none z = rw (mates_none e z) l

      -- There is a place for one more, as the array holds all.
      pub listed_room : (edges : ℕ) → length (mate_pairs edges mate) ≤ 64 → e < edges → 0 < get_or mate e 0 → n < 64
      listed_room edges most b m =
          omega (
            arith,
            l.count,
            ap length (mates_one e m),
            length-append (mate_pairs e mate) (record { tree = e; spare = get_or mate e 0 - 1 } ∷ []),
            mates_within (e + 1) edges (omega arith),
          )

      pub listed_one : 0 < get_or mate e 0 → n < 64 → PairsListed (mate_pairs (e + 1) mate) (n + 1) (pair_stored ps n e (get_or mate e 0 - 1))
      listed_one m b =
          record {
            count = omega (
              arith,
              l.count,
              ap length (mates_one e m),
              length-append (mate_pairs e mate)
                  (record { tree = e; spare = get_or mate e 0 - 1 } ∷ []),
            );
            pairs = pairs_stored n e (get_or mate e 0 - 1) ps (omega (arith, l.places)) ∙ rw (l.pairs, mates_one e m);
            places = length_stored ps n e (get_or mate e 0 - 1) ∙ l.places;
          }
