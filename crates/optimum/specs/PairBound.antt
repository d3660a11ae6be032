-- The weight of a matching bounds the steps from below, edge by edge: costs that make the tree minimum move the matched edges
-- together by at least that weight. So costs that take no more steps leave every edge in no pair as it is. Assumes nothing.
use Rattle.std.specs.Prelude.{ℕ, ◌+◌, ◌-◌, ◌≤◌, ◌<◌, ◌≡◌, refl, ◌≢◌, false, pos, nat_abs, ◌-ℤ◌}
use native.Mathlib.Omega.{arith}
use Rattle.std.proofs.Common.{sym, ap, ◌∙◌}
use Rattle.std.proofs.Math.Logic.{inl, inr}
use mathlib.Core.List.Memᴰ
use mathlib.Core.List.{List, [], ◌∷◌, flat_map, Memᴰ}
use Rattle.std.proofs.lemmas.Bool.{not-true}
use Rattle.loops.specs.Below.{sum}
use Rattle.loops.specs.Loop.{put}
use Rattle.loops.specs.PutLaws.{put_other}
use Rattle.loops.specs.TestLaws.{clash, and_first, and_second}
use Rattle.loops.specs.SumLaws.{sum_put, sum_over, sum_over_same}
use Rattle.graph.specs.Graph.{Graph, Sound, EdgeSet, SpanningTree, Minimum, NoneTwice}
use Rattle.graph.specs.Criterion.{Test, criterion}
use Rattle.optimum.specs.Optimum.{Costs, deviation, Pair, both, IsPair, Matching, Falls, weight}
use Rattle.optimum.specs.Distance.{distance_is, distance_zero, pair_apart}
use Rattle.optimum.specs.PairLaws.{both_from, falls_weight}

-- The terms of different numbers below m are part of the sum.
once_below :
    (m : ℕ) (f : ℕ → ℕ) (xs : List ℕ) → NoneTwice xs → ((x : ℕ) → Memᴰ x xs → x < m) → sum_over f xs ≤ sum m f
unfolding sum_over
once_below m f [] once below = omega arith
once_below m f (x ∷ xs) once below =
    omega (
      arith,
      sum_over_same f (put f x 0) xs (λ y k. sym (put_other f x 0 y (λ e. once.0 (rw e at k)))),
      once_below m (put f x 0) xs once.1 (λ y k. below y (Memᴰ.tail k)),
      sum_put m f x 0 (below x (Memᴰ.head refl)),
    )

-- An edge that may not be used is in no pair.
pub idle_unpaired :
    {g : Graph} {tr : EdgeSet} → SpanningTree g tr → (e : ℕ) → g.live e ≡ false → (p : Pair) → IsPair g tr p
    → (e ≢ p.tree) × (e ≢ p.spare)
idle_unpaired {g} {tr} tree e idle p is = (
  λ q. clash (tree.usable p.tree is.tree_below is.tree_in) (ap g.live (sym q) ∙ idle),
  λ q. clash (and_first (g.live p.spare) _ is.spare_in) (ap g.live (sym q) ∙ idle),
)

module _ {g : Graph} (sound : Sound g) {tr : EdgeSet} (tree : SpanningTree g tr) (c : ℕ → ℕ) (d : Costs) (least : Minimum g tr d) where
  -- How far an edge is moved.
  abbrev moved : ℕ → ℕ
  moved e = nat_abs (d e -ℤ pos (c e))

  -- The two edges of a pair are together moved at least as far as the old costs are apart.
  pair_moved : (p : Pair) → IsPair g tr p → c p.tree - c p.spare ≤ moved p.tree + moved p.spare
  pair_moved p is =
      let test : Test g tr d = (criterion g sound tr tree d).0 least in
      let out = not-true (tr p.spare) (and_second (g.live p.spare) _ is.spare_in) in
      omega (
        arith,
        distance_is (d p.tree) (c p.tree),
        distance_is (d p.spare) (c p.spare),
        pair_apart (d p.tree) (d p.spare) (c p.tree) (c p.spare) (test p.spare p.tree is.spare_below out is.covers),
      )

  pairs_moved :
      (ps : List Pair) → ((p : Pair) → Memᴰ p ps → IsPair g tr p)
      → sum_over (λ q. c q.tree - c q.spare) ps ≤ sum_over moved (flat_map both ps)
  unfolding sum_over flat_map
  pairs_moved [] is = omega arith
  pairs_moved (p ∷ ps) is =
      omega (arith, pair_moved p (is p (Memᴰ.head refl)), pairs_moved ps (λ q m. is q (Memᴰ.tail m)))

  module _ (ps : List Pair) (matching : Matching g tr ps) (falls : Falls c ps) where
    -- Costs that take no more steps than the matching weighs leave an edge in no pair as it is.
    pub unpaired_still :
        weight c ps ≡ pos (deviation g c d)
        → (e : ℕ) → e < g.edges → ((p : Pair) → Memᴰ p ps → (e ≢ p.tree) × (e ≢ p.spare))
        → d e ≡ pos (c e)
    unfolding sum_over
    unpaired_still weighs e h none =
        let steps : deviation g c d ≡ sum_over (λ q. c q.tree - c q.spare) ps = cc (weighs, falls_weight c ps falls) in
        distance_zero (d e) (c e)
        (omega (
          arith,
          steps,
          pairs_moved ps matching.pairs,
          once_below g.edges moved (e ∷ flat_map both ps) (unpaired, matching.apart) below,
          distance_is (d e) (c e),
        ))
      where
        unpaired : Memᴰ e (flat_map both ps) → ⊥
        unpaired m =
            let (q, k, at) = both_from ps e m in
            elim at [ inl t ↦ (none q k).0 t | inr s ↦ (none q k).1 s ]

        below : (x : ℕ) → Memᴰ x (e ∷ flat_map both ps) → x < g.edges
        below x m =
            elim (Memᴰ.cases_cons m) [
              | inl q ↦ rw q h
              | inr k ↦
                  let (q, l, at) = both_from ps x k in
                  let is = matching.pairs q l in
                  elim at [ inl t ↦ rw t is.tree_below | inr s ↦ rw s is.spare_below ]
            ]

    -- So one that may not be used stays as it is.
    pub idle_still : weight c ps ≡ pos (deviation g c d) → (e : ℕ) → e < g.edges → g.live e ≡ false → d e ≡ pos (c e)
    idle_still weighs e h idle = unpaired_still weighs e h (λ p m. idle_unpaired tree e idle p (matching.pairs p m))
