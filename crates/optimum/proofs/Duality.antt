-- Duality between costs by rank and matchings: no matching weighs more than feasible costs deviate, and the two are
-- equal exactly under complementary slackness. Costs are integers, negative ones included. Assumes nothing.
use Rattle.std.specs.Prelude.{ℕ, suc, ◌+◌, ◌-◌, ◌<◌, ◌≤◌, ◌≡◌, refl, pos, nat_abs, ◌-ℤ◌, ◌≤ℤ◌}
use Rattle.std.proofs.Common.{sym, ◌∙◌, inl, inr, arith}
use Rattle.std.specs.Int.Signed.{≤ℤ_refl}
use Rattle.loops.specs.Below.{sum}
use Rattle.loops.specs.SumLaws.{sum_same, sum_le, sum_zero, sum_plus, sum_squeeze}
use Rattle.optimum.specs.Search.{Problem, Mates}
use Rattle.optimum.specs.Slackness.{Valid, RankCosts, Feasible, Unmatched, Slack, rank_deviation, pair_weight, rank_weight}
use Rattle.optimum.proofs.Matched.{free, pair, mate, matched_view}
use Rattle.optimum.specs.Distance.{distance, distance_is, distance_zero, zero_distance, pair_apart, Between, between_apart, apart_between}
use Rattle.optimum.proofs.Reindex.{at_mate, unmatched_only, unmatched_stays, matched_leaves, sum_reindex}

-- How far a tree rank and a non-tree rank move.
abbrev tree_move : Problem → RankCosts → ℕ → ℕ
tree_move p d t = nat_abs (d.tree t -ℤ pos (p.tree_cost t))

abbrev spare_move : Problem → RankCosts → ℕ → ℕ
spare_move p d s = nat_abs (d.spare s -ℤ pos (p.spare_cost s))

-- How far a non-tree rank and its mate move together, and what unmatched tree ranks move.
abbrev move : Problem → Mates → RankCosts → ℕ → ℕ
move p mates d s = at_mate (tree_move p d) (mates s) + spare_move p d s

abbrev rest : Problem → Mates → RankCosts → ℕ → ℕ
rest p mates d = unmatched_only p.spares mates (tree_move p d)

split :
    (p : Problem) (mates : Mates) (d : RankCosts) → Valid p mates
    → rank_deviation p d ≡ sum p.spares (move p mates d) + sum p.trees (rest p mates d)
split p mates d v =
    omega (
      arith,
      sum_reindex p.spares p.trees mates (tree_move p d) v.below v.once,
      sum_plus p.spares (λ s. at_mate (tree_move p d) (mates s)) (spare_move p d),
    )

-- A pair moves as far as its weight at least; as far exactly if it is between.
move_pair :
    (p : Problem) (mates : Mates) (d : RankCosts) (s t : ℕ) → mates s ≡ suc t
    → move p mates d s ≡ distance (d.tree t) (p.tree_cost t) + distance (d.spare s) (p.spare_cost s)
unfolding at_mate
move_pair p mates d s t q =
    rw (q, distance_is (d.tree t) (p.tree_cost t), distance_is (d.spare s) (p.spare_cost s))

move_free :
    (p : Problem) (mates : Mates) (d : RankCosts) (s : ℕ) → mates s ≡ 0
    → move p mates d s ≡ distance (d.spare s) (p.spare_cost s)
unfolding at_mate
move_free p mates d s q = rw (q, distance_is (d.spare s) (p.spare_cost s)) (omega arith)

weight_pair :
    (p : Problem) (mates : Mates) (s t : ℕ) → mates s ≡ suc t → pair_weight p s (mates s) ≡ p.tree_cost t - p.spare_cost s
unfolding pair_weight
weight_pair p mates s t q = rw q

weight_free : (p : Problem) (mates : Mates) (s : ℕ) → mates s ≡ 0 → pair_weight p s (mates s) ≡ 0
unfolding pair_weight
weight_free p mates s q = rw q

module _ (p : Problem) (mates : Mates) (d : RankCosts) (v : Valid p mates) where
  module _ (f : Feasible p d) where
    weight_le : (s : ℕ) → s < p.spares → pair_weight p s (mates s) ≤ move p mates d s
    weight_le s h = elim (mate mates s) [
      | free q ↦ omega (arith, weight_free p mates s q)
      | pair t q ↦
          omega (
            arith,
            weight_pair p mates s t q,
            move_pair p mates d s t q,
            pair_apart (d.tree t) (d.spare s) (p.tree_cost t) (p.spare_cost s)
                (f t s (v.below s t h q) h (v.covers s t h q)),
          )
    ]

    pub weak : rank_weight p mates ≤ rank_deviation p d
    weak =
        omega (
          arith,
          split p mates d v,
          sum_le p.spares (λ s. pair_weight p s (mates s)) (move p mates d) weight_le,
        )

    -- Equal sums leave nothing over, neither at a pair nor at an unmatched tree rank.
    module _ (equal : rank_deviation p d ≡ rank_weight p mates) where
      weight_is : (s : ℕ) → s < p.spares → pair_weight p s (mates s) ≡ move p mates d s
      weight_is =
          sum_squeeze p.spares (λ s. pair_weight p s (mates s)) (move p mates d) weight_le
          (omega (arith, split p mates d v))

      rest_none : (t : ℕ) → t < p.trees → 0 ≡ rest p mates d t
      rest_none =
          sum_squeeze p.trees (λ _. 0) (rest p mates d) (λ t h. omega arith)
          (omega (
            arith,
            split p mates d v,
            sum_zero p.trees (λ _. 0) (λ t h. refl),
            sum_le p.spares (λ s. pair_weight p s (mates s)) (move p mates d) weight_le,
          ))

      pair_between :
          (s t : ℕ) → s < p.spares → mates s ≡ suc t → Between (d.tree t) (d.spare s) (p.tree_cost t) (p.spare_cost s)
      pair_between s t h q =
          apart_between (d.tree t) (d.spare s) (p.tree_cost t) (p.spare_cost s)
          (f t s (v.below s t h q) h (v.covers s t h q)) (v.falls s t h q)
          (sym (move_pair p mates d s t q) ∙ sym (weight_is s h) ∙ weight_pair p mates s t q)

      free_stays : (s : ℕ) → s < p.spares → mates s ≡ 0 → d.spare s ≡ pos (p.spare_cost s)
      free_stays s h q =
          distance_zero (d.spare s) (p.spare_cost s)
          (sym (move_free p mates d s q) ∙ sym (weight_is s h) ∙ weight_free p mates s q)

      unmatched_keeps : (t : ℕ) → t < p.trees → Unmatched p mates t → d.tree t ≡ pos (p.tree_cost t)
      unmatched_keeps t h none =
          distance_zero (d.tree t) (p.tree_cost t)
          (sym (distance_is (d.tree t) (p.tree_cost t))
          ∙ sym (unmatched_stays p.spares mates (tree_move p d) t none)
          ∙ sym (rest_none t h))

      spare_above : (s : ℕ) → s < p.spares → pos (p.spare_cost s) ≤ℤ d.spare s
      spare_above s h = elim (mate mates s) [
        | free q ↦ rw (free_stays s h q) (≤ℤ_refl (pos (p.spare_cost s)))
        | pair t q ↦ (pair_between s t h q).above
      ]

      tree_below : (t : ℕ) → t < p.trees → d.tree t ≤ℤ pos (p.tree_cost t)
      tree_below t h = elim (matched_view p mates t) [
        | inl m ↦ (pair_between m.0 t m.1 m.2).below
        | inr none ↦ rw (unmatched_keeps t h none) (≤ℤ_refl (pos (p.tree_cost t)))
      ]

      pub equal_slack : Slack p mates d
      equal_slack =
          record {
            feasible = f;
            tight = λ s t h q. (pair_between s t h q).equal;
            above = spare_above;
            below = tree_below;
            spare_free = free_stays;
            tree_free = unmatched_keeps;
          }

  module _ (k : Slack p mates d) where
    slack_weight : (s : ℕ) → s < p.spares → move p mates d s ≡ pair_weight p s (mates s)
    slack_weight s h = elim (mate mates s) [
      | free q ↦
          move_free p mates d s q ∙ zero_distance (d.spare s) (p.spare_cost s) (k.spare_free s h q)
          ∙ sym (weight_free p mates s q)
      | pair t q ↦
          move_pair p mates d s t q
          ∙ between_apart (d.tree t) (d.spare s) (p.tree_cost t) (p.spare_cost s)
          (record { equal = k.tight s t h q; below = k.below t (v.below s t h q); above = k.above s h })
          ∙ sym (weight_pair p mates s t q)
    ]

    slack_rest : (t : ℕ) → t < p.trees → rest p mates d t ≡ 0
    slack_rest t h = elim (matched_view p mates t) [
      | inl m ↦ matched_leaves p.spares mates (tree_move p d) m.0 t m.1 m.2
      | inr none ↦
          unmatched_stays p.spares mates (tree_move p d) t none
          ∙ distance_is (d.tree t) (p.tree_cost t)
          ∙ zero_distance (d.tree t) (p.tree_cost t) (k.tree_free t h none)
    ]

    pub slack_equal : rank_deviation p d ≡ rank_weight p mates
    slack_equal =
        omega (
          arith,
          split p mates d v,
          sum_same p.spares (move p mates d) (λ s. pair_weight p s (mates s)) slack_weight,
          sum_zero p.trees (rest p mates d) slack_rest,
        )
