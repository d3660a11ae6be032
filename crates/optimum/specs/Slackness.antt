-- Costs by rank, and complementary slackness between them and a matching: the condition under which both are best.
-- Definitions only. Assumes nothing.
use Rattle.std.specs.Prelude.{ℕ, zero, suc, ◌+◌, ◌-◌, ◌<◌, ◌≤◌, ◌≡◌, ◌≢◌, true, ℤ, pos, nat_abs, ◌-ℤ◌, ◌≤ℤ◌}
use Rattle.loops.specs.Below.{sum}
use Rattle.optimum.specs.Search.{Problem, Mates}

-- Ranks go by cost: tree ranks by falling, non-tree ranks by rising cost.
pub record Ranked (p : Problem) : Type 0 where
  pub fall : (t t' : ℕ) → t ≤ t' → t' < p.trees → p.tree_cost t' ≤ p.tree_cost t
  pub rise : (s s' : ℕ) → s ≤ s' → s' < p.spares → p.spare_cost s ≤ p.spare_cost s'

-- A matching by rank: each pair covers and has the dearer tree edge, and no tree rank has two mates.
pub record Valid (p : Problem) (mates : Mates) : Type 0 where
  pub below : (s t : ℕ) → s < p.spares → mates s ≡ suc t → t < p.trees
  pub covers : (s t : ℕ) → s < p.spares → mates s ≡ suc t → p.covers t s ≡ true
  pub falls : (s t : ℕ) → s < p.spares → mates s ≡ suc t → p.spare_cost s < p.tree_cost t
  pub once : (s s' t : ℕ) → s < p.spares → s' < p.spares → mates s ≡ suc t → mates s' ≡ suc t → s ≡ s'

-- Integer costs by rank.
pub record RankCosts : Type 0 where
  pub tree : ℕ → ℤ
  pub spare : ℕ → ℤ

-- Every non-tree rank costs at least as much as each tree rank that it covers.
abbrev pub Feasible : Problem → RankCosts → Type 0
Feasible p d = (t s : ℕ) → t < p.trees → s < p.spares → p.covers t s ≡ true → d.tree t ≤ℤ d.spare s

abbrev pub Unmatched : Problem → Mates → ℕ → Type 0
Unmatched p mates t = (s : ℕ) → s < p.spares → mates s ≢ suc t

-- Complementary slackness: feasible; pairs are equal; non-tree ranks cost at least, tree ranks at most their old cost;
-- what is unmatched keeps its old cost.
pub record Slack (p : Problem) (mates : Mates) (d : RankCosts) : Type 0 where
  pub feasible : Feasible p d
  pub tight : (s t : ℕ) → s < p.spares → mates s ≡ suc t → d.tree t ≡ d.spare s
  pub above : (s : ℕ) → s < p.spares → pos (p.spare_cost s) ≤ℤ d.spare s
  pub below : (t : ℕ) → t < p.trees → d.tree t ≤ℤ pos (p.tree_cost t)
  pub spare_free : (s : ℕ) → s < p.spares → mates s ≡ 0 → d.spare s ≡ pos (p.spare_cost s)
  pub tree_free : (t : ℕ) → t < p.trees → Unmatched p mates t → d.tree t ≡ pos (p.tree_cost t)

-- The deviation of costs by rank, and the weight of a matching by rank.
abbrev pub rank_deviation : Problem → RankCosts → ℕ
rank_deviation p d =
    sum p.trees (λ t. nat_abs (d.tree t -ℤ pos (p.tree_cost t))) +
    sum p.spares (λ s. nat_abs (d.spare s -ℤ pos (p.spare_cost s)))

unfoldable pub pair_weight : Problem → ℕ → ℕ → ℕ
pair_weight p s zero = zero
pair_weight p s (suc t) = p.tree_cost t - p.spare_cost s

abbrev pub rank_weight : Problem → Mates → ℕ
rank_weight p mates = sum p.spares (λ s. pair_weight p s (mates s))
