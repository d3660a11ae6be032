-- Violations over arrays: which pairs of a spare and a tree rank there are, how many violate the test, how many meet at a cost, and
-- what the functions ask of the arrays. Definitions only. Assumes nothing.
use Rattle.std.specs.Prelude.{ℕ, suc, ◌^◌, ◌<◌, ◌≡◌, ◌⊎◌, Bool, ◌&&◌, List, leb, ltb, eqb, length, get_or, take}
use Rattle.loops.specs.Below.{sum}
use Rattle.graph.specs.Rank.{cost_at, Lists}
use Rattle.graph.specs.Violations.{one, violations}
use Rattle.paths.specs.Arrays.{array_tree, array_spare, array_cost, across}
use Rattle.cheapest.specs.Judge.{Judged}

-- Spare s lies over the tree edge of rank k.
abbrev pub over_at : List ℕ → List ℕ → List ℕ → List ℕ → ℕ → ℕ → Bool
over_at as₁ as₂ as₄ mask s k = array_spare as₄ s && across mask (get_or as₁ s 0) (get_or as₂ s 0) k

-- The violations of links in arrays at the costs c; and at those of an array.
abbrev pub violations_by : ℕ → List ℕ → List ℕ → List ℕ → List ℕ → List ℕ → (ℕ → ℕ) → ℕ
violations_by edges ranks as₁ as₂ as₄ mask c = violations edges 64 (over_at as₁ as₂ as₄ mask) c (λ k. c (get_or ranks k 0))

abbrev pub violations_at : ℕ → List ℕ → List ℕ → List ℕ → List ℕ → List ℕ → List ℕ → ℕ
violations_at edges ranks as₁ as₂ as₃ as₄ mask = violations_by edges ranks as₁ as₂ as₄ mask (array_cost as₃)

-- The spares over the tree edge of rank k that cost x.
abbrev pub spares_at : ℕ → List ℕ → List ℕ → List ℕ → List ℕ → List ℕ → ℕ → ℕ → ℕ
spares_at edges as₁ as₂ as₃ as₄ mask k x = sum edges (λ s. one (over_at as₁ as₂ as₄ mask s k && eqb (get_or as₃ s 0) x))

-- A cost above `low`, and at most `high`.
abbrev pub costs_within : ℕ → ℕ → ℕ → Bool
costs_within low high x = ltb low x && leb x high

-- A test that says the same of every cost of 32 bits.
abbrev pub AsksWithin : ℕ → ℕ → (ℕ → Bool) → Type 0
AsksWithin low high p = (x : ℕ) → x < 2 ^ 32 → p x ≡ costs_within low high x

-- The ranks between the ends of link s whose tree edges have a cost that passes.
abbrev pub ranks_that : List ℕ → List ℕ → List ℕ → List ℕ → List ℕ → (ℕ → Bool) → ℕ → ℕ
ranks_that ranks as₁ as₂ as₃ mask p s = sum 64
    (λ k. one (across mask (get_or as₁ s 0) (get_or as₂ s 0) k && p (cost_at as₃ ranks k)))

-- A link of the arrays between two nodes.
pub record Joins (s : ℕ) (as₁ as₂ : List ℕ) : Type 0 where
  pub link : s < 256
  pub first : get_or as₁ s 0 < 64
  pub second : get_or as₂ s 0 < 64

-- What counting asks of the arrays: the ranks are those of the tree links, and the paths of a tree link's ends differ at its own
-- rank alone.
pub record Countable (edges count : ℕ) (ranks as₁ as₂ as₄ mask : List ℕ) : Type 0 where
  pub judged : Judged edges count ranks as₁ as₂ mask
  pub lists : Lists edges (array_tree as₄) (take count ranks)
  pub own : (k : ℕ) → k < count → (j : ℕ) → across mask (get_or as₁ (get_or ranks k 0) 0)
      (get_or as₂ (get_or ranks k 0) 0) j ≡ eqb k j

-- A step of link e's cost from `old` to `new`, where there are b violations before it.
pub record StepOf (edges b e old new : ℕ) (ranks as₁ as₂ as₃ as₄ mask : List ℕ) : Type 0 where
  pub inside : e < edges
  pub places : length as₃ ≡ 256
  pub from : get_or as₃ e 0 ≡ old
  pub by_one : (new ≡ suc old) ⊎ (old ≡ suc new)
  pub before : b ≡ violations_at edges ranks as₁ as₂ as₃ as₄ mask
