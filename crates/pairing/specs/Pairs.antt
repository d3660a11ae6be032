-- The test of a listed pair over arrays. Definitions only. Assumes nothing.
use Rattle.std.specs.Prelude.{ℕ, Bool, ◌&&◌, List, ltb, get_or, take}
use Rattle.loops.specs.Below.{all_below}
use Rattle.paths.specs.Arrays.{array_tree, array_spare, array_cost, across}
use Rattle.frame.specs.Arrays.{Arrays}
use Rattle.frame.specs.Answers.{rank_of, pair_from}

-- A pair of links t and s: t in the tree, s a spare, s covers t, and the old cost of s is below that of t. The first
-- `trees` ranks count.
unfoldable pub pair_held : ℕ → ℕ → Arrays → ℕ → ℕ → Bool
pair_held edges trees a t s =
    ltb t edges &&
    array_tree a.links.mark t &&
    ltb s edges &&
    array_spare a.links.mark s &&
    across a.mask (get_or a.links.end₁ s 0) (get_or a.links.end₂ s 0) (rank_of (take trees a.ranks) t) &&
    ltb (array_cost a.links.cost s) (array_cost a.links.cost t)

abbrev pub pairs_held : ℕ → ℕ → Arrays → ℕ → List ℕ → Bool
pairs_held edges trees a count ps = all_below count λ i. pair_held edges trees a (pair_from ps i).tree (pair_from ps i).spare
