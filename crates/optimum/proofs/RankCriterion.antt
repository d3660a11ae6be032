-- The criterion by rank: costs that make the tree minimum are feasible by rank; costs that are feasible by rank, and lower no
-- non-tree edge and raise no tree edge, make the tree minimum. Assumes nothing.
use Rattle.std.specs.Prelude.{ℕ, ◌≤◌, ◌<◌, ◌≡◌, ◌↔◌, true, false, not, ◌&&◌, pos, ◌≤ℤ◌, ltb, length, get_or}
use Rattle.std.proofs.Math.Decide.{dec_lt}
use Rattle.std.proofs.Common.{arith, ap, inl, inr, lt-ltb}
use Rattle.loops.specs.TestLaws.{truth, clash, and_first, and_both}
use Rattle.loops.specs.FirstLaws.{some_of}
use Rattle.graph.specs.Graph.{Graph, Sound, EdgeSet, SpanningTree, Minimum, Covers, spare_of}
use Rattle.graph.specs.Integers.{pos_le, ≤ℤ_trans}
use Rattle.graph.specs.Rank.{tree_ranks}
use Rattle.graph.specs.RankLaws.{tree_lists}
use Rattle.graph.specs.Paths.{rooted, covers_rank}
use Rattle.graph.specs.Walks.{walk_member}
use Rattle.graph.specs.Criterion.{Test, criterion}
use Rattle.graph.proofs.Tree.{covers_means}
use Rattle.optimum.specs.Optimum.{Costs}
use Rattle.optimum.specs.Slackness.{Feasible}
use Rattle.optimum.specs.Solve.{low_of, low_ranks, problem}
use Rattle.optimum.proofs.Solution.{by_rank, low_lists, low_out}

module _ {g : Graph} (sound : Sound g) {tr : EdgeSet} (tree : SpanningTree g tr) (c : ℕ → ℕ) where
  means :
      (t s : ℕ) → t < length (tree_ranks g tr c) → s < length (low_ranks g tr c)
      → (covers_rank g (rooted g (tree_ranks g tr c)) (get_or (low_ranks g tr c) s 0) t ≡ true)
      ↔ Covers g tr (get_or (low_ranks g tr c) s 0) (get_or (tree_ranks g tr c) t 0)
  means t s h l =
      covers_means sound (tree_lists g tr c) tree (get_or (low_ranks g tr c) s 0) t ((low_lists g tr c).below s l)
      (and_first _ _ (and_first _ _ ((low_lists g tr c).inside s l))) h

  -- What covers by rank, covers.
  pub rank_covers :
      (t s : ℕ) → t < length (tree_ranks g tr c) → s < length (low_ranks g tr c) → (problem g tr c).covers t s ≡ true
      → Covers g tr (get_or (low_ranks g tr c) s 0) (get_or (tree_ranks g tr c) t 0)
  rank_covers t s h l q = (means t s h l).0 (and_first _ _ q)

  pub minimum_feasible : (d : Costs) → Minimum g tr d → Feasible (problem g tr c) (by_rank g tr c d)
  minimum_feasible d m t s h l q =
      (criterion g sound tr tree d).0 m (get_or (low_ranks g tr c) s 0) (get_or (tree_ranks g tr c) t 0)
      ((low_lists g tr c).below s l) (low_out g tr c s l) (rank_covers t s h l q)

  -- Costs that raise no tree edge and lower no non-tree edge: a non-tree edge that cost no less than a tree edge that it
  -- covers still costs no less.
  module _ (d : Costs) (feasible : Feasible (problem g tr c) (by_rank g tr c d))
      (below : (t : ℕ) → t < length (tree_ranks g tr c) → d (get_or (tree_ranks g tr c) t 0) ≤ℤ pos (c (get_or (tree_ranks g tr c) t 0)))
      (above : (s : ℕ) → s < length (low_ranks g tr c) → pos (c (get_or (low_ranks g tr c) s 0)) ≤ℤ d (get_or (low_ranks g tr c) s 0))
      (still : (e : ℕ) → e < g.edges → tr e ≡ false → low_of g tr c e ≡ false → pos (c e) ≤ℤ d e) where
    ordered :
        (t s : ℕ) → t < length (tree_ranks g tr c) → s < length (low_ranks g tr c)
        → Covers g tr (get_or (low_ranks g tr c) s 0) (get_or (tree_ranks g tr c) t 0)
        → d (get_or (tree_ranks g tr c) t 0) ≤ℤ d (get_or (low_ranks g tr c) s 0)
    ordered t s h l v = elim (dec_lt (c (get_or (low_ranks g tr c) s 0)) (c (get_or (tree_ranks g tr c) t 0))) [
      | yes k ↦ feasible t s h l (and_both _ _ ((means t s h l).1 v) (lt-ltb _ _ k))
      | no k ↦ ≤ℤ_trans (below t h) (≤ℤ_trans (pos_le (omega arith)) (above s l))
    ]

    -- One that has no rank cost no less than what it covers.
    unranked :
        (t e : ℕ) → t < length (tree_ranks g tr c) → e < g.edges → spare_of g tr e ≡ true → low_of g tr c e ≡ false
        → Covers g tr e (get_or (tree_ranks g tr c) t 0) → c (get_or (tree_ranks g tr c) t 0) ≤ c e
    unranked t e h b o q v = elim (dec_lt (c e) (c (get_or (tree_ranks g tr c) t 0))) [
      | no k ↦ omega arith
      | yes k ↦
          let over = (covers_means sound (tree_lists g tr c) tree e t b v.usable h).1 v in
          clash
          (and_both _ _ o
          (some_of (length (tree_ranks g tr c))
          (λ t. covers_rank g (rooted g (tree_ranks g tr c)) e t && ltb (c e) (c (get_or (tree_ranks g tr c) t 0)))
          t h (and_both _ _ over (lt-ltb _ _ k))))
          q
    ]

    test : Test g tr d
    test s t b out v =
        let (l, i) = walk_member v.walk v.holds in
        let (j, h, p) = (tree_lists g tr c).every t l i in
        elim (truth (low_of g tr c s)) [
          | inl low ↦
              let (k, m, q) = (low_lists g tr c).every s b low in
              rw (p, q) at (ordered j k h m (rw (p, q) v))
          | inr low ↦
              let spare : spare_of g tr s ≡ true = and_both (g.live s) (not (tr s)) v.usable (ap not out) in
              rw p at (≤ℤ_trans (below j h) (≤ℤ_trans (pos_le (unranked j s h b spare low (rw p v))) (still s b out low)))
        ]

    pub feasible_minimum : Minimum g tr d
    feasible_minimum = (criterion g sound tr tree d).1 test
