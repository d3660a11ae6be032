-- How far the answer goes: every new cost is the old cost of some edge, tree edges do not rise and non-tree edges do not fall,
-- paired edges get equal costs and the others keep theirs; and how many pairs and steps there can be. Assumes nothing.
use Rattle.std.specs.Prelude.{ℕ, ◌*◌, ◌-◌, ◌≤◌, ◌<◌, ◌≡◌, ◌≢◌, true, false, not, length, get_or}
use Rattle.std.proofs.Common.{le_trans, mul-le-mul_right, arith, ap, sym, ◌∙◌, inl, inr}
use mathlib.Core.List.{Memᴰ}
use Rattle.loops.specs.TestLaws.{truth, and_both}
use Rattle.loops.specs.SumLaws.{sum_over, sum_over_most}
use Rattle.graph.specs.Graph.{Graph, EdgeSet, count}
use Rattle.graph.specs.Rank.{tree_ranks}
use Rattle.graph.specs.RankLaws.{tree_lists}
use Rattle.graph.specs.Integers.{le_pos}
use Rattle.optimum.specs.Optimum.{Pair, Answer, Demanded}
use Rattle.optimum.specs.Lowest.{slot_marks}
use Rattle.optimum.specs.Solve.{low_of, low_ranks, problem, solve}
use Rattle.optimum.proofs.SlotLaws.{slot_below}
use Rattle.optimum.proofs.LowestProof.{Old, marks_old}
use Rattle.optimum.specs.PairLaws.{rising_count, falls_weight}
use Rattle.optimum.proofs.Solution.{low_lists, ranked, free_new, new_view, tree_slot_new, spare_slot_new, Mated, pairs_from_lem, pairs_has}
use Rattle.optimum.proofs.SolveProof.{answer_slots, solve_held, solve_valid, new_cost, tree_cost_lem, spare_cost_lem, solve_pairs, solve_slack, solve_unranked}

module _ (g : Graph) (tr : EdgeSet) (c : ℕ → ℕ) where
  abbrev label : ℕ → ℕ
  label = (slot_marks (problem g tr c) (answer_slots g tr c)).label

  old_edge : (v : ℕ) → Old (problem g tr c) v → (x : ℕ) × (x < g.edges) × (v ≡ c x)
  old_edge v (inl (t, h, q)) = (get_or (tree_ranks g tr c) t 0, (tree_lists g tr c).below t h, q)
  old_edge v (inr (s, h, q)) = (get_or (low_ranks g tr c) s 0, (low_lists g tr c).below s h, q)

  -- Every new cost is the old cost of some edge; so it lies where the old costs lie.
  pub new_old : (e : ℕ) → e < g.edges → (x : ℕ) × (x < g.edges) × (get_or (solve g tr c).costs e 0 ≡ c x)
  new_old e h = elim (new_view g tr c (answer_slots g tr c) label e) [
    | inl q ↦ (e, h, new_cost g tr c e h ∙ q)
    | inr (k, a, q) ↦
        let (x, l, r) = old_edge (label k) (marks_old (problem g tr c) (ranked g tr c) (answer_slots g tr c) (solve_held g tr c) k a) in
        (x, l, new_cost g tr c e h ∙ q ∙ r)
  ]

  pub new_most : (b : ℕ) → ((x : ℕ) → x < g.edges → c x ≤ b) → (e : ℕ) → e < g.edges → get_or (solve g tr c).costs e 0 ≤ b
  new_most b most e h =
      let (x, l, q) = new_old e h in
      omega (arith, most x l)

  pub new_least : (b : ℕ) → ((x : ℕ) → x < g.edges → b ≤ c x) → (e : ℕ) → e < g.edges → b ≤ get_or (solve g tr c).costs e 0
  new_least b least e h =
      let (x, l, q) = new_old e h in
      omega (arith, least x l)

  pub tree_new_most : (e : ℕ) → e < g.edges → tr e ≡ true → get_or (solve g tr c).costs e 0 ≤ c e
  tree_new_most e h i =
      let (t, l, q) = (tree_lists g tr c).every e h i in
      rw (← q, tree_cost_lem g tr c t l) (le_pos ((solve_slack g tr c).below t l))

  pub spare_new_least : (e : ℕ) → e < g.edges → tr e ≡ false → c e ≤ get_or (solve g tr c).costs e 0
  spare_new_least e h o =
      elim (truth (low_of g tr c e)) [
        | inl v ↦
            let (s, l, q) = (low_lists g tr c).every e h v in
            rw (← q, spare_cost_lem g tr c s l) (le_pos ((solve_slack g tr c).above s l))
        | inr v ↦ omega (arith, solve_unranked g tr c e h (and_both _ _ (ap not v) (ap not o)))
      ]

  -- Paired edges get equal costs.
  pub paired_equal :
      (q : Pair) → Memᴰ q (solve g tr c).pairs
      → get_or (solve g tr c).costs q.tree 0 ≡ get_or (solve g tr c).costs q.spare 0
  paired_equal q k = mated_equal (pairs_from_lem g tr c (answer_slots g tr c) q (rw (solve_pairs g tr c) at k))
    where
      mated_equal :
          {e x : ℕ} → Mated (tree_ranks g tr c) (low_ranks g tr c) (answer_slots g tr c) e x
          → get_or (solve g tr c).costs e 0 ≡ get_or (solve g tr c).costs x 0
      mated_equal m =
          let held = solve_held g tr c in
          let valid = solve_valid g tr c in
          let t = (tree_lists g tr c).below _ (slot_below _ (answer_slots g tr c) held valid m.slot m.below) in
          let s = (low_lists g tr c).below _ (held.ranks m.slot m.below) in
          rw (← m.tree, ← m.spare)
          (new_cost g tr c _ t ∙ tree_slot_new g tr c (answer_slots g tr c) label held valid m.slot m.below
          ∙ sym (new_cost g tr c _ s ∙ spare_slot_new g tr c (answer_slots g tr c) label held valid m.slot m.below))

  -- An edge in no pair keeps its cost.
  pub unpaired_same :
      (e : ℕ) → e < g.edges → ((q : Pair) → Memᴰ q (solve g tr c).pairs → (e ≢ q.tree) × (e ≢ q.spare))
      → get_or (solve g tr c).costs e 0 ≡ c e
  unpaired_same e h none =
      new_cost g tr c e h
      ∙ free_new g tr c (answer_slots g tr c) label e
      (λ k a. none _ (rw (solve_pairs g tr c) (pairs_has g tr c (answer_slots g tr c) (solve_held g tr c) (solve_valid g tr c) k a)))

-- Of every answer that is as demanded: there are no more pairs than tree edges, and no more steps than pairs times the
-- largest old cost.
module _ {g : Graph} {tr : EdgeSet} {c : ℕ → ℕ} {a : Answer} (d : Demanded g tr c a) where
  pub pairs_few : length a.pairs ≤ count g.edges tr
  pairs_few =
      rising_count g.edges tr a.pairs d.rising
      (λ q m. ((d.matching.pairs q m).tree_below, (d.matching.pairs q m).tree_in))

  module _ (b : ℕ) (most : (e : ℕ) → e < g.edges → c e ≤ b) where
    pub steps_most : a.steps ≤ length a.pairs * b
    steps_most =
        let same : a.steps ≡ sum_over (λ q. c q.tree - c q.spare) a.pairs =
        cc (d.weighs, falls_weight c a.pairs d.falls) in
        rw same
        (sum_over_most (λ q. c q.tree - c q.spare) a.pairs b
        (λ q m. omega (arith, most q.tree (d.matching.pairs q m).tree_below)))

    pub steps_few : (n : ℕ) → count g.edges tr ≤ n → a.steps ≤ n * b
    steps_few n few = le_trans steps_most (mul-le-mul_right b (le_trans pairs_few few))
