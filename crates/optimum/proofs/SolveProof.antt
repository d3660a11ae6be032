-- What the answer of the model is: its costs are the labels of the ranks, its steps the running weight's last value, which
-- is the weight of its pairs and the deviation of its costs; they make the tree minimum, no costs that do take fewer steps,
-- and those that take as few are nowhere lower.
-- Assumes nothing.
use Rattle.std.specs.Prelude.{ℕ, ◌≤◌, ◌<◌, ◌≡◌, ◌≢◌, true, false, not, pos, nat_abs, ◌-ℤ◌, ◌≤ℤ◌, length, get_or}
use Rattle.std.proofs.Common.{arith, ap, sym, ◌∙◌, inl, inr}
use Rattle.std.proofs.Math.Path.{refl}
use mathlib.Core.List.{Memᴰ}
use Rattle.std.specs.Int.Signed.{≤ℤ_refl}
use Rattle.std.proofs.lemmas.Bool.{not-true}
use Rattle.loops.specs.TestLaws.{clash, and_first, and_second, and_both}
use Rattle.loops.specs.SumLaws.{sum_same}
use Rattle.loops.specs.GatherLaws.{length_tabulate, get_d_tabulate}
use Rattle.graph.specs.Graph.{Graph, Sound, EdgeSet, SpanningTree, Minimum}
use Rattle.graph.specs.Rank.{tree_ranks}
use Rattle.graph.specs.RankLaws.{tree_lists}
use Rattle.optimum.specs.Optimum.{Costs, deviation, Pair, IsPair, Matching, weight, Rising, Falls, chosen}
use Rattle.optimum.specs.Search.{Mates, Slots, mates_in, built, matching}
use Rattle.optimum.specs.Lowest.{slot_marks}
use Rattle.optimum.specs.Slackness.{Valid, Slack, rank_deviation, rank_weight}
use Rattle.optimum.specs.Solve.{low_of, low_ranks, problem, new_costs, solve}
use Rattle.optimum.proofs.Duality.{weak, slack_equal, equal_slack}
use Rattle.optimum.proofs.MatchingProof.{weight_kept, built_held, built_valid, matching_slack}
use Rattle.optimum.proofs.SlotLaws.{HeldSlots, slot_mate, slot_below}
use Rattle.optimum.proofs.LowestProof.{Labels, labels, label_costs, labels_slack, labels_lowest}
use Rattle.optimum.proofs.Solution.{
  unranked_of,
  by_rank,
  low_lists,
  ranked,
  edge_rank,
  rank_deviation_lem,
  tree_new,
  spare_new,
  unranked_new,
  label_deviation,
  Mated,
  pairs_of,
  pairs_from_lem,
  pairs_rising,
  pairs_falls,
  pairs_apart,
  pairs_weight_lem,
}
use Rattle.optimum.specs.PairBound.{unpaired_still}
use Rattle.optimum.proofs.RankCriterion.{rank_covers, minimum_feasible, feasible_minimum}

-- The matching and the labels of the answer.
abbrev pub answer_slots : Graph → EdgeSet → (ℕ → ℕ) → Slots
answer_slots g tr c = matching (problem g tr c)

abbrev pub labels_of : Graph → EdgeSet → (ℕ → ℕ) → Labels
labels_of g tr c = labels (problem g tr c) (answer_slots g tr c)

module _ (g : Graph) (tr : EdgeSet) (c : ℕ → ℕ) where
  abbrev mates : Mates
  mates = mates_in (answer_slots g tr c)

  abbrev new : ℕ → ℕ
  new = new_costs c (tree_ranks g tr c) (low_ranks g tr c) (answer_slots g tr c) (slot_marks (problem g tr c) (answer_slots g tr c)).label

  -- The slots hold a valid matching.
  pub solve_held : HeldSlots (problem g tr c) (answer_slots g tr c)
  solve_held = built_held (problem g tr c) (ranked g tr c) (length (tree_ranks g tr c)) (omega arith)

  pub solve_valid : Valid (problem g tr c) (mates_in (answer_slots g tr c))
  solve_valid = built_valid (problem g tr c) (ranked g tr c) (length (tree_ranks g tr c)) (omega arith)

  pub solve_count : length (solve g tr c).costs ≡ g.edges
  unfolding solve
  solve_count = length_tabulate _ g.edges

  -- The costs handed back are the labels, put at their edges.
  pub new_cost :
      (e : ℕ) → e < g.edges
      → get_or (solve g tr c).costs e 0
      ≡ new_costs c (tree_ranks g tr c) (low_ranks g tr c) (answer_slots g tr c) (slot_marks (problem g tr c) (answer_slots g tr c)).label e
  unfolding solve
  new_cost e h = get_d_tabulate _ g.edges e 0 h

  -- An edge costs as much as its rank's label says.
  pub tree_cost_lem :
      (t : ℕ) → t < length (tree_ranks g tr c)
      → get_or (solve g tr c).costs (get_or (tree_ranks g tr c) t 0) 0 ≡ (labels_of g tr c).tree_label t
  tree_cost_lem t h =
      new_cost (get_or (tree_ranks g tr c) t 0) ((tree_lists g tr c).below t h) ∙ tree_new g tr c (answer_slots g tr c) solve_held solve_valid t h

  pub spare_cost_lem :
      (s : ℕ) → s < length (low_ranks g tr c)
      → get_or (solve g tr c).costs (get_or (low_ranks g tr c) s 0) 0 ≡ (labels_of g tr c).spare_label s
  spare_cost_lem s h =
      new_cost (get_or (low_ranks g tr c) s 0) ((low_lists g tr c).below s h) ∙ spare_new g tr c (answer_slots g tr c) solve_held solve_valid s h

  -- The running weight is that of the pairs, added up afresh: at the start and, since a tree rank has at most one chain,
  -- after each chain.
  pub running_weight :
      (t : ℕ) → t ≤ length (tree_ranks g tr c)
      → weight c (pairs_of g tr c (built (problem g tr c) t).pairs) ≡ pos (built (problem g tr c) t).weight
  running_weight t l =
      rw (weight_kept (problem g tr c) (ranked g tr c) t l)
      (pairs_weight_lem g tr c (built (problem g tr c) t).pairs (built_held (problem g tr c) (ranked g tr c) t l)
      (built_valid (problem g tr c) (ranked g tr c) t l))

  -- Its last value is the step count.
  pub last_weight : (solve g tr c).steps ≡ (built (problem g tr c) (length (tree_ranks g tr c))).weight
  unfolding solve
  last_weight = refl

  -- The pairs listed are those of the matching.
  pub solve_pairs : (solve g tr c).pairs ≡ pairs_of g tr c (answer_slots g tr c)
  unfolding solve
  solve_pairs = refl

  pub solve_rising : Rising (solve g tr c).pairs
  solve_rising = rw solve_pairs (pairs_rising g tr c (answer_slots g tr c))

  -- The matching and the labels are slack: each proves the other best.
  pub solve_slack : Slack (problem g tr c) (mates_in (answer_slots g tr c)) (label_costs (labels_of g tr c))
  solve_slack =
      let some = matching_slack (problem g tr c) (ranked g tr c) in
      labels_slack (problem g tr c) (ranked g tr c) (answer_slots g tr c) solve_held solve_valid some.0 some.1

  pub solve_falls : Falls c (solve g tr c).pairs
  solve_falls = rw solve_pairs (pairs_falls g tr c (answer_slots g tr c) solve_held solve_valid)

  pub solve_weighs : weight c (solve g tr c).pairs ≡ pos (solve g tr c).steps
  solve_weighs = rw (solve_pairs, last_weight) (running_weight (length (tree_ranks g tr c)) (omega arith))

  steps_weight : (solve g tr c).steps ≡ rank_weight (problem g tr c) mates
  steps_weight = last_weight ∙ weight_kept (problem g tr c) (ranked g tr c) (length (tree_ranks g tr c)) (omega arith)

  -- Edges without a rank keep their cost; so do those that may not be used and are not in the tree.
  pub solve_unranked : (e : ℕ) → e < g.edges → unranked_of g tr c e ≡ true → get_or (solve g tr c).costs e 0 ≡ c e
  solve_unranked e h q = new_cost e h ∙ unranked_new g tr c (answer_slots g tr c) solve_held solve_valid e q

  pub solve_idle : (e : ℕ) → e < g.edges → g.live e ≡ false → tr e ≡ false → get_or (solve g tr c).costs e 0 ≡ c e
  solve_idle e h idle out = solve_unranked e h (rw (idle, out))

  module _ (sound : Sound g) (tree : SpanningTree g tr) where
    pub solve_minimum : Minimum g tr (chosen (solve g tr c))
    solve_minimum =
        feasible_minimum sound tree c (chosen (solve g tr c))
        (λ t s h l q. rw (tree_cost_lem t h, spare_cost_lem s l) (solve_slack.feasible t s h l q))
        (λ t h. rw (tree_cost_lem t h) (solve_slack.below t h))
        (λ s l. rw (spare_cost_lem s l) (solve_slack.above s l))
        (λ e h out high. rw (solve_unranked e h (and_both _ _ (ap not high) (ap not out))) (≤ℤ_refl (pos (c e))))

    mated_pair :
        (e x : ℕ) → Mated (tree_ranks g tr c) (low_ranks g tr c) (answer_slots g tr c) e x
        → IsPair g tr (record { tree = e; spare = x })
    mated_pair e x m =
        let k : ℕ = m.slot in
        let t : ℕ = (answer_slots g tr c).tree_of k in
        let s : ℕ = (answer_slots g tr c).spare_of k in
        let l : t < length (tree_ranks g tr c) = slot_below _ (answer_slots g tr c) solve_held solve_valid k m.below in
        let b : s < length (low_ranks g tr c) = solve_held.ranks k m.below in
        rw (sym m.tree, sym m.spare)
        record {
          tree_below = (tree_lists g tr c).below t l;
          tree_in = (tree_lists g tr c).inside t l;
          spare_below = (low_lists g tr c).below s b;
          spare_in = and_first _ _ ((low_lists g tr c).inside s b);
          covers =
              rank_covers sound tree c t s l b
              (solve_valid.covers s t b (slot_mate _ (answer_slots g tr c) solve_held k m.below));
        }

    pub solve_matching : Matching g tr (solve g tr c).pairs
    solve_matching =
        rw solve_pairs
        record {
          pairs = λ q m. mated_pair q.tree q.spare (pairs_from_lem g tr c (answer_slots g tr c) q m);
          apart = pairs_apart g tr c (answer_slots g tr c) solve_held solve_valid;
        }

  -- The step count is the sum of their changes.
  pub solve_steps : (solve g tr c).steps ≡ deviation g c (chosen (solve g tr c))
  solve_steps =
      steps_weight
      ∙ sym (slack_equal (problem g tr c) mates (label_costs (labels_of g tr c)) solve_valid solve_slack)
      ∙ sym (label_deviation g tr c (answer_slots g tr c) solve_held solve_valid)
      ∙ sum_same g.edges (λ e. nat_abs (pos (new e) -ℤ pos (c e)))
      (λ e. nat_abs (chosen (solve g tr c) e -ℤ pos (c e))) (λ e h. rw (new_cost e h))

  -- An edge without a rank is in no pair.
  unranked_unpaired :
      (e : ℕ) → unranked_of g tr c e ≡ true → (p : Pair) → Memᴰ p (solve g tr c).pairs → (e ≢ p.tree) × (e ≢ p.spare)
  unranked_unpaired e i p k =
      let m = pairs_from_lem g tr c (answer_slots g tr c) p (rw solve_pairs at k) in
      let l = slot_below _ (answer_slots g tr c) solve_held solve_valid m.slot m.below in
      let t = (tree_lists g tr c).inside ((answer_slots g tr c).tree_of m.slot) l in
      let s = (low_lists g tr c).inside ((answer_slots g tr c).spare_of m.slot) (solve_held.ranks m.slot m.below) in (
        λ q. clash (rw (m.tree ∙ sym q) at t) (not-true _ (and_second (not (low_of g tr c e)) _ i)),
        λ q. clash (rw (m.spare ∙ sym q) at s) (not-true _ (and_first _ _ i)),
      )

  module _ (sound : Sound g) (tree : SpanningTree g tr) where
    least : (d : Costs) → Minimum g tr d → (solve g tr c).steps ≤ rank_deviation (problem g tr c) (by_rank g tr c d)
    least d m =
        rw steps_weight
        (weak (problem g tr c) mates (by_rank g tr c d) solve_valid (minimum_feasible sound tree c d m))

    pub solve_fewest : (d : Costs) → Minimum g tr d → (solve g tr c).steps ≤ deviation g c d
    solve_fewest d m = omega (arith, least d m, rank_deviation_lem g tr c d)

    pub solve_lowest :
        (d : Costs) → Minimum g tr d → deviation g c d ≡ (solve g tr c).steps → (e : ℕ) → e < g.edges
        → chosen (solve g tr c) e ≤ℤ d e
    solve_lowest d m q e h =
        let slack : Slack (problem g tr c) mates (by_rank g tr c d) =
        equal_slack (problem g tr c) mates (by_rank g tr c d) solve_valid (minimum_feasible sound tree c d m)
        (omega (arith, rank_deviation_lem g tr c d, least d m, steps_weight)) in
        let lowest = labels_lowest (problem g tr c) (ranked g tr c) (answer_slots g tr c) solve_held solve_valid (by_rank g tr c d) slack in
        let weighs : weight c (solve g tr c).pairs ≡ pos (deviation g c d) = solve_weighs ∙ ap pos (sym q) in
        let still = unpaired_still sound tree c d m (solve g tr c).pairs (solve_matching sound tree) solve_falls weighs in
        elim (edge_rank g tr c e h) [
          | inl t ↦ rw (sym t.2, tree_cost_lem t.0 t.1) (lowest.0 t.0 t.1)
          | inr (inl s) ↦ rw (sym s.2, spare_cost_lem s.0 s.1) (lowest.1 s.0 s.1)
          | inr (inr i) ↦ rw (solve_unranked e h i, still e h (unranked_unpaired e i)) (≤ℤ_refl (pos (c e)))
        ]
