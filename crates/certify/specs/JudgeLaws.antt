-- The judge of answer frames over arrays is the model's: each of its tests, a frame that is not read, and the verdict.
-- Assumes nothing.
use Rattle.std.specs.Prelude.{ℕ, suc, ◌-◌, ◌≤◌, ◌<◌, ◌≡◌, refl, false, not, ◌&&◌, ◌||◌, List, [], ◌∷◌, Some, None, leb, length, take}
use Rattle.std.proofs.Common.{arith, ap, ap₂, subst, ◌∙◌, inl, inr, ltb-true, eq-eqb, ne_eqb}
use Rattle.std.proofs.Math.Path.{sym}
use Rattle.std.proofs.Math.Bool.{Bool, true}
use Rattle.std.proofs.Math.Option.{Option, some, none}
use Rattle.std.proofs.Math.Dec.{ltb, eqb}
use Rattle.std.proofs.Math.ListN.{get_or}
use Rattle.loops.specs.Below.{sum, all_below}
use Rattle.loops.specs.Loop.{tabulate}
use Rattle.loops.specs.TestLaws.{truth, and_first, and_second, all_at, all_same}
use Rattle.loops.specs.SumLaws.{sum_same}
use Rattle.loops.specs.GatherLaws.{length_tabulate, get_d_tabulate}
use Rattle.loops.specs.Ordered.{member_place}
use Rattle.graph.specs.Graph.{Graph, EdgeSet, count, spare_of}
use Rattle.graph.specs.Rank.{Lists, tree_ranks}
use Rattle.graph.specs.RankLaws.{tree_lists}
use Rattle.graph.specs.Paths.{rooted, covers_rank, judge}
use Rattle.optimum.specs.Optimum.{Pair, Answer, Rising}
use Rattle.optimum.specs.PairLaws.{rising_count}
use Rattle.paths.specs.Arrays.{array_graph, array_tree, array_cost, paths}
use Rattle.paths.specs.RootLaws.{across_covers}
use Rattle.frame.specs.Job.{Job}
use Rattle.frame.specs.Arrays.{Arrays}
use Rattle.frame.specs.Answers.{pair_from, no_pair, rank_of, pair_holds, pairs_rise, pairs_weight, gap, answer_holds, read_answer, judge_read, judge_answer}
use Rattle.answer_read.specs.declared.Contents.{Contents}
use Rattle.codec.specs.Held.{pairs_at}
use Rattle.answer_read.specs.Reading.{contents, few}
use Rattle.answer_read.specs.AnswerLaws.{found_answer, missed_answer}
use Rattle.weighing.specs.Weighing.{pair_rises, fall}
use Rattle.pairing.specs.Pairs.{pair_held, pairs_held}
use Rattle.held.specs.Held.{Held}
use Rattle.held.specs.HeldLaws.{graph_stored, tree_stored, few_nodes, tree_count, paths_held}

-- ---- the tests, of pairs in arrays

module _ (n : ℕ) (ps : List ℕ) where
  abbrev pairs : List Pair
  pairs = pairs_at n ps

  size : length pairs ≡ n
  size = length_tabulate (pair_from ps) n

  at : (i : ℕ) → i < n → get_or pairs i no_pair ≡ pair_from ps i
  at i l = get_d_tabulate (pair_from ps) n i no_pair l

  rise_model : all_below n (pair_rises ps) ≡ pairs_rise pairs
  rise_model =
      rw size
      (all_same n _ _ λ i l.
      all_same i _ _ λ k b.
      sym (ap₂ (λ (x y : Pair). ltb x.tree y.tree && not (eqb x.spare y.spare)) (at k (omega arith)) (at i l)))

  weight_model : (as₃ : List ℕ) → sum n (fall ps as₃) ≡ pairs_weight (array_cost as₃) pairs
  weight_model as₃ =
      rw size
      (sum_same n _ _ λ i l. rw (at i l))

  module _ (nodes edges p : ℕ) (a : Arrays) where
    abbrev graph : Graph
    graph = array_graph nodes edges a.links.end₁ a.links.end₂ a.links.mark

    abbrev holds : Pair → Bool
    holds = pair_holds graph (array_tree a.links.mark) (array_cost a.links.cost) (take p a.ranks)

    module _ (same : paths a.mask ≡ (rooted graph (take p a.ranks)).path) where
      pair_model : (t s : ℕ) → pair_held edges p a t s ≡ holds (record { tree = t; spare = s })
      unfolding pair_held pair_holds
      pair_model t s =
          rw (across_covers nodes edges a.links.end₁ a.links.end₂ a.links.mark a.mask (take p a.ranks) same s (rank_of (take p a.ranks) t))

      pairs_model : pairs_held edges p a n ps ≡ all_below (length pairs) (λ i. holds (get_or pairs i no_pair))
      pairs_model =
          rw size
          (all_same n _ _ λ i l. pair_model (pair_from ps i).tree (pair_from ps i).spare ∙ ap holds (sym (at i l)))

-- ---- the new costs

steps_model :
    (edges : ℕ) (costs : List ℕ) (c : ℕ → ℕ)
    → sum edges (λ e. gap (get_or costs e 0) (c e)) ≡ sum edges (λ e. gap (get_or (tabulate edges (λ e. get_or costs e 0)) e 0) (c e))
steps_model edges costs c =
    sum_same edges _ _ (λ e l. ap (λ x. gap x (c e)) (sym (get_d_tabulate (λ e. get_or costs e 0) edges e 0 l)))

-- The judge of trees asks for the costs of edges only.
judge_alike :
    (g : Graph) (tr : EdgeSet) (d d' : ℕ → ℕ) (ranks : List ℕ) → ((k : ℕ) → k < length ranks → get_or ranks k 0 < g.edges)
    → ((e : ℕ) → e < g.edges → d e ≡ d' e) → judge g tr d ranks ≡ judge g tr d' ranks
unfolding judge
judge_alike g tr d d' ranks below same =
    all_same g.edges _ _ λ s l.
    ap (λ b. not (g.live s && not (tr s)) || b)
    (all_same (length ranks) _ _ λ k b.
    ap₂ (λ x y. not (covers_rank g (rooted g ranks) s k) || leb x y) (same (get_or ranks k 0) (below k b)) (same s l))

-- ---- more than 64 pairs

rising_of : (ps : List Pair) → ((k i : ℕ) → k < i → i < length ps → (get_or ps k no_pair).tree < (get_or ps i no_pair).tree) → Rising ps
rising_of [] h = tt
rising_of (p ∷ ps) h = (
  λ q m. let (i, l, e) = member_place no_pair m in rw (← e) (h 0 (suc i) (omega arith) (omega (arith, l))),
  rising_of ps (λ k i l b. h (suc k) (suc i) (omega arith) (omega arith)),
)

module _ (g : Graph) (tr : EdgeSet) (c : ℕ → ℕ) (ranks : List ℕ) where
  pair_tree : (q : Pair) → pair_holds g tr c ranks q ≡ true → (q.tree < g.edges) × (tr q.tree ≡ true)
  unfolding pair_holds
  pair_tree q h =
      let t₁ : Bool = ltb q.tree g.edges in
      let t₂ : Bool = t₁ && tr q.tree in
      let t₃ : Bool = t₂ && ltb q.spare g.edges in
      let t₄ : Bool = t₃ && spare_of g tr q.spare in
      let t₅ : Bool = t₄ && covers_rank g (rooted g ranks) q.spare (rank_of ranks q.tree) in
      let front : t₂ ≡ true = and_first t₂ _ (and_first t₃ _ (and_first t₄ _ (and_first t₅ _ h))) in
      (ltb-true _ _ (and_first t₁ _ front), and_second t₁ _ front)

  pairs_count :
      (a : Answer) → pairs_rise a.pairs ≡ true → all_below (length a.pairs) (λ i. pair_holds g tr c ranks (get_or a.pairs i no_pair)) ≡ true
      → length a.pairs ≤ count g.edges tr
  pairs_count a rise held =
      rising_count g.edges tr a.pairs
      (rising_of a.pairs λ k i l b.
      ltb-true _ _ (and_first (ltb (get_or a.pairs k no_pair).tree (get_or a.pairs i no_pair).tree) _
      (all_at i _ (all_at (length a.pairs) _ rise i b) k l)))
      λ q m.
      let (i, l, e) = member_place no_pair m in
      rw (← e) (pair_tree (get_or a.pairs i no_pair) (all_at (length a.pairs) _ held i l))

  pairs_few : (a : Answer) → Lists g.edges tr ranks → answer_holds g tr c ranks a ≡ true → length a.pairs ≤ length ranks
  unfolding answer_holds
  pairs_few a lists h =
      let t₂ : Bool = eqb a.steps (sum g.edges (λ e. gap (get_or a.costs e 0) (c e))) && judge g tr (λ e. get_or a.costs e 0) ranks in
      let t₃ : Bool = t₂ && all_below (length a.pairs) (λ i. pair_holds g tr c ranks (get_or a.pairs i no_pair)) in
      let t₄ : Bool = t₃ && pairs_rise a.pairs in
      let front : t₄ ≡ true = and_first t₄ _ h in
      let rise : pairs_rise a.pairs ≡ true = and_second t₃ _ front in
      let held : all_below (length a.pairs) (λ i. pair_holds g tr c ranks (get_or a.pairs i no_pair)) ≡ true = and_second t₂ _ (and_first t₃ _ front) in
      omega (arith, lists.size, pairs_count a rise held)

-- ---- the verdict

-- The five tests: steps, new costs, pairs, their order, their weight.
unfoldable pub five_tests : ℕ → ℕ → Bool → Bool → Bool → ℕ → Bool
five_tests steps x cheapest held rise w = eqb steps x && cheapest && held && rise && eqb w steps

module _ (steps x : ℕ) (cheapest held rise : Bool) (w : ℕ) where
  pub verdict_steps : (x ≡ steps → ⊥) → five_tests steps x cheapest held rise w ≡ false
  unfolding five_tests
  verdict_steps d = rw (ne_eqb steps x (λ e. d (sym e)))

  module _ (e : x ≡ steps) where
    pub verdict_costs : cheapest ≡ false → five_tests steps x cheapest held rise w ≡ false
    unfolding five_tests
    verdict_costs h = rw (eq-eqb steps x (sym e), h)

    pub verdict_pairs : cheapest ≡ true → held ≡ false → five_tests steps x cheapest held rise w ≡ false
    unfolding five_tests
    verdict_pairs h₁ h = rw (eq-eqb steps x (sym e), h₁, h)

    pub verdict_order : cheapest ≡ true → held ≡ true → rise ≡ false → five_tests steps x cheapest held rise w ≡ false
    unfolding five_tests
    verdict_order h₁ h₂ h = rw (eq-eqb steps x (sym e), h₁, h₂, h)

    pub verdict_weight : cheapest ≡ true → held ≡ true → rise ≡ true → five_tests steps x cheapest held rise w ≡ eqb w steps
    unfolding five_tests
    verdict_weight h₁ h₂ h₃ = rw (eq-eqb steps x (sym e), h₁, h₂, h₃)

-- The job in the arrays, and what was read.
module _ (j : Job) (nodes edges : ℕ) (a : Arrays) (h : Held j nodes edges a)
    (frame costs ps : List ℕ) where
  abbrev graph_at : Graph
  graph_at = array_graph nodes edges a.links.end₁ a.links.end₂ a.links.mark

  abbrev tree_at : EdgeSet
  tree_at = array_tree a.links.mark

  abbrev old_cost : ℕ → ℕ
  old_cost = array_cost a.links.cost

  abbrev ranks_at : List ℕ
  ranks_at = take (nodes - 1) a.ranks

  ranks_is : tree_ranks graph_at tree_at old_cost ≡ ranks_at
  ranks_is = (λ i. tree_ranks (graph_stored h.stored i) (tree_stored h.stored i) (h.stored.cost i)) ∙ sym h.ranks

  lists : Lists edges tree_at ranks_at
  lists = subst (λ (l : List ℕ). Lists edges tree_at l) ranks_is (tree_lists graph_at tree_at old_cost)

  judged_some : (b : Answer) → read_answer edges frame ≡ some b → judge_answer j frame ≡ answer_holds graph_at tree_at old_cost ranks_at b
  unfolding judge_read
  judged_some b e =
      rw (sym h.stored.edges_are, e)
      (λ i. answer_holds (sym (graph_stored h.stored) i) (sym (tree_stored h.stored) i) (sym h.stored.cost i) (sym h.ranks i) b)

  judged_none : read_answer edges frame ≡ none → judge_answer j frame ≡ false
  unfolding judge_read
  judged_none e = rw (sym h.stored.edges_are, e)

  -- A frame that was not read.
  pub verdict_unread : contents edges None costs ps ≡ few (read_answer edges frame) → judge_answer j frame ≡ false
  verdict_unread found = of (read_answer edges frame) refl
    where
      of : (o : Option Answer) → read_answer edges frame ≡ o → judge_answer j frame ≡ false
      of none e = judged_none e
      of (some b) e =
          judged_some b e
          ∙ elim (truth (answer_holds graph_at tree_at old_cost ranks_at b)) [
            | inr m ↦ m
            | inl y ↦
                absurd (omega (
                  arith,
                  missed_answer edges costs ps (read_answer edges frame) found b e,
                  pairs_few graph_at tree_at old_cost ranks_at b lists y,
                  few_nodes h,
                  ap length h.ranks,
                  tree_count h,
                ))
          ]

  -- A frame that was read.
  module _ (r : Contents) (found : contents edges (Some r) costs ps ≡ few (read_answer edges frame)) where
    pub verdict_read :
        judge_answer j frame
        ≡ five_tests r.steps (sum edges (λ e. gap (get_or costs e 0) (get_or a.links.cost e 0)))
        (judge (array_graph nodes edges a.links.end₁ a.links.end₂ a.links.mark) (array_tree a.links.mark) (array_cost costs)
        (take (nodes - 1) a.ranks))
        (pairs_held edges (nodes - 1) a r.count ps)
        (all_below r.count (pair_rises ps))
        (sum r.count (fall ps a.links.cost))
    unfolding answer_holds five_tests
    verdict_read =
        judged_some _ (found_answer edges costs ps r (read_answer edges frame) found)
        ∙ rw (
          steps_model edges costs old_cost,
          judge_alike graph_at tree_at (array_cost costs) (λ e. get_or (tabulate edges (λ e. get_or costs e 0)) e 0) ranks_at lists.below
              (λ e l. sym (get_d_tabulate (λ e. get_or costs e 0) edges e 0 l)),
          pairs_model r.count ps nodes edges (nodes - 1) a (paths_held h),
          rise_model r.count ps,
          weight_model r.count ps a.links.cost,
        )
