-- The solver over arrays computes the model's answer. Assumes nothing.
use Prim.Native.Nat.{ℕ, zero, suc, ◌-◌, ◌<◌, ◌≤◌}
use Rattle.std.proofs.Common.{arith, ap₂, ◌∙◌, get_or-take, lt-ltb, le-ltb}
use Rattle.std.proofs.Math.Path.{◌≡◌, refl, sym, ap}
use Rattle.std.specs.Bool.{xor}
use Rattle.std.specs.Prelude.{◌&&◌, ltb, length}
use mathlib.Core.List.{List, []}
use Rattle.std.proofs.Math.ListN.{get_or}
use Rattle.loops.specs.Loop.{scan, first, gather, tabulate}
use Rattle.loops.specs.FirstLaws.{first_same}
use Rattle.graph.specs.Graph.{Graph, EdgeSet}
use Rattle.graph.specs.Rank.{sorted, members, tree_ranks, cost_at}
use Rattle.graph.specs.RankLaws.{by_rising, tree_falls}
use Rattle.graph.specs.Paths.{rooted, covers_rank}
use Rattle.optimum.specs.Search.{Problem, Progress, unmatched, built, matching}
use Rattle.optimum.specs.Lowest.{slot_marks}
use Rattle.optimum.specs.Solve.{low_of, low_ranks, problem, new_costs, partners, pair_at, solve}
use Rattle.optimum.proofs.SlotLaws.{HeldSlots, slot_below}
use Rattle.optimum.proofs.MatchingProof.{built_held, built_valid, nothing_built}
use Rattle.optimum.proofs.Solution.{ranked}
use Rattle.optimum.proofs.Range.{pairs_few}
use Rattle.limits.specs.Limits.{max_number, marks_spare}
use Rattle.frame.specs.Job.{Job, graph_of, tree_of, cost_of}
use Rattle.frame.specs.Arrays.{Arrays}
use Rattle.frame.proofs.Accepted.{cost_small}
use Rattle.frame.specs.Answers.{answer_of}
use Rattle.frame.proofs.OwnAnswer.{own, own_layout}
use Rattle.codec.specs.Numbers.{numbers_at}
use Rattle.codec.specs.Held.{answer_at}
use Rattle.paths.specs.RootLaws.{path_below}
use Rattle.bits.specs.Bit.{bit}
use Rattle.ranks.proofs.KeysLaws.{members_same}
use Rattle.covering.specs.Covers.{covers, is_low, low_list, Crossed, LowRanked, ColumnsHold}
use Rattle.covering.proofs.LowLaws.{low_rank, low_column}
use Rattle.matching.specs.Tables.{Holds}
use Rattle.solution.specs.PlaceLaws.{new_costs_same, partners_same}
use Rattle.held.specs.Held.{Held}
use Rattle.held.specs.HeldLaws.{few_nodes, few_links, tree_count, tree_at_lem, tree_price, tree_edge_lem}
use Rattle.solve.specs.Solving.{pair_list, Solvable, SettledAs}

no_pairs : (n : ℕ) → gather n (λ e. pair_at e 0) ≡ []
unfolding gather pair_at
no_pairs zero = refl
no_pairs (suc n) = rw (no_pairs n)

module _ {j : Job} {n m : ℕ} {a : Arrays} (h : Held j n m a) where
  abbrev g : Graph
  g = graph_of j

  abbrev tr : EdgeSet
  tr = tree_of j

  abbrev c : ℕ → ℕ
  c = cost_of j

  abbrev ts' : List ℕ
  ts' = tree_ranks g tr c

  abbrev ss' : List ℕ
  ss' = low_ranks g tr c

  abbrev pr : Problem
  pr = problem g tr c

  -- The tree ranks go by falling cost, and the masks hold no other rank.
  pub crossed : Crossed (n - 1) m a.links.cost a.ranks a.links.end₁ a.links.end₂ a.mask
  crossed =
      let s = h.stored in
      let sound = h.accepted.sound in
      record {
        few_trees = omega (arith, few_nodes h);
        few_edges = few_links h;
        edge = λ t l. omega (arith, tree_edge_lem h t l, few_links h);
        falls = λ t t' l b.
            omega (arith, tree_price h t (omega arith), tree_price h t' b, tree_falls g tr c t t' l (omega (arith, tree_count h)));
        first = λ e l. omega (arith, ap (λ (f : ℕ → ℕ). f e) s.end₁, sound.first e (omega (arith, s.edges_are)), s.nodes_are, few_nodes h);
        second = λ e l. omega (arith, ap (λ (f : ℕ → ℕ). f e) s.end₂, sound.second e (omega (arith, s.edges_are)), s.nodes_are, few_nodes h);
        below = λ v t b. ap (λ f. f v t) h.paths ∙ path_below g ts' v t (omega (arith, tree_count h));
      }

  pub small_cost : (e : ℕ) → e < m → get_or a.links.cost e 0 ≤ max_number
  small_cost e l = omega (arith, ap (λ (f : ℕ → ℕ). f e) h.stored.cost, cost_small j h.accepted.small e)

  cover_at : (e t : ℕ) → covers a.links.end₁ a.links.end₂ a.mask e t ≡ covers_rank g (rooted g ts') e t
  cover_at e t i = xor (h.paths i (h.stored.end₁ i e) t) (h.paths i (h.stored.end₂ i e) t)

  -- The spares that undercut are the model's.
  low_at : (e : ℕ) → is_low (n - 1) a.links.cost a.links.mark a.ranks a.links.end₁ a.links.end₂ a.mask e ≡ low_of g tr c e
  low_at e =
      ap₂ ◌&&◌ (ap (λ (f : ℕ → ℕ). marks_spare (f e)) h.stored.mark)
      (ap₂ ltb
      (first_same (n - 1) _ (λ t. covers_rank g (rooted g ts') e t && ltb (c e) (c (get_or ts' t 0)))
      (λ t l. ap₂ ◌&&◌ (cover_at e t) (ap₂ ltb (ap (λ (f : ℕ → ℕ). f e) h.stored.cost) (tree_price h t l)))
      ∙ ap (λ (k : ℕ). first k (λ t. covers_rank g (rooted g ts') e t && ltb (c e) (c (get_or ts' t 0)))) (sym (tree_count h)))
      (sym (tree_count h)))

  low_are : low_list (n - 1) m a.links.cost a.links.mark a.ranks a.links.end₁ a.links.end₂ a.mask ≡ ss'
  low_are =
      ap (sorted (by_rising (λ e. get_or a.links.cost e 0))) (members_same m _ (low_of g tr c) (λ e l. low_at e))
      ∙ (λ i. sorted (by_rising (h.stored.cost i)) (members (h.stored.edges_are i) (low_of g tr c)))

  -- The spares, ranked by the code.
  module _ {q : ℕ} {ss : List ℕ}
      (r : LowRanked (n - 1) m a.links.cost a.links.mark a.ranks a.links.end₁ a.links.end₂ a.mask q ss) where
    ss_count : q ≡ length ss'
    ss_count = r.size ∙ ap length low_are

    spare_at : (s : ℕ) → s < q → get_or ss s 0 ≡ get_or ss' s 0
    spare_at s l = sym (get_or-take q ss s 0 l) ∙ ap (λ (xs : List ℕ). get_or xs s 0) (r.ranked ∙ low_are)

    spare_price : (s : ℕ) → s < q → cost_at a.links.cost ss s ≡ c (get_or ss' s 0)
    spare_price s l = ap (λ (f : ℕ → ℕ). f (get_or ss s 0)) h.stored.cost ∙ ap c (spare_at s l)

    held : HeldSlots pr (matching pr)
    held = built_held pr (ranked g tr c) pr.trees (omega arith)

    -- What the slots name is the same in the arrays and in the lists.
    tree_named : (k : ℕ) → k < (matching pr).slots → get_or a.ranks ((matching pr).tree_of k) 0 ≡ get_or ts' ((matching pr).tree_of k) 0
    tree_named k l =
        let below = slot_below pr (matching pr) held (built_valid pr (ranked g tr c) pr.trees (omega arith)) k l in
        tree_at_lem h ((matching pr).tree_of k) (omega (arith, tree_count h))

    spare_named : (k : ℕ) → k < (matching pr).slots → get_or ss ((matching pr).spare_of k) 0 ≡ get_or ss' ((matching pr).spare_of k) 0
    spare_named k l = spare_at ((matching pr).spare_of k) (omega (arith, held.ranks k l, ss_count))

    weight_is : (answer_of j).steps ≡ (built pr pr.trees).weight
    unfolding solve
    weight_is = refl

    pairs_are : pair_list pr m a.ranks ss ≡ (answer_of j).pairs
    unfolding solve
    pairs_are =
        (λ i. gather (h.stored.edges_are i)
        (λ e. pair_at e (partners_same a.ranks ss ts' ss' (matching pr) (matching pr) refl tree_named spare_named i e)))

    -- The columns hold the model's relation, and the answer fits.
    module _ (cols : List ℕ)
        (filled : ColumnsHold (n - 1) q a.links.cost a.ranks ss a.links.end₁ a.links.end₂ a.mask cols) where
      column_at : (t s : ℕ) → t < n - 1 → s < q → pr.covers t s ≡ bit (get_or cols s 0) t
      column_at t s k l =
          sym
          (filled t s l
          ∙ rw (lt-ltb t (n - 1) k)
          (ap₂ ◌&&◌ (cover_at (get_or ss s 0) t ∙ ap (λ (e : ℕ). covers_rank g (rooted g ts') e t) (spare_at s l))
          (ap₂ ltb (spare_price s l) (tree_price h t k))))

      holds : Holds pr (n - 1) q a.links.cost a.ranks ss cols
      holds =
          record {
            trees_are = tree_count h;
            spares_are = sym ss_count;
            covered = column_at;
            past = λ t s k l. filled t s l ∙ rw (le-ltb t (n - 1) k) refl;
            some = low_column r cols filled;
            tree_cost_lem = λ t l. sym (tree_price h t l);
            spare_cost_lem = λ s l. sym (spare_price s l);
          }

      pub solvable : Solvable pr (n - 1) m q a.links.cost a.ranks ss cols
      solvable =
          let v = h.accepted in
          let b = low_rank r (few_links h) in
          record {
            ranked = ranked g tr c;
            holds = holds;
            few_trees = omega (arith, few_nodes h);
            few_spares = b.most;
            few_edges = few_links h;
            tree_edges_lem = λ k l. omega (arith, tree_edge_lem h k l, few_links h);
            spare_edges = b.edges;
            small_costs = λ t l. omega (arith, small_cost (get_or a.ranks t 0) (tree_edge_lem h t l));
            small_steps = omega (arith, weight_is, (own_layout j v).step_limit);
            few_pairs = omega (arith, ap length pairs_are, pairs_few (own j v), v.tree.size, v.node_limit);
          }

    -- What the code has computed is the answer.
    module _ {steps count : ℕ} {cost' ps : List ℕ} (w : SettledAs pr m a.links.cost a.ranks ss steps cost' count ps) where
      costs_are : numbers_at m cost' ≡ (answer_of j).costs
      unfolding solve
      costs_are =
          let label = (slot_marks pr (matching pr)).label in
          let new : ◌≡◌ {A = ℕ → ℕ} (λ e. get_or cost' e 0) (new_costs c ts' ss' (matching pr) label) =
          w.costs_are
          ∙ new_costs_same a.ranks ss ts' ss' (matching pr) (matching pr) refl tree_named spare_named (λ e. get_or a.links.cost e 0) label label
          (λ _ _. refl)
          ∙ ap (λ (f : ℕ → ℕ). new_costs f ts' ss' (matching pr) label) h.stored.cost in
          (λ i. tabulate (h.stored.edges_are i) (new i))

      pub answer_is : answer_at steps m cost' count ps ≡ answer_of j
      answer_is i = record { steps = (w.steps_are ∙ sym weight_is) i; costs = costs_are i; pairs = (w.listed.pairs ∙ pairs_are) i }

    -- No spare undercuts: nothing moves.
    module _ (none : q ≡ 0) where
      nothing : built pr pr.trees ≡ unmatched
      nothing = nothing_built pr (sym ss_count ∙ none) pr.trees

      no_costs : new_costs c ts' ss' (matching pr) (slot_marks pr (matching pr)).label ≡ c
      unfolding scan
      no_costs = ap (λ (b : Progress). new_costs c ts' ss' b.pairs (slot_marks pr b.pairs).label) nothing

      no_mates : partners ts' ss' (matching pr) ≡ (λ _. 0)
      unfolding scan
      no_mates = ap (λ (b : Progress). partners ts' ss' b.pairs) nothing

      pub none_is : (ps : List ℕ) → answer_at 0 m a.links.cost 0 ps ≡ answer_of j
      unfolding solve gather
      none_is ps =
          let weight : 0 ≡ (built pr pr.trees).weight = sym (ap (λ (b : Progress). b.weight) nothing) in
          let costs : ◌≡◌ {A = ℕ → ℕ} (λ e. get_or a.links.cost e 0) (new_costs c ts' ss' (matching pr) (slot_marks pr (matching pr)).label) =
          h.stored.cost ∙ sym no_costs in
          let pairs : [] ≡ gather (length j.links) (λ e. pair_at e (partners ts' ss' (matching pr) e)) =
          sym (ap (λ (f : ℕ → ℕ). gather (length j.links) (λ e. pair_at e (f e))) no_mates ∙ no_pairs (length j.links)) in
          λ i. record { steps = weight i; costs = tabulate (h.stored.edges_are i) (costs i); pairs = pairs i }
