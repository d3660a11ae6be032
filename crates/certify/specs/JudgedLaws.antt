-- The arrays of a held job are what the judge of trees asks for, and what it says of them is the job's. Assumes nothing.
use Rattle.std.specs.Prelude.{ℕ, ◌-◌, ◌≤◌, ◌≡◌, length, take}
use Rattle.std.proofs.Common.{arith, ap, ◌∙◌}
use Rattle.graph.specs.Rank.{tree_ranks}
use Rattle.graph.specs.RankLaws.{tree_falls}
use Rattle.graph.specs.Paths.{judge}
use Rattle.frame.specs.Job.{Job, graph_of, tree_of, cost_of}
use Rattle.frame.specs.Arrays.{Arrays}
use Rattle.frame.specs.Answers.{judge_tree}
use Rattle.paths.specs.Arrays.{array_graph, array_tree, array_cost}
use Rattle.paths.specs.RootLaws.{path_below}
use Rattle.cheapest.specs.Judge.{FallAlong, Judged}
use Rattle.held.specs.Held.{Held}
use Rattle.held.specs.HeldLaws.{graph_stored, tree_stored, few_nodes, few_links, tree_count, tree_price, tree_edge_lem}

module _ {j : Job} {n m : ℕ} {a : Arrays} (h : Held j n m a) where
  pub falls_held : (falling : ℕ) → FallAlong (n - 1) falling a.ranks a.links.cost
  falls_held falling i k l b _ =
      let falls = tree_falls (graph_of j) (tree_of j) (cost_of j) i k (omega arith) (omega (arith, tree_count h)) in
      omega (arith, tree_price h i (omega arith), tree_price h k b, falls)

  pub judged_held : Judged m (n - 1) a.ranks a.links.end₁ a.links.end₂ a.mask
  judged_held =
      let s = h.stored in
      let sound = h.accepted.sound in
      let within : n - 1 ≤ length a.ranks = omega (arith, few_nodes h, h.places) in
      record {
        links = few_links h;
        few = omega (arith, few_nodes h);
        within = within;
        edge = λ k l. omega (arith, tree_edge_lem h k l, few_links h);
        first = λ e l. omega (arith, ap (λ (f : ℕ → ℕ). f e) s.end₁, sound.first e (omega (arith, s.edges_are)), s.nodes_are, few_nodes h);
        second = λ e l. omega (arith, ap (λ (f : ℕ → ℕ). f e) s.end₂, sound.second e (omega (arith, s.edges_are)), s.nodes_are, few_nodes h);
        below = λ v k b. ap (λ f. f v k) h.paths ∙ path_below (graph_of j) (tree_ranks (graph_of j) (tree_of j) (cost_of j)) v k (omega (arith, tree_count h));
      }

  -- The judge of trees over the arrays is the job's.
  pub judge_held :
      judge (array_graph n m a.links.end₁ a.links.end₂ a.links.mark) (array_tree a.links.mark) (array_cost a.links.cost)
      (take (n - 1) a.ranks)
      ≡ judge_tree j
  judge_held i = judge (graph_stored h.stored i) (tree_stored h.stored i) (h.stored.cost i) (h.ranks i)
