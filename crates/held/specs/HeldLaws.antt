-- The arrays of a stored job are its graph and its tree; those of a held job also its ranks and its tree paths. Assumes nothing.
use Rattle.std.specs.Prelude.{ℕ, ◌-◌, ◌≤◌, ◌<◌, ◌≡◌, List, length, get_or, take}
use Rattle.std.proofs.Common.{arith, sym, ap, ◌∙◌, get_or-take}
use Rattle.limits.specs.Limits.{marks_tree, marks_plugged}
use Rattle.graph.specs.Graph.{EdgeSet}
use Rattle.graph.specs.Rank.{tree_ranks, cost_at}
use Rattle.graph.specs.RankLaws.{tree_lists}
use Rattle.graph.specs.Paths.{rooted}
use Rattle.loops.specs.Loop.{tabulate}
use Rattle.loops.specs.GatherLaws.{tabulate_get_d}
use Rattle.frame.specs.Job.{Job, no_link, link, graph_of, tree_of, cost_of}
use Rattle.frame.specs.Arrays.{Columns, Arrays, link_at, links_at, job_at}
use Rattle.paths.specs.Arrays.{array_graph, array_tree, paths}
use Rattle.held.specs.Held.{Stored, Held}

module _ {j : Job} {n m : ℕ} {c : Columns} (k : Stored j n m c) where
  pub graph_stored : array_graph n m c.end₁ c.end₂ c.mark ≡ graph_of j
  graph_stored i =
      record {
        nodes = k.nodes_are i;
        edges = k.edges_are i;
        end₁ = k.end₁ i;
        end₂ = k.end₂ i;
        live = λ e. marks_plugged (k.mark i e);
      }

  pub tree_stored : ◌≡◌ {A = EdgeSet} (array_tree c.mark) (tree_of j)
  tree_stored i = λ e. marks_tree (k.mark i e)

  -- The job of the arrays is the one that they store.
  pub stored_job : job_at n m c ≡ j
  stored_job =
      let row : link_at c ≡ link j = λ i e. record { end₁ = k.end₁ i e; end₂ = k.end₂ i e; cost = k.cost i e; mark = k.mark i e } in
      let rows : links_at m c ≡ j.links = (λ i. tabulate (k.edges_are i) (row i)) ∙ tabulate_get_d j.links no_link in
      λ i. record { nodes = k.nodes_are i; links = rows i }

module _ {j : Job} {n m : ℕ} {a : Arrays} (h : Held j n m a) where
  pub some_node : 1 ≤ n
  some_node = omega (arith, h.stored.nodes_are, h.accepted.some_node)

  pub few_nodes : n ≤ 64
  few_nodes = omega (arith, h.stored.nodes_are, h.accepted.node_limit)

  pub few_links : m ≤ 256
  few_links = omega (arith, h.stored.edges_are, h.accepted.edge_limit)

  -- The tree links, by rank.
  pub tree_count : length (tree_ranks (graph_of j) (tree_of j) (cost_of j)) ≡ n - 1
  tree_count = omega (arith, (tree_lists (graph_of j) (tree_of j) (cost_of j)).size, h.accepted.tree.size, h.stored.nodes_are)

  pub tree_at_lem : (k : ℕ) → k < n - 1 → get_or a.ranks k 0 ≡ get_or (tree_ranks (graph_of j) (tree_of j) (cost_of j)) k 0
  tree_at_lem k l = sym (get_or-take (n - 1) a.ranks k 0 l) ∙ ap (λ (r : List ℕ). get_or r k 0) h.ranks

  pub tree_price : (k : ℕ) → k < n - 1 → cost_at a.links.cost a.ranks k ≡ cost_of j (get_or (tree_ranks (graph_of j) (tree_of j) (cost_of j)) k 0)
  tree_price k l = ap (λ (f : ℕ → ℕ). f (get_or a.ranks k 0)) h.stored.cost ∙ ap (cost_of j) (tree_at_lem k l)

  pub tree_edge_lem : (k : ℕ) → k < n - 1 → get_or a.ranks k 0 < m
  tree_edge_lem k l =
      let below = (tree_lists (graph_of j) (tree_of j) (cost_of j)).below k (omega (arith, tree_count)) in
      omega (arith, tree_at_lem k l, below, h.stored.edges_are)

  -- The tree paths, as those of the graph in the arrays.
  pub paths_held : paths a.mask ≡ (rooted (array_graph n m a.links.end₁ a.links.end₂ a.links.mark) (take (n - 1) a.ranks)).path
  paths_held = h.paths ∙ sym (λ i. (rooted (graph_stored h.stored i) (h.ranks i)).path)
