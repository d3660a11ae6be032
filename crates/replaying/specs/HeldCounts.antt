-- The arrays of a held job are what counting violations asks for; and none at some costs is a yes of the job's judge there. Assumes
-- nothing.
use Rattle.std.specs.Prelude.{ℕ, ◌-◌, ◌<◌, ◌≡◌, List, eqb, length, get_or, take}
use Rattle.std.proofs.Common.{arith, sym, subst, ◌∙◌, get_or-take, length-take-le}
use Rattle.graph.specs.Graph.{Graph, EdgeSet, Sound, SpanningTree}
use Rattle.graph.specs.Rank.{Lists, tree_ranks}
use Rattle.graph.specs.RankLaws.{tree_lists}
use Rattle.graph.specs.Paths.{judge}
use Rattle.graph.proofs.Tree.{own_rank}
use Rattle.frame.specs.Job.{Job, graph_of, tree_of, cost_of}
use Rattle.frame.specs.Arrays.{Arrays}
use Rattle.paths.specs.Arrays.{array_graph, array_tree, across}
use Rattle.paths.specs.RootLaws.{across_covers}
use Rattle.held.specs.Held.{Held}
use Rattle.held.specs.HeldLaws.{graph_stored, tree_stored, few_links, few_nodes, paths_held}
use Rattle.certify.specs.JudgedLaws.{judged_held}
use Rattle.accept.specs.ArrayLaws.{costs_small}
use Rattle.violations.specs.Counting.{Countable}
use Rattle.violations.specs.CountingLaws.{none_cheapest}
use Rattle.violations.specs.Counting.{violations_by}
use Rattle.watch.specs.Watching.{RangedCosts, none_at}

module _ {j : Job} {n m : ℕ} {a : Arrays} (h : Held j n m a) where
  pub priced_held : RangedCosts m a.links.cost
  priced_held = record { few = few_links h; places = h.stored.cost_places; range = costs_small h.stored }

  abbrev graph : Graph
  graph = array_graph n m a.links.end₁ a.links.end₂ a.links.mark

  abbrev tree : EdgeSet
  tree = array_tree a.links.mark

  abbrev ranks : List ℕ
  ranks = take (n - 1) a.ranks

  sound : Sound graph
  sound = subst Sound (sym (graph_stored h.stored)) h.accepted.sound

  spanning : SpanningTree graph tree
  spanning =
      subst (SpanningTree graph) (sym (tree_stored h.stored))
      (subst (λ (g : Graph). SpanningTree g (tree_of j)) (sym (graph_stored h.stored)) h.accepted.tree)

  lists : Lists m tree ranks
  lists =
      subst (λ (l : List ℕ). Lists m tree l)
      ((λ i. tree_ranks (graph_stored h.stored i) (tree_stored h.stored i) (cost_of j)) ∙ sym h.ranks)
      (tree_lists graph tree (cost_of j))

  -- The paths of a tree link's ends differ at its own rank alone.
  own : (k : ℕ) → k < n - 1 → (i : ℕ)
      → across a.mask (get_or a.links.end₁ (get_or a.ranks k 0) 0) (get_or a.links.end₂ (get_or a.ranks k 0) 0) i ≡ eqb k i
  own k l i =
      let size : length ranks ≡ n - 1 = length-take-le (n - 1) a.ranks (omega (arith, few_nodes h, h.places)) in
      let at : get_or ranks k 0 ≡ get_or a.ranks k 0 = get_or-take (n - 1) a.ranks k 0 l in
      across_covers n m a.links.end₁ a.links.end₂ a.links.mark a.mask ranks (paths_held h) (get_or a.ranks k 0) i
      ∙ rw at at (own_rank sound lists spanning k (omega (arith, size)) i)

  pub countable_held : Countable m (n - 1) a.ranks a.links.end₁ a.links.end₂ a.links.mark a.mask
  countable_held = record { judged = judged_held h; lists = lists; own = own }

  -- No violation at the costs c: the job's judge says yes of them.
  pub cheapest_held :
      (c : ℕ → ℕ) → none_at (violations_by m a.ranks a.links.end₁ a.links.end₂ a.links.mark a.mask) c
      ≡ judge (graph_of j) (tree_of j) c (tree_ranks (graph_of j) (tree_of j) (cost_of j))
  cheapest_held c =
      none_cheapest n m (n - 1) a.ranks a.links.end₁ a.links.end₂ a.links.mark a.mask c (judged_held h) (paths_held h)
      ∙ (λ i. judge (graph_stored h.stored i) (tree_stored h.stored i) c (h.ranks i))
