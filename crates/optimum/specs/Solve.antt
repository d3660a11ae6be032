-- The model of the answer to a graph with a marked tree and old costs: ranks, matching and labels, taken back to
-- edges. Definitions only. Assumes nothing.
use Rattle.std.specs.Prelude.{ℕ, zero, suc, ◌&&◌, List, [], ◌∷◌, leb, ltb, length, get_or}
use Rattle.loops.specs.Loop.{scan, put, first, gather, tabulate}
use Rattle.graph.specs.Graph.{Graph, EdgeSet, spare_of}
use Rattle.graph.specs.Rank.{sorted, members, tree_ranks}
use Rattle.graph.specs.Paths.{Rooted, rooted, covers_rank}
use Rattle.optimum.specs.Optimum.{Pair, Answer}
use Rattle.optimum.specs.Search.{Problem, Slots, built, matching}
use Rattle.optimum.specs.Lowest.{slot_marks}

-- The non-tree edges that cost less than a tree edge that they cover. The others need no rank: they keep their cost.
abbrev pub low_of : Graph → EdgeSet → (ℕ → ℕ) → EdgeSet
low_of g tr c e =
    let ts : List ℕ = tree_ranks g tr c in
    spare_of g tr e && ltb (first (length ts) (λ t. covers_rank g (rooted g ts) e t && ltb (c e) (c (get_or ts t 0)))) (length ts)

abbrev pub low_ranks : Graph → EdgeSet → (ℕ → ℕ) → List ℕ
low_ranks g tr c = sorted (λ x y. leb (c x) (c y)) (members g.edges (low_of g tr c))

-- The edges by rank. Related are a tree edge and a cheaper non-tree edge that covers it. One that costs no less needs no
-- care: the answer raises no tree edge and lowers no non-tree edge (RankCriterion.antt).
abbrev pub problem : Graph → EdgeSet → (ℕ → ℕ) → Problem
problem g tr c =
    let ts : List ℕ = tree_ranks g tr c in
    let ss : List ℕ = low_ranks g tr c in
    let r : Rooted = rooted g ts in
    record {
      trees = length ts;
      spares = length ss;
      covers = λ t s. covers_rank g r (get_or ss s 0) t && ltb (c (get_or ss s 0)) (c (get_or ts t 0));
      tree_cost = λ t. c (get_or ts t 0);
      spare_cost = λ s. c (get_or ss s 0);
    }

-- The new costs: the label of each pair put at its two edges, over the old costs: an edge in no pair keeps its cost.
abbrev pub new_costs : (ℕ → ℕ) → List ℕ → List ℕ → Slots → (ℕ → ℕ) → ℕ → ℕ
new_costs c ts ss q label =
    scan (λ k f. put (put f (get_or ts (q.tree_of k) 0) (label k)) (get_or ss (q.spare_of k) 0) (label k)) q.slots 0 c

-- The mate of each tree edge: suc e for the non-tree edge e, 0 for none.
abbrev pub partners : List ℕ → List ℕ → Slots → ℕ → ℕ
partners ts ss q = scan (λ k f. put f (get_or ts (q.tree_of k) 0) (suc (get_or ss (q.spare_of k) 0))) q.slots 0 (λ _. 0)

unfoldable pub pair_at : ℕ → ℕ → List Pair
pair_at t zero = []
pair_at t (suc s) = record { tree = t; spare = s } ∷ []

unfoldable pub solve : Graph → EdgeSet → (ℕ → ℕ) → Answer
solve g tr c =
    let ts : List ℕ = tree_ranks g tr c in
    let ss : List ℕ = low_ranks g tr c in
    let p : Problem = problem g tr c in
    let q : Slots = matching p in
    record {
      steps = (built p p.trees).weight;
      costs = tabulate g.edges (new_costs c ts ss q (slot_marks p q).label);
      pairs = gather g.edges (λ e. pair_at e (partners ts ss q e));
    }
