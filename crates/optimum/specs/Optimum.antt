-- Choices of costs and their deviation, matchings and their weight, the best and the lowest best choice, the answer to
-- a job and what is demanded of it. Definitions only. Assumes nothing.
use Rattle.std.specs.Prelude.{ℕ, ◌≤◌, ◌<◌, ◌≡◌, true, ℤ, pos, nat_abs, ◌+ℤ◌, ◌-ℤ◌, ◌≤ℤ◌, length, get_or}
use mathlib.Core.List.{List, [], ◌∷◌, flat_map, Memᴰ}
use Rattle.loops.specs.Below.{sum}
use Rattle.graph.specs.Graph.{Graph, EdgeSet, Minimum, Covers, NoneTwice, spare_of}

-- A choice of new costs gives each edge one integer, negative ones included.
abbrev pub Costs : Type 0
Costs = ℕ → ℤ

-- "Steps": the sum, over all edges, of the absolute difference between new and old cost.
abbrev pub deviation : Graph → (ℕ → ℕ) → Costs → ℕ
deviation g c d = sum g.edges (λ e. nat_abs (d e -ℤ pos (c e)))

-- The costs d are best: they make tr cheapest, and no costs that do take fewer steps.
pub record Best (g : Graph) (tr : EdgeSet) (c : ℕ → ℕ) (d : Costs) : Type 0 where
  pub minimum : Minimum g tr d
  pub fewest : (d' : Costs) → Minimum g tr d' → deviation g c d ≤ deviation g c d'

-- They are the lowest best ones: every best choice gives every edge at least as much.
pub record LowestBest (g : Graph) (tr : EdgeSet) (c : ℕ → ℕ) (d : Costs) : Type 0 where
  pub best : Best g tr c d
  pub lowest : (d' : Costs) → Best g tr c d' → (e : ℕ) → e < g.edges → d e ≤ℤ d' e

-- A tree edge and a non-tree edge.
pub record Pair : Type 0 where
  pub tree : ℕ
  pub spare : ℕ

abbrev pub both : Pair → List ℕ
both p = p.tree ∷ p.spare ∷ []

-- A pair is a tree edge and a non-tree edge that covers it.
pub record IsPair (g : Graph) (tr : EdgeSet) (p : Pair) : Type 0 where
  pub tree_below : p.tree < g.edges
  pub tree_in : tr p.tree ≡ true
  pub spare_below : p.spare < g.edges
  pub spare_in : spare_of g tr p.spare ≡ true
  pub covers : Covers g tr p.spare p.tree

-- A matching ("pairing"): a list of pairs, no edge in two of them.
pub record Matching (g : Graph) (tr : EdgeSet) (ps : List Pair) : Type 0 where
  pub pairs : (p : Pair) → Memᴰ p ps → IsPair g tr p
  pub apart : NoneTwice (flat_map both ps)

-- Its weight: the sum of old tree cost less old non-tree cost.
unfoldable pub weight : (ℕ → ℕ) → List Pair → ℤ
weight c [] = pos 0
weight c (p ∷ ps) = (pos (c p.tree) -ℤ pos (c p.spare)) +ℤ weight c ps

-- Listed rising by tree edge.
abbrev pub Rising : List Pair → Type 0
Rising [] = Unit {0}
Rising (p ∷ ps) = ((q : Pair) → Memᴰ q ps → p.tree < q.tree) × Rising ps

-- Every pair's old tree cost is above its old non-tree cost.
abbrev pub Falls : (ℕ → ℕ) → List Pair → Type 0
Falls c ps = (p : Pair) → Memᴰ p ps → c p.spare < c p.tree

-- What an answer frame holds: the steps, one new cost for each edge, the pairs.
pub record Answer : Type 0 where
  pub steps : ℕ
  pub costs : List ℕ
  pub pairs : List Pair

-- The costs of an answer as a choice of costs.
abbrev pub chosen : Answer → Costs
chosen a e = pos (get_or a.costs e 0)

-- The third demand, of the answer a to the graph g with the marked tree tr and the old costs c.
pub record Demanded (g : Graph) (tr : EdgeSet) (c : ℕ → ℕ) (a : Answer) : Type 0 where
  pub count : length a.costs ≡ g.edges
  pub minimum : Minimum g tr (chosen a)
  pub steps : a.steps ≡ deviation g c (chosen a)
  pub fewest : (d : Costs) → Minimum g tr d → a.steps ≤ deviation g c d
  pub lowest : (d : Costs) → Minimum g tr d → deviation g c d ≡ a.steps → (e : ℕ) → e < g.edges → chosen a e ≤ℤ d e
  pub matching : Matching g tr a.pairs
  pub rising : Rising a.pairs
  pub falls : Falls c a.pairs
  pub weighs : weight c a.pairs ≡ pos a.steps
