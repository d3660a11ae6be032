-- Graphs, sets of edges, walks, spanning trees, minimum spanning trees, covered edges. Definitions only. Assumes nothing.
-- Nodes and edges are numbered apart: a node is a number below `nodes`, an edge one below `edges`.
use Rattle.std.specs.Prelude.{ℕ, zero, suc, ◌+◌, ◌<◌, ◌≡◌, ◌≢◌, Bool, true, cond, not, ◌&&◌, ℤ, pos, ◌+ℤ◌, ◌≤ℤ◌}
use mathlib.Core.List.{List, [], ◌∷◌, Memᴰ}

-- The bus: its stations are the nodes, its links the edges. Edge e joins the nodes `end₁ e` and `end₂ e`;
-- two edges may join the same nodes. Only the edges marked `live` may be used: in a job, those whose links are plugged.
pub record Graph : Type 0 where
  pub nodes : ℕ
  pub edges : ℕ
  pub end₁ : ℕ → ℕ
  pub end₂ : ℕ → ℕ
  pub live : ℕ → Bool

-- Every edge joins two different nodes (question 4).
pub record Sound (g : Graph) : Type 0 where
  pub first : (e : ℕ) → e < g.edges → g.end₁ e < g.nodes
  pub second : (e : ℕ) → e < g.edges → g.end₂ e < g.nodes
  pub differ : (e : ℕ) → e < g.edges → g.end₁ e ≢ g.end₂ e

-- A set of edges. What it says at or past `edges` never counts.
abbrev pub EdgeSet : Type 0
EdgeSet = ℕ → Bool

-- Non-tree edges ("spare links"): usable and not in the tree.
abbrev pub spare_of : Graph → EdgeSet → EdgeSet
spare_of g tr e = g.live e && not (tr e)

-- Edge e leads from node u to node v, in one of its two directions.
pub data Leads (g : Graph) (e u v : ℕ) : Type 0 where
  forth : g.end₁ e ≡ u → g.end₂ e ≡ v → Leads g e u v
  back : g.end₂ e ≡ u → g.end₁ e ≡ v → Leads g e u v

-- A walk from one node to another over edges of S, with the list of the edges that it takes.
pub data Walk (g : Graph) (S : EdgeSet) : ℕ → ℕ → List ℕ → Type 0 where
  stop : {u : ℕ} → Walk g S u u []
  step : {e u v w : ℕ} {es : List ℕ} → e < g.edges → S e ≡ true → Leads g e u v → Walk g S v w es → Walk g S u w (e ∷ es)

-- S joins u and v: there is a walk.
abbrev pub Joined : Graph → EdgeSet → ℕ → ℕ → Type 0
Joined g S u v = (es : List ℕ) × Walk g S u v es

-- How many numbers below m are in S.
unfoldable pub count : ℕ → EdgeSet → ℕ
count zero S = zero
count (suc m) S = count m S + cond (S m) 1 0

-- "A spanning tree is a set of (stations − 1) links that joins every station to every other."
pub record SpanningTree (g : Graph) (S : EdgeSet) : Type 0 where
  pub usable : (e : ℕ) → e < g.edges → S e ≡ true → g.live e ≡ true
  pub size : suc (count g.edges S) ≡ g.nodes
  pub joins : (u v : ℕ) → u < g.nodes → v < g.nodes → Joined g S u v

-- The total cost of the edges of S below m. Costs are integers, negative ones included.
unfoldable pub total : ℕ → EdgeSet → (ℕ → ℤ) → ℤ
total zero S d = pos zero
total (suc m) S d = total m S d +ℤ cond (S m) (d m) (pos zero)

-- "Cheapest": no spanning tree of the graph has a smaller total cost than tr.
abbrev pub Minimum : Graph → EdgeSet → (ℕ → ℤ) → Type 0
Minimum g tr d = (S : EdgeSet) → SpanningTree g S → total g.edges tr d ≤ℤ total g.edges S d

-- No number stands twice in a list.
abbrev pub NoneTwice : List ℕ → Type 0
NoneTwice [] = Unit {0}
NoneTwice (x ∷ xs) = (Memᴰ x xs → ⊥) × NoneTwice xs

-- "Lies over": edge s may be used, and the tree path between its ends holds edge t. A path takes no edge twice. So an edge that
-- may not be used lies over nothing.
pub record Covers (g : Graph) (tr : EdgeSet) (s t : ℕ) : Type 0 where
  pub usable : g.live s ≡ true
  pub path : List ℕ
  pub walk : Walk g tr (g.end₁ s) (g.end₂ s) path
  pub simple : NoneTwice path
  pub holds : Memᴰ t path
