-- The job that a frame's numbers make, what the questions mean, in document 01's words, and which is the first with the answer "no".
-- Definitions only. Assumes nothing.
use Rattle.std.specs.Prelude.{ℕ, ◌+◌, ◌*◌, ◌<◌, ◌≤◌, ◌≡◌, ◌≢◌, ◌⊎◌, List, [], ◌∷◌, length, get_or, drop}
use Rattle.graph.specs.Graph.{Sound, SpanningTree}
use Rattle.frame.specs.Job.{JobLink, Job, link, job_numbers, bytes_by, graph_of, tree_of}
use Rattle.limits.specs.Limits.{max_nodes, max_edges, number_bytes, largest}

-- The job of a list of numbers: the two counts, then the links.
abbrev pub node_count : List ℕ → ℕ
node_count ns = get_or ns 0 0

abbrev pub edge_count : List ℕ → ℕ
edge_count ns = get_or ns 1 0

-- Each four numbers make a link.
unfoldable pub links_of : List ℕ → List JobLink
links_of [] = []
links_of (a ∷ []) = []
links_of (a ∷ b ∷ []) = []
links_of (a ∷ b ∷ c ∷ []) = []
links_of (a ∷ b ∷ c ∷ m ∷ ns) = record { end₁ = a; end₂ = b; cost = c; mark = m } ∷ links_of ns

abbrev pub job_from : List ℕ → Job
job_from ns = record { nodes = node_count ns; links = links_of (drop 2 ns) }

-- Numbers that fit into k bytes each; those of a job: at most 2,097,151.
abbrev pub SmallBy : ℕ → List ℕ → Type 0
SmallBy k ns = (i : ℕ) → get_or ns i 0 ≤ largest k

abbrev pub Small : List ℕ → Type 0
Small ns = SmallBy number_bytes ns

-- The bytes s divide into the whole numbers ns, each in shortest form of at most k bytes.
pub record DividesBy (k : ℕ) (s ns : List ℕ) : Type 0 where
  pub small : SmallBy k ns
  pub joined : bytes_by k ns ≡ s

-- 1. The frame divides into whole numbers, each in shortest form of one to three bytes.
abbrev pub Divides : List ℕ → List ℕ → Type 0
Divides s ns = DividesBy number_bytes s ns

-- 2. There are at least two numbers, the first 1 to 64, the second 0 to 256.
pub record Counted (ns : List ℕ) : Type 0 where
  pub two : 2 ≤ length ns
  pub some_node : 1 ≤ node_count ns
  pub node_limit : node_count ns ≤ max_nodes
  pub edge_limit : edge_count ns ≤ max_edges

-- 3. There are exactly 2 + 4 × link count numbers.
abbrev pub Complete : List ℕ → Type 0
Complete ns = length ns ≡ 4 * edge_count ns + 2

-- 4. Every link's ends are below the station count and different.
pub record EndsHold (j : Job) : Type 0 where
  pub first : (e : ℕ) → e < length j.links → (link j e).end₁ < j.nodes
  pub second : (e : ℕ) → e < length j.links → (link j e).end₂ < j.nodes
  pub differ : (e : ℕ) → e < length j.links → (link j e).end₁ ≢ (link j e).end₂

-- 5. Every mark is 0, 1 or 2.
abbrev pub MarksHold : Job → Type 0
MarksHold j = (e : ℕ) → e < length j.links → ((link j e).mark ≡ 0) ⊎ ((link j e).mark ≡ 1) ⊎ ((link j e).mark ≡ 2)

-- 6. There are (stations − 1) tree links, and they join all stations.
abbrev pub TreeHolds : Job → Type 0
TreeHolds j = SpanningTree (graph_of j) (tree_of j)

-- A frame that passes questions 1 to 5: its numbers, with what the questions mean of them.
pub record Formed (s ns : List ℕ) : Type 0 where
  pub divides : Divides s ns
  pub counted : Counted ns
  pub complete : Complete ns
  pub ends : EndsHold (job_from ns)
  pub marks : MarksHold (job_from ns)

-- The first question of 1 to 6 whose answer is "no"; 0 if none is. The questions before it have the answer "yes".
pub data FirstNo (s : List ℕ) : ℕ → Type 0 where
  no1 : ((ns : List ℕ) → Divides s ns → ⊥) → FirstNo s 1
  no2 : (ns : List ℕ) → Divides s ns → (Counted ns → ⊥) → FirstNo s 2
  no3 : (ns : List ℕ) → Divides s ns → Counted ns → (Complete ns → ⊥) → FirstNo s 3
  no4 : (ns : List ℕ) → Divides s ns → Counted ns → Complete ns → (EndsHold (job_from ns) → ⊥) → FirstNo s 4
  no5 : (ns : List ℕ) → Divides s ns → Counted ns → Complete ns → EndsHold (job_from ns) → (MarksHold (job_from ns) → ⊥) → FirstNo s 5
  no6 : (ns : List ℕ) → Formed s ns → (TreeHolds (job_from ns) → ⊥) → FirstNo s 6
  none : (ns : List ℕ) → Formed s ns → TreeHolds (job_from ns) → FirstNo s 0

-- The same with one more question, of a service's own, put after these; its number is its own.
pub data FirstNoWith (s : List ℕ) (number : ℕ) (Holds : Type 0) : ℕ → Type 0 where
  earlier : (r : ℕ) → r ≢ 0 → FirstNo s r → FirstNoWith s number Holds r
  own : FirstNo s 0 → (Holds → ⊥) → FirstNoWith s number Holds number
  passed : FirstNo s 0 → Holds → FirstNoWith s number Holds 0

-- An accepted job: one whose frame passes questions 1 to 6.
pub record Accepted (j : Job) : Type 0 where
  pub some_node : 1 ≤ j.nodes
  pub node_limit : j.nodes ≤ max_nodes
  pub edge_limit : length j.links ≤ max_edges
  pub small : Small (job_numbers j)
  pub sound : Sound (graph_of j)
  pub marks : MarksHold j
  pub tree : TreeHolds j
