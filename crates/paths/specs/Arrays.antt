-- Arrays as a graph, its tree, its costs and its tree paths; what the functions over them require and give.
-- Definitions only. Assumes nothing.
use Rattle.std.specs.Prelude.{ℕ, ◌<◌, ◌≡◌, Bool, true, cond, List, length, get_or, take}
use Rattle.std.specs.Bool.{xor}
use Rattle.limits.specs.Limits.{marks_tree, marks_plugged, marks_spare}
use Rattle.loops.specs.Loop.{scan}
use Rattle.bits.specs.Bit.{bit}
use Rattle.graph.specs.Graph.{Graph, EdgeSet}
use Rattle.graph.specs.Paths.{Rooted, attach, rooted}
use Rattle.paths.specs.declared.Front.{Front}

-- Links in arrays: link e joins the stations at place e of the arrays of first and second ends, and its mark says whether it is
-- plugged.
abbrev pub array_graph : ℕ → ℕ → List ℕ → List ℕ → List ℕ → Graph
array_graph nodes edges as₁ as₂ as₄ =
    record {
      nodes = nodes;
      edges = edges;
      end₁ = λ e. get_or as₁ e 0;
      end₂ = λ e. get_or as₂ e 0;
      live = λ e. marks_plugged (get_or as₄ e 0);
    }

-- The links of the marked tree, and the spare links.
abbrev pub array_tree : List ℕ → EdgeSet
array_tree as₄ e = marks_tree (get_or as₄ e 0)

abbrev pub array_spare : List ℕ → EdgeSet
array_spare as₄ e = marks_spare (get_or as₄ e 0)

abbrev pub array_cost : List ℕ → ℕ → ℕ
array_cost as₃ e = get_or as₃ e 0

-- Tree paths in masks: digit k of the word at place v says that the path of node v takes the tree edge of rank k.
abbrev pub paths : List ℕ → ℕ → ℕ → Bool
paths mask v = bit (get_or mask v 0)

-- The ranks on just one of the paths of two nodes.
abbrev pub across : List ℕ → ℕ → ℕ → ℕ → Bool
across mask a b k = xor (paths mask a k) (paths mask b k)

-- What has been found, as the code holds it.
abbrev pub held : Front → List ℕ → Rooted
held front mask = record { found = front.found; reached = bit front.reached; path = paths mask }

-- One tree edge tried, of rank k and between nodes u and v.
abbrev pub tried : ℕ → ℕ → ℕ → Rooted → Rooted
tried u v k st = cond (st.reached u) (cond (st.reached v) st (attach u v k st)) (cond (st.reached v) (attach v u k st) st)

-- The tree edge of rank k, between the nodes that the arrays name.
abbrev pub tried_rank : List ℕ → List ℕ → List ℕ → ℕ → Rooted → Rooted
tried_rank ranks as₁ as₂ k st = tried (get_or as₁ (get_or ranks k 0) 0) (get_or as₂ (get_or ranks k 0) 0) k st

-- A turn at a number of which p holds; no other turn does anything.
abbrev pub only : {A : Type 0} → (ℕ → Bool) → (ℕ → A → A) → ℕ → A → A
only p body k st = cond (p k) (body k st) st

-- The tree edges whose ranks are in a word, tried by rank.
abbrev pub tried_word : ℕ → List ℕ → List ℕ → List ℕ → Rooted → Rooted
tried_word word ranks as₁ as₂ st = scan (only (bit word) (tried_rank ranks as₁ as₂)) 64 0 st

-- Node, node and rank below 64, 64 masks, and a number of found nodes that can grow.
pub record Room (found u v k : ℕ) (mask : List ℕ) : Type 0 where
  pub few : found < 65536
  pub first : u < 64
  pub second : v < 64
  pub rank : k < 64
  pub places : length mask ≡ 64

-- The ranks in a word name edges of the arrays, each between two nodes.
pub record Named (word : ℕ) (ranks as₁ as₂ : List ℕ) : Type 0 where
  pub edge : (k : ℕ) → bit word k ≡ true → get_or ranks k 0 < 256
  pub first : (k : ℕ) → bit word k ≡ true → get_or as₁ (get_or ranks k 0) 0 < 64
  pub second : (k : ℕ) → bit word k ≡ true → get_or as₂ (get_or ranks k 0) 0 < 64

-- What the search from node 0 gives: the number of nodes found, and the tree paths. How many links the arrays hold, and how they
-- are marked, is all one to it.
pub record Walked (nodes count : ℕ) (ranks as₁ as₂ : List ℕ) (r : ℕ) (mask : List ℕ) : Type 0 where
  pub found : (edges : ℕ) (as₄ : List ℕ) → r ≡ (rooted (array_graph nodes edges as₁ as₂ as₄) (take count ranks)).found
  pub paths : (edges : ℕ) (as₄ : List ℕ) → paths mask ≡ (rooted (array_graph nodes edges as₁ as₂ as₄) (take count ranks)).path
  pub places : length mask ≡ 64
