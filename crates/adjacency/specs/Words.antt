-- For each node the ranks of the tree edges at it, in a word. Definitions only. Assumes nothing.
use Rattle.std.specs.Prelude.{ℕ, ◌≤◌, ◌<◌, ◌≡◌, Bool, ◌&&◌, ◌||◌, List, ltb, eqb, length, get_or}
use Rattle.bits.specs.Bit.{bit}

-- Node v is an end of edge e.
abbrev pub end_of : List ℕ → List ℕ → ℕ → ℕ → Bool
end_of as₁ as₂ e v = eqb (get_or as₁ e 0) v || eqb (get_or as₂ e 0) v

-- Rank k is put into the words of the nodes of which p holds; nothing else in them changes.
pub record RankPut (k : ℕ) (p : ℕ → Bool) (adj adj' : List ℕ) : Type 0 where
  pub places : length adj' ≡ 64
  pub own : (v j : ℕ) → bit (get_or adj' v 0) j ≡ (bit (get_or adj v 0) j || (p v && eqb k j))

-- A rank and an edge between two nodes, and 64 words.
pub record Placed (k e : ℕ) (as₁ as₂ adj : List ℕ) : Type 0 where
  pub rank : k < 64
  pub edge : e < 256
  pub first : get_or as₁ e 0 < 64
  pub second : get_or as₂ e 0 < 64
  pub places : length adj ≡ 64

-- The first `count` places of `ranks` name edges of the arrays, each between two nodes.
pub record RankedEnds (nodes count : ℕ) (ranks as₁ as₂ : List ℕ) : Type 0 where
  pub small : nodes ≤ 64
  pub few : count ≤ 64
  pub within : count ≤ length ranks
  pub edge : (k : ℕ) → k < count → get_or ranks k 0 < 256
  pub first : (k : ℕ) → k < count → get_or as₁ (get_or ranks k 0) 0 < nodes
  pub second : (k : ℕ) → k < count → get_or as₂ (get_or ranks k 0) 0 < nodes

-- Words that hold for each node the ranks of the tree edges at it, of the first `count` ranks.
pub record Adjacency (count : ℕ) (ranks as₁ as₂ adj : List ℕ) : Type 0 where
  pub places : length adj ≡ 64
  pub own :
      (v k : ℕ)
      → bit (get_or adj v 0) k ≡ (ltb k count &&
      (eqb (get_or as₁ (get_or ranks k 0) 0) v || eqb (get_or as₂ (get_or ranks k 0) 0) v))
