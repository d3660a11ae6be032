-- The pairs and the state of an exploration as the code holds them, in the words of the model, and what the exploring
-- functions promise. Definitions only. Assumes nothing.
use Rattle.std.specs.Prelude.{ℕ, suc, ◌+◌, ◌*◌, ◌/◌, ◌%◌, ◌≤◌, ◌<◌, ◌≡◌, ◌≢◌, Bool, true, false, cond, List, ltb, length, get_or}
use Rattle.loops.specs.Loop.{put}
use Rattle.bits.specs.Bit.{bit}
use Rattle.graph.specs.Graph.{count}
use Rattle.optimum.specs.Search.{Problem, Slots, Search, reach, enter, try_tree}

-- The first 64 numbers of an array.
abbrev pub first_part : List ℕ → ℕ → ℕ
first_part xs i = cond (ltb i 64) (get_or xs i 0) 0

-- Rows as a relation: slot k lies over tree rank t. Costs play no part.
abbrev pub board_over : (ℕ → ℕ) → Problem
board_over rows = record { trees = 64; spares = 64; covers = λ t. bit (rows t); tree_cost = λ _. 0; spare_cost = λ _. 0 }

abbrev pub board_of : List ℕ → Problem
board_of words = board_over (first_part words)

-- The tree rank of each slot.
abbrev pub slots_over : (ℕ → ℕ) → Slots
slots_over tree_of = record { slots = 64; spare_of = λ k. k; tree_of = tree_of }

abbrev pub slots_of : List ℕ → Slots
slots_of links = slots_over (first_part links)

-- The way back from tree rank x: the tree rank before, and the slot.
abbrev pub from_of : List ℕ → ℕ → ℕ
from_of links x = get_or links (64 + x) 0 % 64

abbrev pub by_of : List ℕ → ℕ → ℕ
by_of links x = get_or links (64 + x) 0 / 64 % 64

abbrev pub state_of : List ℕ → List ℕ → ℕ → Search
state_of words links live = record { live = bit live; seen = bit (get_or words 64 0); from = from_of links; by = by_of links }

-- The model's exploration over the arrays.
abbrev pub board_tree : List ℕ → List ℕ → (ℕ → Bool) → ℕ → ℕ → Search → Search
board_tree words links = try_tree (board_of words) (slots_of links)

-- The number of unvisited links: the two of each live slot, tree and spare. It is the measure of `try_slot`; that of
-- `try_tree` counts its own tree link besides. So it falls at each call of one by the other, as document 01 asks.
abbrev pub unvisited : ℕ → ℕ
unvisited live = 2 * count 64 (bit live)

-- The slots are paired with tree ranks below 64.
abbrev pub Partners : List ℕ → Type 0
Partners links = (k : ℕ) → k < 64 → get_or links k 0 < 64

-- What an exploration needs.
pub record Ready (t : ℕ) (words links : List ℕ) : Type 0 where
  pub rank : t < 64
  pub words_length : length words ≡ 66
  pub links_length : length links ≡ 128
  pub below : Partners links

-- What it leaves as it was: the arrays' sizes, the rows, and the tree ranks of the slots.
pub record Kept (words links words' links' : List ℕ) : Type 0 where
  pub words_length : length words' ≡ 66
  pub links_length : length links' ≡ 128
  pub rows : (t : ℕ) → t < 64 → get_or words' t 0 ≡ get_or words t 0
  pub partners : (k : ℕ) → k < 64 → get_or links' k 0 ≡ get_or links k 0

-- What tree rank t leaves: the model's state, for every number of turns that the live slots allow.
pub record TreeTried (t live : ℕ) (words links words' links' : List ℕ) (live' : ℕ) : Type 0 where
  pub kept : Kept words links words' links'
  pub ends : get_or words' 65 0 ≡ get_or words 65 0
  pub falls : (j : ℕ) → bit live' j ≡ true → bit live j ≡ true
  pub equal :
      (n : ℕ) → count 64 (bit live) ≤ n
      → state_of words' links' live' ≡ board_tree words links (bit (get_or words 65 0)) n t (state_of words links live)

-- What trying slot k leaves.
pub record SlotTried (t k live : ℕ) (words links words' links' : List ℕ) (live' : ℕ) : Type 0 where
  pub kept : Kept words links words' links'
  pub ends : get_or words' 65 0 ≡ get_or words 65 0
  pub falls : (j : ℕ) → bit live' j ≡ true → (j ≢ k) × (bit live j ≡ true)
  pub equal :
      (n : ℕ) → count 64 (bit live) ≤ suc n
      → state_of words' links' live'
      ≡ enter (bit (get_or words 65 0)) (board_tree words links (bit (get_or words 65 0)) n) (get_or links k 0)
      (reach t k (get_or links k 0) (state_of words links live))

-- Nothing but tree rank t visited; the ways back of earlier explorations are still there.
abbrev pub board_begun : ℕ → ℕ → List ℕ → Search
board_begun t live links = record { live = bit live; seen = put (λ _. false) t true; from = from_of links; by = by_of links }

-- What an exploration from tree rank t leaves.
pub record Explored (t live ends : ℕ) (words links words' links' : List ℕ) (live' : ℕ) : Type 0 where
  pub kept : Kept words links words' links'
  pub equal :
      (n : ℕ) → count 64 (bit live) ≤ n
      → state_of words' links' live' ≡ enter (bit ends) (board_tree words links (bit ends) n) t (board_begun t live links)
