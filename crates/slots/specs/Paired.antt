-- What a pair changes in the arrays, in the words of the model. Definitions only. Assumes nothing.
use Rattle.std.specs.Prelude.{ℕ, ◌≤◌, ◌<◌, ◌≡◌, false, ◌&&◌, ◌||◌, List, eqb, length, get_or, set}
use Rattle.loops.specs.Loop.{first}
use Rattle.bits.specs.Bit.{bit}
use Rattle.optimum.specs.Search.{Search, turn}
use Rattle.search.specs.Board.{from_of, by_of, Partners}

-- Slot k is put into the rows of the tree ranks of a set.
pub record Filled (k trees : ℕ) (words words' : List ℕ) : Type 0 where
  pub size : length words' ≡ 66
  pub rows : (t k' : ℕ) → t < 64 → bit (get_or words' t 0) k' ≡ (bit (get_or words t 0) k' || (eqb k k' && bit trees t))
  pub rest : (i : ℕ) → 64 ≤ i → get_or words' i 0 ≡ get_or words i 0

-- The ways back that the array holds, as an exploration: nothing else of one is asked when they are turned.
abbrev pub ways : List ℕ → Search
ways links = record { live = λ _. false; seen = λ _. false; from = from_of links; by = by_of links }

-- The way from tree rank `hit` back to `root` is turned, for a new slot.
pub record Turned (root hit slot : ℕ) (links links' : List ℕ) : Type 0 where
  pub size : length links' ≡ 128
  pub partners : Partners links'
  pub own : (k : ℕ) → k < 64 → get_or links' k 0 ≡ turn (ways links) root slot hit slot (λ j. get_or links j 0) k
  pub rest : (i : ℕ) → 64 ≤ i → get_or links' i 0 ≡ get_or links i 0

-- The lowest tree rank that a column and a set have in common.
abbrev pub hit_in : ℕ → ℕ → ℕ
hit_in column seen = first 64 (λ t. bit column t && bit seen t)

-- What the pair needs: its goal covers a tree rank that was seen.
pub record Pairing (t goal n seen : ℕ) (cols words links spare slot : List ℕ) : Type 0 where
  pub tree : t < 64
  pub goal_below : goal < 256
  pub slot_below : n < 64
  pub hit : hit_in (get_or cols goal 0) seen < 64
  pub cols_length : length cols ≡ 256
  pub words_length : length words ≡ 66
  pub links_length : length links ≡ 128
  pub spare_length : length spare ≡ 128
  pub slot_length : length slot ≡ 256
  pub partners : Partners links

-- The goal has slot n, and the way back from it to t is turned.
pub record PairPut (t goal n seen : ℕ) (cols words links spare slot cols' words' links' spare' slot' : List ℕ) : Type 0 where
  pub cols_are : cols' ≡ set cols goal 0
  pub words_are : Filled n (get_or cols goal 0) words words'
  pub links_are : Turned t (hit_in (get_or cols goal 0) seen) n links links'
  pub spare_is : spare' ≡ set spare n goal
  pub slot_is : slot' ≡ set slot goal n
  pub cols_length : length cols' ≡ 256
  pub spare_length : length spare' ≡ 128
  pub slot_length : length slot' ≡ 256
