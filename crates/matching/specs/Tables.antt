-- The matching in progress as the code holds it, in five arrays, in the words of the model. Definitions only. Assumes nothing.
use Rattle.std.specs.Prelude.{ℕ, ◌≤◌, ◌<◌, ◌≡◌, ◌≢◌, true, false, cond, List, eqb, length, get_or}
use Rattle.graph.specs.Rank.{cost_at}
use Rattle.bits.specs.Bit.{bit}
use Rattle.search.specs.Board.{Partners}
use Rattle.optimum.specs.Search.{Problem, Slots, mates_in, Progress}

-- The first n ranks are numbers of edges.
abbrev pub Edges : ℕ → List ℕ → Type 0
Edges n ranks = (k : ℕ) → k < n → get_or ranks k 0 < 256

-- The arrays hold the problem p: by spare rank a column of the tree ranks that it covers, one at least.
pub record Holds (p : Problem) (trees spares : ℕ) (cost ts ss cols : List ℕ) : Type 0 where
  pub trees_are : p.trees ≡ trees
  pub spares_are : p.spares ≡ spares
  pub covered : (t s : ℕ) → t < trees → s < spares → p.covers t s ≡ bit (get_or cols s 0) t
  pub past : (t s : ℕ) → trees ≤ t → s < spares → bit (get_or cols s 0) t ≡ false
  pub some : (s : ℕ) → s < spares → get_or cols s 0 ≢ 0
  pub tree_cost_lem : (t : ℕ) → t < trees → p.tree_cost t ≡ cost_at cost ts t
  pub spare_cost_lem : (s : ℕ) → s < spares → p.spare_cost s ≡ cost_at cost ss s

-- The arrays of the pairs: the columns of the spare ranks in no pair; by tree rank the slots over it (at 0 to 63 of `words`); by
-- slot its tree rank (at 0 to 63 of `links`) and its spare rank; by spare rank its slot.
pub record Tables : Type 0 where
  pub cols : List ℕ
  pub words : List ℕ
  pub links : List ℕ
  pub spare : List ℕ
  pub slot : List ℕ

abbrev pub tables : List ℕ → List ℕ → List ℕ → List ℕ → List ℕ → Tables
tables cols words links spare slot = record { cols = cols; words = words; links = links; spare = spare; slot = slot }

-- They have their sizes, and name tree ranks below 64.
pub record Sized (b : Tables) : Type 0 where
  pub cols_length : length b.cols ≡ 256
  pub words_length : length b.words ≡ 66
  pub links_length : length b.links ≡ 128
  pub spare_length : length b.spare ≡ 128
  pub slot_length : length b.slot ≡ 256
  pub partners : Partners b.links

-- They hold the pairs q of the problem p, whose columns were `cols₀` before the first pair.
pub record HoldsPairs (p : Problem) (q : Slots) (cols₀ : List ℕ) (b : Tables) : Type 0 where
  pub few : q.slots ≤ p.trees
  pub own : (k : ℕ) → k < q.slots → get_or b.links k 0 ≡ q.tree_of k
  pub below : (k : ℕ) → k < q.slots → q.tree_of k < p.trees
  pub spares : (k : ℕ) → k < q.slots → get_or b.spare k 0 ≡ q.spare_of k
  pub ranks : (k : ℕ) → k < q.slots → q.spare_of k < p.spares
  pub places : (k : ℕ) → k < q.slots → get_or b.slot (q.spare_of k) 0 ≡ k
  pub rows : (t k : ℕ) → t < p.trees → k < q.slots → p.covers t (q.spare_of k) ≡ bit (get_or b.words t 0) k
  pub columns : (s : ℕ) → s < p.spares → get_or b.cols s 0 ≡ cond (eqb (mates_in q s) 0) (get_or cols₀ s 0) 0

-- They hold the matching in progress, with its live slots, its weight, and `low`: every spare rank below it is in a pair.
pub record HoldsProgress (p : Problem) (pr : Progress) (cols₀ : List ℕ) (slots low live weight : ℕ) (b : Tables) : Type 0 where
  pub slots_are : pr.pairs.slots ≡ slots
  pub live_are : bit live ≡ pr.live
  pub live_below : (k : ℕ) → bit live k ≡ true → k < slots
  pub weighs : pr.weight ≡ weight
  pub low_paired : (s : ℕ) → s < low → s < p.spares → mates_in pr.pairs s ≢ 0
  pub pairs : HoldsPairs p pr.pairs cols₀ b
