-- The labels as the code holds them, in the words of the model, and what its functions need and leave.
-- Definitions only. Assumes nothing.
use Rattle.std.specs.Prelude.{ℕ, ◌+◌, ◌≤◌, ◌<◌, ◌≡◌, ◌≢◌, Bool, true, false, cond, ◌&&◌, List, leb, ltb, eqb, length, get_or}
use Rattle.loops.specs.Loop.{first}
use Rattle.bits.specs.Bit.{bit}
use Rattle.graph.specs.Rank.{cost_at}
use Rattle.optimum.specs.Search.{Problem, Slots, spare_slot, never, search}
use Rattle.optimum.specs.Slackness.{Ranked}
use Rattle.optimum.specs.Lowest.{Marks, marked, label_slot, label_from, slot_marks}
use Rattle.search.specs.Board.{Partners, Kept}
use Rattle.search.specs.BoardLaws.{Fits}
use Rattle.matching.specs.Tables.{Edges, Holds, tables, HoldsPairs}

-- The slots without a label, and the labels.
abbrev pub marks_of : ℕ → List ℕ → Marks
marks_of live label = record { live = bit live; label = λ k. get_or label k 0 }

-- Tree rank t is in one of the first n pairs.
abbrev pub paired_below : ℕ → List ℕ → ℕ → Bool
paired_below n links t = ltb (first n (λ k. eqb (get_or links k 0) t)) n

-- The members of a set are slots.
abbrev pub AreSlots : Slots → ℕ → Type 0
AreSlots q live = (k : ℕ) → bit live k ≡ true → k < q.slots

-- The slots of a set have the label x.
pub record LabelPut (set x : ℕ) (label label' : List ℕ) : Type 0 where
  pub size : length label' ≡ 64
  pub at : (k : ℕ) → get_or label' k 0 ≡ cond (bit set k) x (get_or label k 0)

-- The arrays that a labelling changes have their sizes, and name tree ranks below 64.
pub record LabelRoom (words links label : List ℕ) : Type 0 where
  pub words_length : length words ≡ 66
  pub links_length : length links ≡ 128
  pub label_length : length label ≡ 64
  pub partners : Partners links

-- What an exploration from tree rank t over the slots `left` has visited is labelled, with those that were live but not in `left`.
pub record LabelledFrom (t x live left : ℕ) (words links label words' links' label' : List ℕ) (live' : ℕ) : Type 0 where
  pub kept : Kept words links words' links'
  pub size : length label' ≡ 64
  pub equal :
      (p : Problem) (q : Slots) → Fits p q words links → t < p.trees → AreSlots q left
      → AreSlots q live' × (marks_of live' label' ≡ marked x (search p q never (bit left) t) (marks_of live label))

-- What the arrays say of spare rank s: its cost, and its slot; its column is not 0 if it has none.
pub record HoldsSpare (p : Problem) (q : Slots) (s : ℕ) (cost ss cols slot : List ℕ) : Type 0 where
  pub costs : p.spare_cost s ≡ cost_at cost ss s
  pub without : get_or cols s 0 ≢ 0 → ltb (spare_slot q s) q.slots ≡ false
  pub own : get_or cols s 0 ≡ 0 → (spare_slot q s ≡ get_or slot s 0) × (spare_slot q s < q.slots)

-- Spare rank s as an origin.
pub record SpareLabelled (s live : ℕ) (cost ss cols slot words links label words' links' label' : List ℕ) (live' : ℕ) :
    Type 0 where
  pub kept : Kept words links words' links'
  pub size : length label' ≡ 64
  pub equal :
      (p : Problem) (q : Slots) → Fits p q words links → HoldsSpare p q s cost ss cols slot → AreSlots q live
      → AreSlots q live' × (marks_of live' label' ≡ label_slot p q s (spare_slot q s) (marks_of live label))

-- Every spare rank that costs `least` or more comes before tree rank t.
abbrev pub Before : Problem → ℕ → ℕ → Type 0
Before p least t = (x : ℕ) → least ≤ x → (ltb t p.trees && leb x (p.tree_cost t)) ≡ false

-- The spare ranks from `left'` to `left` as origins, for any tree rank that they come before: the model, run on what is left, gives
-- what it gives at the start.
pub record SparesLabelled (left live least : ℕ) (cost ss cols slot words links label words' links' label' : List ℕ)
    (left' live' : ℕ) : Type 0 where
  pub kept : Kept words links words' links'
  pub size : length label' ≡ 64
  pub fewer : left' ≤ left
  pub equal :
      (p : Problem) (q : Slots) → Fits p q words links → ((s : ℕ) → s < left → HoldsSpare p q s cost ss cols slot)
      → AreSlots q live
      → AreSlots q live' × ((n t : ℕ) → Before p least t
      → label_from p q (n + left') t left' (marks_of live' label') ≡ label_from p q (n + left) t left (marks_of live label))

-- What a loop over spare ranks reads: their edges; and a slot of each whose column is 0.
pub record SparesRead (spares : ℕ) (ss cols slot : List ℕ) : Type 0 where
  pub few : spares ≤ 256
  pub edges : Edges spares ss
  pub slots : (s : ℕ) → s < spares → get_or cols s 0 ≡ 0 → get_or slot s 0 < 64

-- What labelling needs.
pub record Labellable (trees spares slots : ℕ) (cost ts ss cols slot words links label : List ℕ) : Type 0 where
  pub few_trees : trees < 64
  pub few_slots : slots < 64
  pub tree_edges_lem : Edges trees ts
  pub below_top : (t : ℕ) → t < trees → cost_at cost ts t < 4294967295
  pub spares_read : SparesRead spares ss cols slot
  pub room : LabelRoom words links label
  pub unlabelled : (k : ℕ) → get_or label k 0 ≡ 0

-- What it leaves: the model's labels, and the pairs as they were.
pub record Labelled (trees spares slots : ℕ) (cost ts ss cols slot words links words' links' label' : List ℕ) : Type 0 where
  pub kept : Kept words links words' links'
  pub size : length label' ≡ 64
  pub labels :
      (p : Problem) (q : Slots) (cols₀ spare : List ℕ) → Ranked p → Holds p trees spares cost ts ss cols₀
      → HoldsPairs p q cols₀ (tables cols words links spare slot) → q.slots ≡ slots
      → (k : ℕ) → get_or label' k 0 ≡ (slot_marks p q).label k
