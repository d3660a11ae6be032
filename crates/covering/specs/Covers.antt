-- When an edge covers a tree rank by its ends' masks, when a spare rank undercuts a tree rank, the spares that undercut some, and
-- what the functions over ranks ask of their arrays. Definitions only. Assumes nothing.
use Rattle.std.specs.Prelude.{ℕ, ◌≤◌, ◌<◌, ◌≡◌, Bool, false, cond, ◌&&◌, List, ltb, eqb, length, get_or, take}
use Rattle.limits.specs.Limits.{marks_spare}
use Rattle.loops.specs.Loop.{first}
use Rattle.bits.specs.Bit.{bit}
use Rattle.graph.specs.Graph.{EdgeSet}
use Rattle.graph.specs.Rank.{cost_at}
use Rattle.paths.specs.Arrays.{paths, across}
use Rattle.ranks.specs.Keys.{rank_list}

-- Edge e covers the tree edge of rank t: it lies between the edge's ends.
abbrev pub covers : List ℕ → List ℕ → List ℕ → ℕ → ℕ → Bool
covers end₁ end₂ mask e t = across mask (get_or end₁ e 0) (get_or end₂ e 0) t

-- Spare rank s covers tree rank t and costs less.
abbrev pub undercuts_at : List ℕ → List ℕ → List ℕ → List ℕ → List ℕ → List ℕ → ℕ → ℕ → Bool
undercuts_at cost ts ss end₁ end₂ mask t s = covers end₁ end₂ mask (get_or ss s 0) t && ltb (cost_at cost ss s)
    (cost_at cost ts t)

-- The columns say which of the tree ranks each of the first `spares` spare ranks undercuts.
abbrev pub ColumnsHold : ℕ → ℕ → List ℕ → List ℕ → List ℕ → List ℕ → List ℕ → List ℕ → List ℕ → Type 0
ColumnsHold trees spares cost ts ss end₁ end₂ mask cols =
    (t s : ℕ) → s < spares → bit (get_or cols s 0) t ≡ (ltb t trees && undercuts_at cost ts ss end₁ end₂ mask t s)

-- What the dearest tree edge costs; 0 if there is none.
abbrev pub dearest_of : ℕ → List ℕ → List ℕ → ℕ
dearest_of trees cost ts = cond (eqb trees 0) 0 (cost_at cost ts 0)

-- The edges that cost less than one of the tree edges that they cover.
abbrev pub undercutting : ℕ → List ℕ → List ℕ → List ℕ → List ℕ → List ℕ → EdgeSet
undercutting trees cost ts end₁ end₂ mask e =
    ltb (first trees (λ t. covers end₁ end₂ mask e t && ltb (get_or cost e 0) (cost_at cost ts t))) trees

-- The spares among them, and the list of these by rising cost.
abbrev pub is_low : ℕ → List ℕ → List ℕ → List ℕ → List ℕ → List ℕ → List ℕ → EdgeSet
is_low trees cost mark ts end₁ end₂ mask e = marks_spare (get_or mark e 0) && undercutting trees cost ts end₁ end₂ mask e

abbrev pub low_list : ℕ → ℕ → List ℕ → List ℕ → List ℕ → List ℕ → List ℕ → List ℕ → List ℕ
low_list trees edges cost mark ts end₁ end₂ mask = rank_list false edges cost (is_low trees cost mark ts end₁ end₂ mask)

-- The costs of the first `count` ranks fall, or rise.
abbrev pub RanksFall : ℕ → List ℕ → List ℕ → Type 0
RanksFall count cost ranks = (k k' : ℕ) → k ≤ k' → k' < count → cost_at cost ranks k' ≤ cost_at cost ranks k

abbrev pub RanksRise : ℕ → List ℕ → List ℕ → Type 0
RanksRise count cost ranks = (k k' : ℕ) → k ≤ k' → k' < count → cost_at cost ranks k ≤ cost_at cost ranks k'

-- The ends of the edges of the first `count` ranks are nodes.
pub record Ends (count : ℕ) (ranks end₁ end₂ : List ℕ) : Type 0 where
  pub first : (k : ℕ) → k < count → get_or end₁ (get_or ranks k 0) 0 < 64
  pub second : (k : ℕ) → k < count → get_or end₂ (get_or ranks k 0) 0 < 64

-- Edges between nodes, tree ranks that name edges by falling cost, and no other rank in the masks.
pub record Crossed (trees edges : ℕ) (cost ts end₁ end₂ mask : List ℕ) : Type 0 where
  pub few_trees : trees ≤ 64
  pub few_edges : edges ≤ 256
  pub edge : (t : ℕ) → t < trees → get_or ts t 0 < 256
  pub falls : RanksFall trees cost ts
  pub first : (e : ℕ) → e < edges → get_or end₁ e 0 < 64
  pub second : (e : ℕ) → e < edges → get_or end₂ e 0 < 64
  pub below : (v t : ℕ) → trees ≤ t → paths mask v t ≡ false

-- The spares that undercut are the first `spares` of an array.
pub record LowRanked (trees edges : ℕ) (cost mark ts end₁ end₂ mask : List ℕ) (spares : ℕ) (ss : List ℕ) : Type 0 where
  pub size : spares ≡ length (low_list trees edges cost mark ts end₁ end₂ mask)
  pub ranked : take spares ss ≡ low_list trees edges cost mark ts end₁ end₂ mask
  pub places : length ss ≡ 256
