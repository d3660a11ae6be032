-- The pairs as the arrays name them, and what is asked of these names. Definitions only. Assumes nothing.
use Rattle.std.specs.Prelude.{ℕ, ◌≤◌, ◌<◌, List, get_or}
use Rattle.optimum.specs.Search.{Slots}

abbrev pub slot_pairs : ℕ → List ℕ → List ℕ → Slots
slot_pairs slots links spare = record { slots = slots; spare_of = λ k. get_or spare k 0; tree_of = λ k. get_or links k 0 }

-- Each slot has a tree rank and a spare rank, and these have edges.
pub record SlotsNamed (slots : ℕ) (ts ss links spare : List ℕ) : Type 0 where
  pub few : slots ≤ 64
  pub tree_ranks_lem : (k : ℕ) → k < slots → get_or links k 0 < 256
  pub spare_ranks : (k : ℕ) → k < slots → get_or spare k 0 < 256
  pub tree_edges_lem : (k : ℕ) → k < slots → get_or ts (get_or links k 0) 0 < 256
  pub spare_edges : (k : ℕ) → k < slots → get_or ss (get_or spare k 0) 0 < 256
