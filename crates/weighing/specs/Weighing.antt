-- The order of a listed pairing, and its weight. Definitions only. Assumes nothing.
use Rattle.std.specs.Prelude.{ℕ, ◌-◌, ◌≤◌, ◌<◌, Bool, not, ◌&&◌, List, ltb, eqb, get_or}
use Rattle.loops.specs.Below.{all_below}
use Rattle.frame.specs.Answers.{pair_from}

-- Two pairs in the order of the list; and every pair before pair i.
abbrev pub pair_later : List ℕ → ℕ → ℕ → Bool
pair_later ps i k = ltb (pair_from ps k).tree (pair_from ps i).tree && not (eqb (pair_from ps k).spare (pair_from ps i).spare)

abbrev pub pair_rises : List ℕ → ℕ → Bool
pair_rises ps i = all_below i (pair_later ps i)

-- Old tree cost less old spare cost.
abbrev pub fall : List ℕ → List ℕ → ℕ → ℕ
fall ps as₃ i = get_or as₃ (pair_from ps i).tree 0 - get_or as₃ (pair_from ps i).spare 0

-- Pairs of links, none with a spare dearer than its tree edge.
pub record Falling (count : ℕ) (ps as₃ : List ℕ) : Type 0 where
  pub few : count ≤ 64
  pub tree : (i : ℕ) → i < count → (pair_from ps i).tree < 256
  pub spare : (i : ℕ) → i < count → (pair_from ps i).spare < 256
  pub falls : (i : ℕ) → i < count → get_or as₃ (pair_from ps i).spare 0 ≤ get_or as₃ (pair_from ps i).tree 0
