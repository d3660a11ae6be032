-- Packets heard until the marked tree is cheapest: what the functions over arrays ask for and give. Definitions only. Assumes nothing.
use Rattle.std.specs.Prelude.{ℕ, ◌<◌, ◌≤◌, ◌≡◌, ◌⊎◌, Bool, List, Option, MatchOption, eqb, length}
use Rattle.std.proofs.Math.Option.{none}
use Rattle.sheet.specs.Sheet.{InRange}
use Rattle.sheet.specs.Reading.{costs_at}
use Rattle.replay.specs.LogReading.{read_log}
use Rattle.replay.proofs.Hearing.{HeardTo}
use Rattle.violations.specs.Counting.{violations_by}
use Rattle.watch.specs.declared.Heard.{Heard}

-- An array of 256 costs, those of the links in range.
pub record RangedCosts (edges : ℕ) (cs : List ℕ) : Type 0 where
  pub few : edges ≤ 256
  pub places : length cs ≡ 256
  pub range : InRange edges (costs_at cs)

-- A packet of link e comes, where there are b violations before it.
pub record Hears (edges b e : ℕ) (ranks as₁ as₂ as₃ as₄ mask : List ℕ) : Type 0 where
  pub priced : RangedCosts edges as₃
  pub inside : e < edges
  pub before : b ≡ violations_by edges ranks as₁ as₂ as₄ mask (costs_at as₃)

-- No violation at the costs c.
abbrev pub none_at : ((ℕ → ℕ) → ℕ) → (ℕ → ℕ) → Bool
none_at count c = eqb (count c) 0

-- The log s has been heard as far as h says, with the costs before and after, where `count` counts violations: every packet up to there
-- is one of the job; there is a violation before the last of them, at each number of packets; and there is none after it, or no packet
-- is left.
pub record HeardSoFar (edges : ℕ) (s : List ℕ) (count : (ℕ → ℕ) → ℕ) (cs : List ℕ) (h : Heard) (cs' : List ℕ) : Type 0 where
  pub heard : HeardTo edges s (costs_at cs) (none_at count) h.at h.count (costs_at cs')
  pub left : h.violations ≡ count (costs_at cs')
  pub ends : (h.violations ≡ 0) ⊎ (length s ≤ h.at)

-- How far the log s has been heard; or it is no log to the job.
pub record Watched (edges : ℕ) (s : List ℕ) (count : (ℕ → ℕ) → ℕ) (cs : List ℕ) (r : Option Heard) (cs' : List ℕ) : Type 0 where
  pub so_far : MatchOption r (read_log edges s ≡ none) (λ h. HeardSoFar edges s count cs h cs')
  pub priced : RangedCosts edges cs'
