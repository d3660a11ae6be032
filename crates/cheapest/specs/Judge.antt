-- The judge over arrays: when a spare holds, which covered ranks tell it, and what the functions ask of the arrays.
-- Definitions only. Assumes nothing.
use Rattle.std.specs.Prelude.{ℕ, ◌≤◌, ◌<◌, ◌≡◌, Bool, true, false, not, ◌&&◌, ◌||◌, List, leb, ltb, eqb, length, get_or}
use Rattle.loops.specs.Below.{all_below}
use Rattle.loops.specs.Loop.{first}
use Rattle.bits.specs.Bit.{bit}
use Rattle.graph.specs.Rank.{cost_at}
use Rattle.paths.specs.Arrays.{array_spare, paths, across}

-- Spare s does not cost less than the tree edge of rank k.
abbrev pub affords : List ℕ → List ℕ → ℕ → ℕ → Bool
affords ranks as₃ s k = leb (cost_at as₃ ranks k) (get_or as₃ s 0)

-- It does not cost less than any tree edge that it covers.
abbrev pub spare_holds : List ℕ → List ℕ → List ℕ → List ℕ → List ℕ → ℕ → Bool
spare_holds ranks as₁ as₂ as₃ mask s =
    all_below 64 λ k. not (across mask (get_or as₁ s 0) (get_or as₂ s 0) k) || affords ranks as₃ s k

-- A link that is no spare, or a spare that holds.
abbrev pub link_holds : List ℕ → List ℕ → List ℕ → List ℕ → List ℕ → List ℕ → ℕ → Bool
link_holds ranks as₁ as₂ as₃ as₄ mask s = not (array_spare as₄ s) || spare_holds ranks as₁ as₂ as₃ mask s

-- The first `count` ranks of which each costs no more than any lower one.
abbrev pub not_dearer : ℕ → List ℕ → List ℕ → ℕ → Bool
not_dearer count ranks as₃ k = ltb k count && all_below k (λ j. leb (cost_at as₃ ranks k) (cost_at as₃ ranks j))

-- The ranks of a word that may be its dearest, where those in `falling` cost no more than any lower one.
abbrev pub may_lead : ℕ → ℕ → ℕ → Bool
may_lead word falling k = bit word k && (not (bit falling k) || eqb (first 64 (bit word)) k)

-- Ranks that name edges of the arrays.
pub record Priced (count : ℕ) (ranks : List ℕ) : Type 0 where
  pub few : count ≤ 64
  pub edge : (k : ℕ) → k < count → get_or ranks k 0 < 256

-- Of the first `count` ranks those in `falling` cost no more than any lower one.
abbrev pub FallAlong : ℕ → ℕ → List ℕ → List ℕ → Type 0
FallAlong count falling ranks as₃ = (j k : ℕ) → j < k → k < count → bit falling k ≡ true → cost_at as₃ ranks k
    ≤ cost_at as₃ ranks j

-- A link of the arrays between two nodes, whose covered ranks name edges, and covered ranks that cost no more than any lower one.
pub record Spare (s falling : ℕ) (ranks as₁ as₂ as₃ mask : List ℕ) : Type 0 where
  pub link : s < 256
  pub first : get_or as₁ s 0 < 64
  pub second : get_or as₂ s 0 < 64
  pub edge : (k : ℕ) → across mask (get_or as₁ s 0) (get_or as₂ s 0) k ≡ true → get_or ranks k 0 < 256
  pub falls :
      (j k : ℕ) → j < k → across mask (get_or as₁ s 0) (get_or as₂ s 0) k ≡ true → bit falling k ≡ true
      → cost_at as₃ ranks k ≤ cost_at as₃ ranks j

-- Links of the arrays between nodes, `count` ranks that name edges, and no other rank in the masks.
pub record Judged (edges count : ℕ) (ranks as₁ as₂ mask : List ℕ) : Type 0 where
  pub links : edges ≤ 256
  pub few : count ≤ 63
  pub within : count ≤ length ranks
  pub edge : (k : ℕ) → k < count → get_or ranks k 0 < 256
  pub first : (e : ℕ) → e < edges → get_or as₁ e 0 < 64
  pub second : (e : ℕ) → e < edges → get_or as₂ e 0 < 64
  pub below : (v k : ℕ) → count ≤ k → paths mask v k ≡ false
