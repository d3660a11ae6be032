-- A list of links in arrays: its first 256 links, and zeros behind the last one. Definitions only. Assumes nothing.
use Rattle.std.specs.Prelude.{ℕ, ◌≤◌, ◌≡◌, get_or}
use Rattle.frame.specs.Arrays.{Columns}
use Rattle.links.specs.Columns.{Places}

pub record ListHeld (edges : ℕ) (c : Columns) : Type 0 where
  pub places : Places c
  pub end₁ : (e : ℕ) → edges ≤ e → get_or c.end₁ e 0 ≡ 0
  pub end₂ : (e : ℕ) → edges ≤ e → get_or c.end₂ e 0 ≡ 0
  pub cost : (e : ℕ) → edges ≤ e → get_or c.cost e 0 ≡ 0
  pub mark : (e : ℕ) → edges ≤ e → get_or c.mark e 0 ≡ 0
