-- A number as a set: which of its binary digits are set, the lowest first. Definitions only. Assumes nothing.
use Rattle.std.specs.Prelude.{ℕ, zero, suc, ◌/◌, ◌%◌, Bool, eqb}

-- Digit i of w is set.
unfoldable pub bit : ℕ → ℕ → Bool
bit w zero = eqb (w % 2) 1
bit w (suc i) = bit (w / 2) i
