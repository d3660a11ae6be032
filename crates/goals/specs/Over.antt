-- The next spare rank over a set of tree ranks, by columns: by spare rank a word of the tree ranks that it covers, 0 once it is in
-- a pair. Definitions only. Assumes nothing.
use Rattle.std.specs.Prelude.{ℕ, ◌+◌, ◌-◌, Bool, ◌&&◌, List, ltb, get_or}
use Rattle.loops.specs.Loop.{first}
use Rattle.bits.specs.Bit.{bit}

-- Column s has a member of the set.
abbrev pub meets : ℕ → List ℕ → ℕ → Bool
meets trees cols s = ltb (first 64 (λ t. bit (get_or cols s 0) t && bit trees t)) 64

-- The first from `from` on that has; `spares` if none has.
abbrev pub next_over : ℕ → ℕ → ℕ → List ℕ → ℕ
next_over from spares trees cols = from + first (spares - from) (λ i. meets trees cols (from + i))
