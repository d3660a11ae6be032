-- `goals::united` meets its contract. The loop's invariant: the word holds what one of the columns passed holds. Assumes nothing.
use Prim.Native.Nat.{ℕ, ◌+◌}
use mathlib.Core.Path.{◌≡◌}
use lib.Dec.{ltb}
use lib.ListN.{get_or}
use Rattle.loops.specs.Loop as Loop
use Rattle.bits.specs.Bit.{bit}
use Rattle.goals.proofs.united.Given as goal

abbrev pub invariant-loop-column : goal.invariant-loop-column
invariant-loop-column l =
    (t : ℕ) → bit l.w t ≡ ltb (Loop.first l.column-index (λ j. bit (get_or l.cols (l.from + j) 0) t)) l.column-index
