-- `slots::fill` meets its contract. The loop's invariant: the rows, with the slot in those of what is left of the set, are as at
-- first with it in those of the whole set. The measure is what is left. Assumes nothing.
use Prim.Native.Nat.{◌^◌, ◌<◌}
use Rattle.slots.specs.PairLaws.{Filling}
use Rattle.slots.proofs.fill.Given as goal

abbrev pub invariant-loop-left : goal.invariant-loop-left
invariant-loop-left l = (l.left < 2 ^ 64) × Filling l.k.0 l.trees l.left l.initial.words l.words

abbrev pub decreases-loop-left : goal.decreases-loop-left
decreases-loop-left l = l.left
