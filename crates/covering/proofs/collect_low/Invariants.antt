-- `covering::collect_low` meets its contract. The loop's invariant: the keys of the edges passed are written, and the marks of
-- the others are still there. Assumes nothing.
use Rattle.covering.proofs.LowLaws.{LowCollected}
use Rattle.covering.proofs.collect_low.Given as goal

abbrev pub invariant-loop-e : goal.invariant-loop-e
invariant-loop-e l = LowCollected l.cost l.initial.mark l.ts l.end1 l.end2 l.mask l.mark l.n l.e
