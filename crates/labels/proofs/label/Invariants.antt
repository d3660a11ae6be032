-- `labels::label` meets its contract. The invariant: the model, run on what is left, gives what it gives on the whole. Assumes nothing.
use Rattle.labels.specs.OriginSteps.{LabelTurns}
use Rattle.labels.proofs.label.Given as goal

abbrev pub invariant-loop-free : goal.invariant-loop-free
invariant-loop-free l =
    LabelTurns l.trees l.spares l.slots l.cost l.ts l.ss l.cols l.slot l.initial.words l.initial.links
    l.free l.at.spares l.at.live l.words l.links l.label

abbrev pub decreases-loop-free : goal.decreases-loop-free
decreases-loop-free l = l.free
