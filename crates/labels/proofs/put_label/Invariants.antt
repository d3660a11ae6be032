-- `labels::put_label` meets its contract. The invariant: the label, put at what is left, gives the whole. Assumes nothing.
use Rattle.labels.specs.FillSteps.{LabelsLeft}
use Rattle.labels.proofs.put_label.Given as goal

abbrev pub invariant-loop-left : goal.invariant-loop-left
invariant-loop-left l = LabelsLeft l.set l.x l.initial.label l.left l.label

abbrev pub decreases-loop-left : goal.decreases-loop-left
decreases-loop-left l = l.left
