-- The model, run on what is left, gives what it gives at the start.
use Rattle.labels.specs.Labels.{SparesLabelled}
use Rattle.labels.proofs.label_spares.Given as goal

abbrev pub invariant-loop-s : goal.invariant-loop-s
invariant-loop-s l =
    SparesLabelled l.fn.from.spares l.fn.from.live l.least l.cost l.ss l.cols l.slot l.initial.words l.initial.links
    l.initial.label l.words l.links l.label l.s l.live
