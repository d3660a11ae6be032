-- The tables hold what the model has after as many tree ranks.
use Rattle.matching.specs.Tables.{tables}
use Rattle.matching.specs.BuildSteps.{Building}
use Rattle.matching.proofs.build.Given as goal

abbrev pub invariant-loop-t : goal.invariant-loop-t
invariant-loop-t l =
    Building l.t l.trees l.spares l.cost l.ts l.ss l.initial.cols l.at.slots l.at.low l.at.live l.at.weight
    (tables l.cols l.words l.links l.spare l.slot)
