-- `violations::spares_at` meets its contract. The loop's invariant: how many there are among the links passed. Assumes nothing.
use mathlib.Core.Path.{◌≡◌}
use Rattle.violations.specs.Counting.{spares_at}
use Rattle.violations.proofs.spares_at.Given as goal

abbrev pub invariant-loop-at : goal.invariant-loop-at
invariant-loop-at l = l.found ≡ spares_at l.at l.end1 l.end2 l.cost l.mark l.mask l.k.0 l.x
