-- `violations::count_all` meets its contract. The loop's invariant: the violations of the links passed. Assumes nothing.
use mathlib.Core.Path.{◌≡◌}
use Rattle.violations.specs.Counting.{violations_at}
use Rattle.violations.proofs.count_all.Given as goal

abbrev pub invariant-loop-e : goal.invariant-loop-e
invariant-loop-e l = l.total ≡ violations_at l.e l.ranks l.end1 l.end2 l.cost l.mark l.mask
