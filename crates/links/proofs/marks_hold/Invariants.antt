-- Question 5 of the links passed is what `holds` says.
use Rattle.std.proofs.Common.{◌≡◌}
use Rattle.links.specs.Columns.{marks_hold}
use Rattle.links.proofs.marks_hold.Given as goal

abbrev pub invariant-loop-m : goal.invariant-loop-m
invariant-loop-m l = l.holds ≡ marks_hold l.m-index l.mark
