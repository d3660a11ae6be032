-- Question 4 of the links passed is what `holds` says.
use Rattle.std.proofs.Common.{◌≡◌}
use Rattle.links.specs.Columns.{ends_hold}
use Rattle.links.proofs.ends_hold.Given as goal

abbrev pub invariant-loop-e : goal.invariant-loop-e
invariant-loop-e l = l.holds ≡ ends_hold l.nodes l.e l.end1 l.end2
