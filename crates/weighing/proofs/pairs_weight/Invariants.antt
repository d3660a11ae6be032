-- The sum over the pairs passed.
use Rattle.std.proofs.Common.{◌*◌, ◌≤◌, ◌≡◌}
use Rattle.loops.specs.Below.{sum}
use Rattle.weighing.specs.Weighing.{fall}
use Rattle.weighing.proofs.pairs_weight.Given as goal

abbrev pub invariant-loop-i : goal.invariant-loop-i
invariant-loop-i l = (l.total ≡ sum l.i (fall l.pairs l.cost)) × (l.total ≤ 4294967296 * l.i)
