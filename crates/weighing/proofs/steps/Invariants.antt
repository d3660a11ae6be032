-- The sum over the edges passed.
use Rattle.std.proofs.Common.{◌*◌, ◌≤◌, ◌≡◌, get_or}
use Rattle.loops.specs.Below.{sum}
use Rattle.frame.specs.Answers.{gap}
use Rattle.weighing.proofs.steps.Given as goal

abbrev pub invariant-loop-e : goal.invariant-loop-e
invariant-loop-e l = (l.steps ≡ sum l.e (λ e. gap (get_or l.costs e 0) (get_or l.cost e 0))) × (l.steps ≤ 4294967296 * l.e)
