-- `goals::goal_over` meets its contract. Assumes nothing.
use native.Mathlib.Omega.{arith}
use mathlib.Core.Path.{◌∙◌}
use Rattle.goals.specs.OverLaws.{over_later}
use Rattle.goals.proofs.goal_over.Goals as goal

pub returns : goal.returns
returns c =
    let a = c.args in
    c.first_over.ensures ∙ over_later a.from a.spares a.trees a.cols.now _ (omega arith) c.blocks_passed-passed.ensures.0 c.blocks_passed-passed.ensures.1
