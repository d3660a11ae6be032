-- `goals::meets` meets its contract. Assumes nothing.
use native.Mathlib.Omega.{arith}
use Rattle.goals.specs.OverLaws.{meets_is}
use Rattle.goals.proofs.meets.Goals as goal

pub returns : goal.returns
returns c =
    meets_is c.args.trees c.args.cols.now c.args.s c.both.result c.both.ensures (omega arith)
