use Rattle.std.proofs.Common.{◌+◌, refl, add-one, arith}
use Rattle.loops.specs.Below.{sum}
use Rattle.division.proofs.block_firsts.Goals as goal

pub loop-k-init : goal.loop-k-init
unfolding sum
loop-k-init c = (refl, omega arith)

pub loop-k-preserved : goal.loop-k-preserved
unfolding sum
loop-k-preserved c = (
  rw (add-one, c.loop-k.invariant.0),
  omega (arith, c.type_inv.frame (c.args.at + c.loop-k.k)),
)
