-- `sheet_read::moved_cost` meets its contract: a rise or a fall, in range or out of it. Assumes nothing.
use native.Mathlib.Omega.{arith}
use Rattle.sheet_read.specs.ApplyLaws.{risen_out, risen, fallen_out, fallen}
use Rattle.sheet_read.proofs.moved_cost.Goals as goal

pub returns-then-old-half : goal.returns-then-old-half
returns-then-old-half c =
    risen_out c.args.old c.args.code c.requires c.if-code-eq0.true c.if-old-half.true

pub returns-then-code-eq0 : goal.returns-then-code-eq0
returns-then-code-eq0 c =
    risen c.args.old c.args.code c.requires c.if-code-eq0.true (omega (arith, c.if-old-half.false))

pub returns-then-old-half-2 : goal.returns-then-old-half-2
returns-then-old-half-2 c =
    fallen_out c.args.old c.args.code c.requires c.if-code-eq0.false c.if-old-half-2.true

pub returns : goal.returns
returns c =
    fallen c.args.old c.args.code c.requires c.if-code-eq0.false (omega (arith, c.if-old-half-2.false))
