-- `bits::highest` meets its contract. Assumes nothing.
use native.Mathlib.Omega.{arith}
use mathlib.Core.Path.{sym}
use Rattle.bits.specs.BitLaws.{leading_last}
use Rattle.bits.proofs.highest.Statement.{statement}
use Rattle.bits.proofs.highest.Tie as tie

sub-result : tie.Need-overflow_sub-result
sub-result c = omega (arith, (leading_last 64 c.args.w c.requires c.ranges.w.fits).0)

returns : tie.Need-returns
returns c = sym (leading_last 64 c.args.w c.requires c.ranges.w.fits).1

pub highest_spec : {M : Type 1} → statement M
highest_spec = tie.close (tie.spec sub-result returns)
