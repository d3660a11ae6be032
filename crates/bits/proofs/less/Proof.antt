-- `bits::less` meets its contract. Assumes nothing.
use Rattle.bits.specs.BitLaws.{bit_less}
use Rattle.bits.proofs.less.Statement.{statement}
use Rattle.bits.proofs.less.Tie as tie

returns : tie.Need-returns
returns c j = bit_less 64 c.args.v c.args.w j c.ranges.v.fits c.ranges.w.fits

pub less_spec : {M : Type 1} → statement M
less_spec = tie.close (tie.spec returns)
