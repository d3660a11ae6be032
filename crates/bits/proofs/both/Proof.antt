-- `bits::both` meets its contract. Assumes nothing.
use Rattle.bits.specs.BitLaws.{bit_of_and}
use Rattle.bits.proofs.both.Statement.{statement}
use Rattle.bits.proofs.both.Tie as tie

returns : tie.Need-returns
returns c = bit_of_and c.args.v c.args.w

pub both_spec : {M : Type 1} → statement M
both_spec = tie.close (tie.spec returns)
