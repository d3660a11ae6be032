-- `bits::either` meets its contract. Assumes nothing.
use Rattle.bits.specs.BitLaws.{bit_of_or}
use Rattle.bits.proofs.either.Statement.{statement}
use Rattle.bits.proofs.either.Tie as tie

returns : tie.Need-returns
returns c = bit_of_or c.args.v c.args.w

pub either_spec : {M : Type 1} → statement M
either_spec = tie.close (tie.spec returns)
