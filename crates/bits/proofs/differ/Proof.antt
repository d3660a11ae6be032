-- `bits::differ` meets its contract. Assumes nothing.
use Rattle.bits.specs.BitLaws.{bit_of_xor}
use Rattle.bits.proofs.differ.Statement.{statement}
use Rattle.bits.proofs.differ.Tie as tie

returns : tie.Need-returns
returns c = bit_of_xor c.args.v c.args.w

pub differ_spec : {M : Type 1} → statement M
differ_spec = tie.close (tie.spec returns)
