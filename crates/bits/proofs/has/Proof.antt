-- `bits::has` meets its contract. Assumes nothing.
use borrow.Author.Rules.{rules}
use Rattle.bits.specs.BitLaws.{bit_tested}
use Rattle.bits.proofs.has.Statement.{statement}
use Rattle.bits.proofs.has.Tie as tie

shr-result : tie.Need-overflow_shr-result
shr-result c = search rules

returns : tie.Need-returns
returns c = bit_tested c.args.w c.args.i

pub has_spec : {M : Type 1} → statement M
has_spec = tie.close (tie.spec shr-result returns)
