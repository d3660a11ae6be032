-- `bits::below` meets its contract. Assumes nothing.
use borrow.Author.Rules.{rules}
use Rattle.bits.specs.BitLaws.{one_above, bit_below}
use Rattle.bits.proofs.below.Statement.{statement}
use Rattle.bits.proofs.below.Tie as tie

shl-result : tie.Need-overflow_shl-result
shl-result c = search rules

sub-result : tie.Need-overflow_sub-result
sub-result c = one_above 64 c.args.i c.requires

returns : tie.Need-returns
returns c j = bit_below 64 c.args.i j c.requires

pub below_spec : {M : Type 1} → statement M
below_spec = tie.close (tie.spec shl-result sub-result returns)
