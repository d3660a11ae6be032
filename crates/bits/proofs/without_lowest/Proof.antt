-- `bits::without_lowest` meets its contract. Assumes nothing.
use borrow.Author.Rules.{rules}
use Rattle.bits.specs.BitLaws.{bit_cleared}
use Rattle.bits.proofs.without_lowest.Statement.{statement}
use Rattle.bits.proofs.without_lowest.Tie as tie

sub-result : tie.Need-overflow_sub-result
sub-result c = search rules

returns : tie.Need-returns
returns c j = bit_cleared 64 c.args.w j c.requires c.ranges.w.fits

pub without_lowest_spec : {M : Type 1} → statement M
without_lowest_spec = tie.close (tie.spec sub-result returns)
