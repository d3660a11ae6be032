-- `bits::lowest` meets its contract. Assumes nothing.
use Rattle.bits.specs.BitLaws.{trailing_first}
use Rattle.bits.proofs.lowest.Statement.{statement}
use Rattle.bits.proofs.lowest.Tie as tie

returns : tie.Need-returns
returns c = trailing_first 64 c.args.w

pub lowest_spec : {M : Type 1} → statement M
lowest_spec = tie.close (tie.spec returns)
