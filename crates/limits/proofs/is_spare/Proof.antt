-- `limits::is_spare` meets its contract. Assumes nothing.
use Rattle.limits.specs.MarkLaws.{spare_zero}
use Rattle.limits.proofs.is_spare.Statement.{statement}
use Rattle.limits.proofs.is_spare.Tie as tie

returns : tie.Need-returns
returns c = spare_zero c.args.mark

pub is_spare_spec : {M : Type 1} → statement M
is_spare_spec = tie.close (tie.spec returns)
