-- `limits::is_tree` meets its contract. Assumes nothing.
use mathlib.Core.Path.{refl}
use Rattle.limits.proofs.is_tree.Statement.{statement}
use Rattle.limits.proofs.is_tree.Tie as tie

returns : tie.Need-returns
returns c = refl

pub is_tree_spec : {M : Type 1} → statement M
is_tree_spec = tie.close (tie.spec returns)
