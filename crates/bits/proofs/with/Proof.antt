-- `bits::with` meets its contract. Assumes nothing.
use borrow.Author.Rules.{rules}
use Prim.Native.Nat.{◌*◌, ◌%◌, ◌^◌}
use mathlib.Core.Path.{ap, ◌∙◌}
use mathlib.Core.Bool.{◌||◌}
use Rattle.bits.specs.Bit.{bit}
use Rattle.bits.specs.BitLaws.{bit_of_or, bit_single}
use Rattle.bits.proofs.with.Statement.{statement}
use Rattle.bits.proofs.with.Tie as tie

shl-result : tie.Need-overflow_shl-result
shl-result c = search rules

returns : tie.Need-returns
returns c j = bit_of_or c.args.w ((1 * 2 ^ c.args.i) % 2 ^ 64) j ∙ ap (λ b. bit c.args.w j || b) (bit_single 64 c.args.i j c.requires)

pub with_spec : {M : Type 1} → statement M
with_spec = tie.close (tie.spec shl-result returns)
