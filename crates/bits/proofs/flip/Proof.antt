-- `bits::flip` meets its contract. Assumes nothing.
use borrow.Author.Rules.{rules}
use Prim.Native.Nat.{◌*◌, ◌%◌, ◌^◌}
use mathlib.Core.Path.{ap, ◌∙◌}
use mathlib.Core.Bool.{xor}
use Rattle.bits.specs.Bit.{bit}
use Rattle.bits.specs.BitLaws.{bit_of_xor, bit_single}
use Rattle.bits.proofs.flip.Statement.{statement}
use Rattle.bits.proofs.flip.Tie as tie

shl-result : tie.Need-overflow_shl-result
shl-result c = search rules

returns : tie.Need-returns
returns c j = bit_of_xor c.args.w ((1 * 2 ^ c.args.i) % 2 ^ 64) j ∙ ap (xor (bit c.args.w j)) (bit_single 64 c.args.i j c.requires)

pub flip_spec : {M : Type 1} → statement M
flip_spec = tie.close (tie.spec shl-result returns)
