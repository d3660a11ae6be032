-- `bits::without` meets its contract. Assumes nothing.
use borrow.Author.Rules.{rules}
use Prim.Native.Nat.{◌*◌, ◌%◌, ◌^◌}
use native.Mathlib.Omega.{arith}
use mathlib.Core.Path.{ap, ◌∙◌}
use mathlib.Core.Bool.{not, ◌&&◌}
use Rattle.bits.specs.Bit.{bit}
use Rattle.bits.specs.BitLaws.{bit_less, bit_single}
use Rattle.bits.proofs.without.Statement.{statement}
use Rattle.bits.proofs.without.Tie as tie

shl-result : tie.Need-overflow_shl-result
shl-result c = search rules

returns : tie.Need-returns
returns c j =
    bit_less 64 c.args.w ((1 * 2 ^ c.args.i) % 2 ^ 64) j c.ranges.w.fits (omega arith)
    ∙ ap (λ b. bit c.args.w j && not b) (bit_single 64 c.args.i j c.requires)

pub without_spec : {M : Type 1} → statement M
without_spec = tie.close (tie.spec shl-result returns)
