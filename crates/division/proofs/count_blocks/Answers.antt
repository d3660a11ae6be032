use Rattle.std.proofs.Common.{sym, ◌∙◌, arith}
use Rattle.number.specs.Number.{Bytes}
use Rattle.division.specs.BlockLaws.{continued_few, count_block}
use Rattle.division.proofs.count_blocks.Goals as goal

pub loop-at-preserved : goal.loop-at-preserved
loop-at-preserved c =
    let s = c.args.frame.now in
    let bytes : Bytes s = λ i. (c.type_inv.frame i).fits in
    let firsts = c.block_firsts-more.ensures in
    let divides = sym c.block_divides.ensures ∙ c.if-not-block_divides.false in (
      omega (arith, firsts, continued_few s c.loop-at.at 32 bytes),
      rw firsts
          (count_block s c.loop-at.at c.loop-at.firsts 32 _ bytes c.loop-at.invariant.0 c.loop-at.invariant.1 (omega arith) divides),
    )
