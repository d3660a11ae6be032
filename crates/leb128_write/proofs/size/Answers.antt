-- One byte, or one more than the rest. Assumes nothing.
use Rattle.std.proofs.Common.{◌+◌, ◌-◌, ◌≡◌, length, ap, arith}
use Rattle.leb128_write.proofs.Steps.{encode_none, encode_last, encode_further}
use Rattle.leb128_write.proofs.size.Goals as goal

pub loop-k-init : goal.loop-k-init
loop-k-init c = let e : c.args.most - 0 ≡ c.args.most = omega arith in rw e (omega arith)

pub returns-then-rest-lt128 : goal.returns-then-rest-lt128
returns-then-rest-lt128 c =
    omega (arith, c.loop-k.invariant, ap length (encode_last (c.args.most - c.loop-k.k) c.loop-k.rest (λ z. omega (arith, z)) c.if-rest-lt128.true))

pub loop-k-preserved : goal.loop-k-preserved
loop-k-preserved c =
    omega (
      arith,
      c.loop-k.invariant,
      ap length (encode_further (c.args.most - c.loop-k.k) (c.args.most - (c.loop-k.k + 1)) c.loop-k.rest (omega arith) c.if-rest-lt128.false),
    )

pub returns : goal.returns
returns c = omega (arith, c.loop-k.invariant, ap length (encode_none (c.args.most - c.loop-k.k) c.loop-k.rest (omega arith)))
