-- One byte, or the first of `encode` and the rest behind it. Assumes nothing.
use Rattle.std.proofs.Common.{◌+◌, ◌-◌, ◌≡◌, length, ap, sym, add-one, arith}
use Rattle.leb128_write.proofs.Steps.{encode_none, encode_last, encode_further}
use Rattle.leb128_write.proofs.write.Goals as goal

pub loop-init : goal.loop-init
loop-init c = let e : c.args.most - 0 ≡ c.args.most = omega arith in record { next = rw e; area = rw e }

pub bounds-area-next : goal.bounds-area-next
bounds-area-next c = omega (arith, ap length (encode_last (c.args.most - c.loop.counter) c.loop.rest (λ z. omega (arith, z)) c.if-rest-lt128.true))

pub returns-then-rest-lt128-clause-next : goal.returns-then-rest-lt128-clause-next
returns-then-rest-lt128-clause-next c =
    omega (arith, ap length (encode_last (c.args.most - c.loop.counter) c.loop.rest (λ z. omega (arith, z)) c.if-rest-lt128.true))

pub returns-then-rest-lt128-clause-area : goal.returns-then-rest-lt128-clause-area
returns-then-rest-lt128-clause-area c =
    sym (rw (encode_last (c.args.most - c.loop.counter) c.loop.rest (λ z. omega (arith, z)) c.if-rest-lt128.true) at c.loop.invariant.area)

pub bounds-area-next-in-loop : goal.bounds-area-next-in-loop
bounds-area-next-in-loop c =
    omega (
      arith,
      ap length (encode_further (c.args.most - c.loop.counter) (c.args.most - (c.loop.counter + 1)) c.loop.rest (omega arith) c.if-rest-lt128.false),
    )

pub loop-preserved : goal.loop-preserved
loop-preserved c =
    let e = encode_further (c.args.most - c.loop.counter) (c.args.most - (c.loop.counter + 1)) c.loop.rest (omega arith) c.if-rest-lt128.false in
    record {
      next = omega (arith, ap length e);
      area = rw (add-one c.loop.next) (rw e at c.loop.invariant.area);
    }

pub returns-clause-next : goal.returns-clause-next
returns-clause-next c = omega (arith, ap length (encode_none (c.args.most - c.loop.counter) c.loop.rest (omega arith)))

pub returns-clause-area : goal.returns-clause-area
returns-clause-area c = sym (rw (encode_none (c.args.most - c.loop.counter) c.loop.rest (omega arith)) at c.loop.invariant.area)
