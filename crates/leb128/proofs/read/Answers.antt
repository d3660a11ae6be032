-- Each return is a case of one step further. Assumes nothing.
use Rattle.std.proofs.Common.{inl, inr, ◌+◌, ◌-◌, ◌<◌, get_or, sym, refl, ◌∙◌, pow-suc, add-one, arith}
use Rattle.leb128.proofs.Steps.{
  read_none,
  read_end,
  read_last,
  none_behind,
  passed_first,
  further,
  ends_padded,
  ends_value,
  passed_below,
  byte_fits,
  mark_within,
  weight_small,
}
use Rattle.leb128.proofs.read.Goals as goal

pub returns-then-most-eq0 : goal.returns-then-most-eq0
returns-then-most-eq0 c =
    sym (elim c.then-most-eq0.either [
      | inl none ↦ read_none c.args.most c.args.bytes.now c.args.at none
      | inr past ↦ read_end c.args.most c.args.bytes.now c.args.at past.1
    ])

pub returns-then-first-lt128 : goal.returns-then-first-lt128
returns-then-first-lt128 c =
    sym (read_last c.args.most c.args.bytes.now c.args.at c.if-most-eq0.false c.if-bytes-at.false c.if-first-lt128.true)

pub loop-init : goal.loop-init
loop-init c = record {
  weight = refl;
  groups = omega (arith, c.type_inv.bytes c.args.at);
  rest = passed_first c.args.most (c.args.most - 1) c.args.bytes.now c.args.at (omega arith) c.if-bytes-at.false c.if-first-lt128.false;
}

pub returns-then-bytes-next : goal.returns-then-bytes-next
returns-then-bytes-next c =
    sym (none_behind c.loop.value c.loop.weight _ _ c.loop.invariant.rest
    (read_end (c.args.most - c.loop.counter) c.args.bytes.now c.loop.next c.if-bytes-next.true))

pub returns-then-byte-eq0 : goal.returns-then-byte-eq0
returns-then-byte-eq0 c =
    sym (c.loop.invariant.rest
    ∙ ends_padded (c.args.most - c.loop.counter) c.args.bytes.now c.loop.next c.loop.value c.loop.weight
    (λ z. omega (arith, z)) (omega arith) c.if-byte-lt128.true c.if-byte-eq0.true)

pub returns-then-byte-lt128 : goal.returns-then-byte-lt128
returns-then-byte-lt128 c =
    sym (c.loop.invariant.rest
    ∙ ends_value (c.args.most - c.loop.counter) c.args.bytes.now c.loop.next c.loop.value c.loop.weight
    (λ z. omega (arith, z)) (omega arith) c.if-byte-lt128.true (λ z. omega (arith, z)))

pub overflow_mul-value : goal.overflow_mul-value
overflow_mul-value c =
    omega (
      arith,
      byte_fits c.loop.counter c.loop.value c.loop.weight (get_or c.args.bytes.now c.loop.next 0) c.loop.invariant.weight c.loop.invariant.groups
          (c.type_inv.bytes c.loop.next).fits (omega arith),
    )

pub overflow_add-value : goal.overflow_add-value
overflow_add-value c =
    omega (
      arith,
      byte_fits c.loop.counter c.loop.value c.loop.weight (get_or c.args.bytes.now c.loop.next 0) c.loop.invariant.weight c.loop.invariant.groups
          (c.type_inv.bytes c.loop.next).fits (omega arith),
    )

pub overflow_mul-weight : goal.overflow_mul-weight
overflow_mul-weight c = let l : c.loop.counter < 4 = omega arith in omega (arith, c.loop.invariant.weight, weight_small c.loop.counter l)

pub overflow_sub-value-in-loop : goal.overflow_sub-value-in-loop
overflow_sub-value-in-loop c = mark_within c.loop.value c.loop.weight (get_or c.args.bytes.now c.loop.next 0) c.if-byte-lt128.false

pub loop-preserved : goal.loop-preserved
loop-preserved c = record {
  weight = rw (c.loop.invariant.weight, add-one, pow-suc) (omega arith);
  groups = passed_below c.loop.value c.loop.weight (get_or c.args.bytes.now c.loop.next 0) c.loop.invariant.groups c.if-byte-lt128.false
      (c.type_inv.bytes c.loop.next).fits;
  rest =
      c.loop.invariant.rest
      ∙ further (c.args.most - c.loop.counter) (c.args.most - (c.loop.counter + 1)) c.args.bytes.now c.loop.next (omega arith) (omega arith)
      c.if-byte-lt128.false c.loop.value c.loop.weight;
}

pub returns : goal.returns
returns c =
    sym (none_behind c.loop.value c.loop.weight _ _ c.loop.invariant.rest
    (read_none (c.args.most - c.loop.counter) c.args.bytes.now c.loop.next (omega arith)))
