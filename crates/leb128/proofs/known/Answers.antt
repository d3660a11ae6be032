-- The tests that `known` leaves out cannot fail. Assumes nothing.
use Rattle.std.proofs.Common.{◌≡◌, ℕ, ◌+◌, ◌-◌, ◌*◌, ◌<◌, ◌≤◌, get_or, length, List, refl, ◌∙◌, pow-suc, add-one, arith}
use Rattle.std.specs.Prelude.{Some}
use Rattle.std.proofs.Math.Decide.{dec_lt}
use Rattle.leb128.specs.Positions.{read_at, Stands}
use Rattle.leb128.proofs.Steps.{
  read_last,
  behind,
  none_behind,
  passed_first,
  further,
  ends_padded,
  ends_value,
  passed_below,
  byte_fits,
  weight_small,
  unmarked,
  marked,
  known_some,
  known_within,
  known_last,
}
use Rattle.leb128.proofs.known.Goals as goal

-- A first byte from 128 on is not the last.
several : (most : ℕ) (s : List ℕ) (at : ℕ) → Stands most s at → 128 ≤ get_or s at 0 → 1 < most
several most s at stands more =
    elim (dec_lt 1 most) [
      | yes l ↦ l
      | no l ↦
          let some = known_some most s at stands in
          let small : get_or s at 0 < 128 = known_last most s at stands (omega (arith, some)) in
          absurd (omega arith)
    ]

-- Behind the bytes passed a number stands too, and a byte that ends it gives the whole number.
module _
    (most : ℕ) (s : List ℕ) (at k v w next : ℕ)
    (stands : Stands most s at)
    (rest : read_at most s at ≡ behind v w (read_at (most - k) s next)) where
  stands_behind : Stands (most - k) s next
  stands_behind z = stands (none_behind v w _ _ rest z)

  left : k < most
  left = let some = known_some (most - k) s next stands_behind in omega (arith, some)

  within : next < length s
  within = known_within (most - k) s next stands_behind

  last : most ≤ k + 1 → get_or s next 0 < 128
  last l = let some = left in known_last (most - k) s next stands_behind (omega arith)

  ended : get_or s next 0 < 128 → read_at most s at ≡ Some (record { value = v + w * get_or s next 0; next = next + 1 })
  ended h =
      let some = known_some (most - k) s next stands_behind in
      rest ∙ ends_value (most - k) s next v w some within h (λ z. stands (rest ∙ ends_padded (most - k) s next v w some within h z))

pub overflow_add-next : goal.overflow_add-next
overflow_add-next c = omega (arith, known_within c.args.most c.args.bytes.now c.args.at c.requires.stands)

pub bounds-bytes-at : goal.bounds-bytes-at
bounds-bytes-at c = known_within c.args.most c.args.bytes.now c.args.at c.requires.stands

pub returns-then-first-lt128 : goal.returns-then-first-lt128
returns-then-first-lt128 c =
    let some = known_some c.args.most c.args.bytes.now c.args.at c.requires.stands in
    read_last c.args.most c.args.bytes.now c.args.at some (known_within c.args.most c.args.bytes.now c.args.at c.requires.stands) c.if-first-lt128.true

pub overflow_sub-end : goal.overflow_sub-end
overflow_sub-end c = let some : c.args.most ≡ 0 → ⊥ = known_some c.args.most c.args.bytes.now c.args.at c.requires.stands in omega arith

pub loop-init : goal.loop-init
loop-init c =
    let more : 1 < c.args.most = several c.args.most c.args.bytes.now c.args.at c.requires.stands c.if-first-lt128.false in
    record {
      weight = refl;
      groups = omega (arith, c.type_inv.bytes c.args.at);
      rest =
          passed_first c.args.most (c.args.most - 1) c.args.bytes.now c.args.at (omega arith)
          (known_within c.args.most c.args.bytes.now c.args.at c.requires.stands)
          c.if-first-lt128.false;
    }

pub bounds-bytes-next : goal.bounds-bytes-next
bounds-bytes-next c =
    within c.args.most c.args.bytes.now c.args.at c.loop.counter c.loop.value c.loop.weight c.loop.next c.requires.stands
    c.loop.invariant.rest

pub overflow_mul-value : goal.overflow_mul-value
overflow_mul-value c =
    omega (
      arith,
      byte_fits c.loop.counter c.loop.value c.loop.weight (get_or c.args.bytes.now c.loop.next 0) c.loop.invariant.weight c.loop.invariant.groups
          (c.type_inv.bytes c.loop.next).fits (omega arith),
    )

pub overflow_add-value : goal.overflow_add-value
overflow_add-value c =
    omega (
      arith,
      byte_fits c.loop.counter c.loop.value c.loop.weight (get_or c.args.bytes.now c.loop.next 0) c.loop.invariant.weight c.loop.invariant.groups
          (c.type_inv.bytes c.loop.next).fits (omega arith),
    )

pub overflow_add-next-in-loop : goal.overflow_add-next-in-loop
overflow_add-next-in-loop c =
    omega (
      arith,
      within c.args.most c.args.bytes.now c.args.at c.loop.counter c.loop.value c.loop.weight c.loop.next c.requires.stands
          c.loop.invariant.rest,
    )

pub returns-then-value-weight : goal.returns-then-value-weight
returns-then-value-weight c =
    ended c.args.most c.args.bytes.now c.args.at c.loop.counter c.loop.value c.loop.weight c.loop.next c.requires.stands
    c.loop.invariant.rest
    (unmarked c.loop.value c.loop.weight (get_or c.args.bytes.now c.loop.next 0) c.if-value-weight.true)

pub overflow_mul-weight : goal.overflow_mul-weight
overflow_mul-weight c = let l : c.loop.counter < 4 = omega arith in omega (arith, c.loop.invariant.weight, weight_small c.loop.counter l)

pub loop-preserved : goal.loop-preserved
loop-preserved c =
    let more = marked c.loop.value c.loop.weight (get_or c.args.bytes.now c.loop.next 0) c.loop.invariant.groups c.if-value-weight.false in
    record {
      weight = rw (c.loop.invariant.weight, add-one, pow-suc) (omega arith);
      groups = passed_below c.loop.value c.loop.weight (get_or c.args.bytes.now c.loop.next 0) c.loop.invariant.groups more (c.type_inv.bytes c.loop.next).fits;
      rest =
          c.loop.invariant.rest
          ∙ further (c.args.most - c.loop.counter) (c.args.most - (c.loop.counter + 1)) c.args.bytes.now c.loop.next (omega arith)
          (within c.args.most c.args.bytes.now c.args.at c.loop.counter c.loop.value c.loop.weight c.loop.next c.requires.stands c.loop.invariant.rest)
          more c.loop.value c.loop.weight;
    }

pub bounds-bytes-next-2 : goal.bounds-bytes-next-2
bounds-bytes-next-2 c =
    within c.args.most c.args.bytes.now c.args.at c.loop.counter c.loop.value c.loop.weight c.loop.next c.requires.stands
    c.loop.invariant.rest

pub overflow_mul-result : goal.overflow_mul-result
overflow_mul-result c =
    let some = left c.args.most c.args.bytes.now c.args.at c.loop.counter c.loop.value c.loop.weight c.loop.next c.requires.stands
    c.loop.invariant.rest in
    omega (
      arith,
      byte_fits c.loop.counter c.loop.value c.loop.weight (get_or c.args.bytes.now c.loop.next 0) c.loop.invariant.weight c.loop.invariant.groups
          (c.type_inv.bytes c.loop.next).fits (omega (arith, some)),
    )

pub overflow_add-result : goal.overflow_add-result
overflow_add-result c =
    let some = left c.args.most c.args.bytes.now c.args.at c.loop.counter c.loop.value c.loop.weight c.loop.next c.requires.stands
    c.loop.invariant.rest in
    omega (
      arith,
      byte_fits c.loop.counter c.loop.value c.loop.weight (get_or c.args.bytes.now c.loop.next 0) c.loop.invariant.weight c.loop.invariant.groups
          (c.type_inv.bytes c.loop.next).fits (omega (arith, some)),
    )

pub overflow_add-result-2 : goal.overflow_add-result-2
overflow_add-result-2 c =
    omega (
      arith,
      within c.args.most c.args.bytes.now c.args.at c.loop.counter c.loop.value c.loop.weight c.loop.next c.requires.stands
          c.loop.invariant.rest,
    )

pub returns : goal.returns
returns c =
    ended c.args.most c.args.bytes.now c.args.at c.loop.counter c.loop.value c.loop.weight c.loop.next c.requires.stands
    c.loop.invariant.rest
    (last c.args.most c.args.bytes.now c.args.at c.loop.counter c.loop.value c.loop.weight c.loop.next c.requires.stands
    c.loop.invariant.rest (omega arith))
