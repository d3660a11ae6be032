-- `answer_read::cost_part` meets its contract: the cost lies between the position behind the numbers before the cost and the
-- one behind it. Assumes nothing.
use Prim.Native.Nat.{ℕ, ◌+◌, ◌-◌, ◌≤◌}
use native.Mathlib.Omega.{arith}
use mathlib.Core.Path.{◌≡◌, sym, ap, ◌∙◌}
use mathlib.Core.List.{List}
use lib.ListN.{length, take, drop, length-drop}
use lib.Seq.{take_all}
use Rattle.std.specs.Prelude.{Some}
use Rattle.leb128.specs.declared.Number.{Number}
use Rattle.leb128.specs.Positions.{read_at}
use Rattle.limits.specs.Limits.{step_bytes}
use Rattle.codec.specs.Numbers.{skipped}
use Rattle.answer_read.specs.Costs.{CostIn}
use Rattle.answer_read.specs.AnswerLaws.{steps_within}
use Rattle.answer_read.specs.CostLaws.{steps_found, cost_order, cost_within, cost_place_lem}
use Rattle.answer_read.proofs.cost_part.Goals as goal

-- the part behind the steps
abbrev part_of : List ℕ → ℕ → List ℕ
part_of s n = take (length s - n) (drop n s)

part_is : (s : List ℕ) (n : ℕ) → part_of s n ≡ drop n s
part_is s n = take_all (length s - n) (drop n s) (omega (arith, length-drop n s))

-- the cost, from where it begins to where it ends within the frame
module _ (s : List ℕ) (e : ℕ) (k : CostIn s e) (n : Number) (r : read_at step_bytes s 0 ≡ Some n)
    (first end : ℕ) (p : first ≡ skipped (part_of s n.next) e 0) (q : end ≡ skipped (part_of s n.next) 1 first) where
  order : first ≤ end
  order = cost_order s e k n r (part_of s n.next) (part_is s n.next) first end p q

  within : n.next + end ≤ length s
  within =
      let inside = cost_within s e k n r (part_of s n.next) (part_is s n.next) first end p q in
      omega (arith, inside, ap length (part_is s n.next), length-drop n.next s, steps_within s n r)

pub returns-in_default-clause-place : goal.returns-in_default-clause-place
returns-in_default-clause-place c = λ k. absurd (steps_found _ _ k (sym c.read_long.ensures ∙ c.in_default.is))

pub slice_bounds-part-count : goal.slice_bounds-part-count
slice_bounds-part-count c = steps_within _ _ (sym c.in-Some.ensures)

pub slice_bounds-part-start : goal.slice_bounds-part-start
slice_bounds-part-start c = steps_within _ _ (sym c.in-Some.ensures)

pub returns-clause-place : goal.returns-clause-place
returns-clause-place c =
    let s = c.args.frame.now in
    let n = c.in-Some.steps in
    λ k. cost_place_lem s c.args.edge k n (sym c.in-Some.ensures) (part_of s n.next) (part_is s n.next)
    c.skip-first.result c.skip-end.result c.skip-first.ensures c.skip-end.ensures

pub overflow_add-result : goal.overflow_add-result
overflow_add-result c =
    let k = c.requires in
    let r = sym c.in-Some.ensures in
    omega (arith, order _ _ k _ r _ _ c.skip-first.ensures c.skip-end.ensures, within _ _ k _ r _ _ c.skip-first.ensures c.skip-end.ensures)

pub overflow_sub-result : goal.overflow_sub-result
overflow_sub-result c = order _ _ c.requires _ (sym c.in-Some.ensures) _ _ c.skip-first.ensures c.skip-end.ensures

pub returns-clause-within : goal.returns-clause-within
returns-clause-within c =
    let k = c.requires in
    let r = sym c.in-Some.ensures in
    omega (arith, order _ _ k _ r _ _ c.skip-first.ensures c.skip-end.ensures, within _ _ k _ r _ _ c.skip-first.ensures c.skip-end.ensures)
