-- `answer_read::load_answer` meets its contract: each return is a case of the model, by the steps that led there.
-- Assumes nothing.
use Prim.Native.Nat.{ℕ, ◌-◌}
use native.Mathlib.Omega.{arith}
use mathlib.Core.Path.{◌≡◌, sym}
use mathlib.Core.List.{List}
use lib.ListN.{length, take, drop, length-drop}
use lib.Seq.{take_all}
use Rattle.answer_read.specs.AnswerLaws.{steps_within, answer_unread, answer_undivided, read_short, answer_many}
use Rattle.answer_read.specs.AnswerLaws.{answer_wrong, answer_read_lem, answer_kept, no_answer_lem, costs_divided, pairs_divided}
use Rattle.answer_read.proofs.load_answer.Goals as goal

-- the part behind the steps
abbrev part_of : List ℕ → ℕ → List ℕ
part_of s n = take (length s - n) (drop n s)

part_is : (s : List ℕ) (n : ℕ) → part_of s n ≡ drop n s
part_is s n = take_all (length s - n) (drop n s) (omega (arith, length-drop n s))

pub returns-in_err-first-clause-answer : goal.returns-in_err-first-clause-answer
returns-in_err-first-clause-answer c =
    rw c.from_residual.ensures (no_answer_lem _ _ _ _ (answer_unread _ _ (sym c.in_err-first.ensures)))

pub slice_bounds-part-count : goal.slice_bounds-part-count
slice_bounds-part-count c = steps_within _ _ (sym c.in_ok-first.ensures)

pub slice_bounds-part-start : goal.slice_bounds-part-start
slice_bounds-part-start c = steps_within _ _ (sym c.in_ok-first.ensures)

pub returns-in_err-total-clause-answer : goal.returns-in_err-total-clause-answer
returns-in_err-total-clause-answer c =
    rw c.from_residual-in_err-total.ensures
    (no_answer_lem _ _ _ _
    (answer_undivided _ _ (λ i. (c.type_inv.frame i).fits) _ (sym c.in_ok-first.ensures)
    (part_of c.args.frame.now c.in_ok-first.first.next) (part_is c.args.frame.now c.in_ok-first.first.next)
    (sym c.in_err-total.ensures)))

pub returns-then-total-edges-clause-answer : goal.returns-then-total-edges-clause-answer
returns-then-total-edges-clause-answer c =
    no_answer_lem _ _ _ _
    (read_short _ _ (λ i. (c.type_inv.frame i).fits) _ (sym c.in_ok-first.ensures)
    (part_of c.args.frame.now c.in_ok-first.first.next) (part_is c.args.frame.now c.in_ok-first.first.next) _
    (sym c.in_ok-total.ensures)
    c.if-total-edges.true)

pub read_numbers-at-requires-clause-numbers : goal.read_numbers-at-requires-clause-numbers
read_numbers-at-requires-clause-numbers c =
    costs_divided c.args.edges _ (λ i. (c.type_inv.frame i).fits) _ (sym c.in_ok-first.ensures)
    (part_of c.args.frame.now c.in_ok-first.first.next) (part_is c.args.frame.now c.in_ok-first.first.next) _
    (sym c.in_ok-total.ensures)
    _ (omega (arith, c.if-total-edges.false))

pub returns-then-many-gt64-clause-answer : goal.returns-then-many-gt64-clause-answer
returns-then-many-gt64-clause-answer c =
    no_answer_lem _ _ _ _
    (answer_many _ _ (λ i. (c.type_inv.frame i).fits) _ (sym c.in_ok-first.ensures)
    (part_of c.args.frame.now c.in_ok-first.first.next) (part_is c.args.frame.now c.in_ok-first.first.next) _
    (sym c.in_ok-total.ensures)
    c.if-total-edges.false _ _ _ c.read_numbers-at.ensures c.number_at-many.result c.number_at-many.ensures c.if-many-gt64.true)

pub returns-then-total-edges-2-clause-answer : goal.returns-then-total-edges-2-clause-answer
returns-then-total-edges-2-clause-answer c =
    no_answer_lem _ _ _ _
    (answer_wrong _ _ (λ i. (c.type_inv.frame i).fits) _ (sym c.in_ok-first.ensures)
    (part_of c.args.frame.now c.in_ok-first.first.next) (part_is c.args.frame.now c.in_ok-first.first.next) _
    (sym c.in_ok-total.ensures)
    c.if-total-edges.false _ _ _ c.read_numbers-at.ensures c.number_at-many.result c.number_at-many.ensures
    (λ q. omega (arith, q, c.if-total-edges-2.true)))

pub read_numbers-requires-clause-numbers : goal.read_numbers-requires-clause-numbers
read_numbers-requires-clause-numbers c =
    pairs_divided _ _ (λ i. (c.type_inv.frame i).fits) _ (sym c.in_ok-first.ensures)
    (part_of c.args.frame.now c.in_ok-first.first.next) (part_is c.args.frame.now c.in_ok-first.first.next) _
    (sym c.in_ok-total.ensures)
    c.if-total-edges.false _ _ _ c.read_numbers-at.ensures c.number_at-many.result c.number_at-many.ensures
    (omega (arith, c.if-total-edges-2.false)) _ (omega arith)

pub returns-clause-answer : goal.returns-clause-answer
returns-clause-answer c =
    answer_read_lem _ _ (λ i. (c.type_inv.frame i).fits) _ (sym c.in_ok-first.ensures)
    (part_of c.args.frame.now c.in_ok-first.first.next) (part_is c.args.frame.now c.in_ok-first.first.next) _
    (sym c.in_ok-total.ensures)
    c.if-total-edges.false _ _ _ c.read_numbers-at.ensures c.number_at-many.result c.number_at-many.ensures
    c.if-total-edges-2.false c.if-many-gt64.false _ _ _ c.read_numbers.ensures c.requires.places.costs c.requires.places.pairs
    c.requires.edges_bound

pub returns-clause-behind : goal.returns-clause-behind
returns-clause-behind c =
    answer_kept _ _ (λ i. (c.type_inv.frame i).fits) _ (sym c.in_ok-first.ensures)
    (part_of c.args.frame.now c.in_ok-first.first.next) (part_is c.args.frame.now c.in_ok-first.first.next) _
    (sym c.in_ok-total.ensures)
    c.if-total-edges.false _ _ _ c.read_numbers-at.ensures c.number_at-many.result c.number_at-many.ensures
    c.if-total-edges-2.false c.if-many-gt64.false _ _ _ c.read_numbers.ensures c.requires.places.costs c.requires.places.pairs
    c.requires.edges_bound
