-- `certify::certify` meets its contract: the frame is read, then the tests are made in turn. Assumes nothing.
use Prim.Native.Nat.{ℕ, ◌-◌}
use mathlib.Core.Path.{sym, ap, ◌∙◌}
use lib.Dec.{eqb}
use Rattle.frame.specs.Arrays.{arrays}
use Rattle.held.specs.HeldLaws.{few_links, paths_held}
use Rattle.certify.specs.JudgedLaws.{judged_held}
use Rattle.pairing.specs.PairLaws.{held_falling}
use Rattle.certify.specs.JudgeLaws.{verdict_unread, verdict_read, verdict_steps, verdict_costs, verdict_pairs, verdict_order, verdict_weight}
use Rattle.certify.proofs.certify.Goals as goal

pub returns-in_default : goal.returns-in_default
returns-in_default c =
    let a = c.args in
    λ j h. sym (verdict_unread j a.nodes a.edges (arrays a.end1.now a.end2.now a.cost.now a.mark.now a.ts.now a.mask.now) h a.frame.now
    c.load_answer.new.costs c.load_answer.new.pairs c.in_default.ensures.answer)

pub returns-then-steps : goal.returns-then-steps
returns-then-steps c =
    let a = c.args in
    λ j h. sym (verdict_read j a.nodes a.edges (arrays a.end1.now a.end2.now a.cost.now a.mark.now a.ts.now a.mask.now) h a.frame.now
    c.load_answer.new.costs c.load_answer.new.pairs c.in-Some.found c.in-Some.ensures.answer
    ∙ verdict_steps _ _ _ _ _ _ (λ q. c.if-steps.true (c.steps.ensures ∙ q)))

pub judge_unsorted-requires : goal.judge_unsorted-requires
judge_unsorted-requires c = judged_held c.requires.1

pub returns-then-not-judge_unsorted : goal.returns-then-not-judge_unsorted
returns-then-not-judge_unsorted c =
    let a = c.args in
    λ j h. sym (verdict_read j a.nodes a.edges (arrays a.end1.now a.end2.now a.cost.now a.mark.now a.ts.now a.mask.now) h a.frame.now
    c.load_answer.new.costs c.load_answer.new.pairs c.in-Some.found c.in-Some.ensures.answer
    ∙ verdict_costs _ _ _ _ _ _ (sym c.steps.ensures ∙ c.if-steps.false)
    (sym (c.judge_unsorted.ensures _ (paths_held h)) ∙ c.if-not-judge_unsorted.true))

pub pairs_hold-requires-clause-job : goal.pairs_hold-requires-clause-job
pairs_hold-requires-clause-job c = judged_held c.requires.1

pub returns-then-not-pairs_hold : goal.returns-then-not-pairs_hold
returns-then-not-pairs_hold c =
    let a = c.args in
    λ j h. sym (verdict_read j a.nodes a.edges (arrays a.end1.now a.end2.now a.cost.now a.mark.now a.ts.now a.mask.now) h a.frame.now
    c.load_answer.new.costs c.load_answer.new.pairs c.in-Some.found c.in-Some.ensures.answer
    ∙ verdict_pairs _ _ _ _ _ _ (sym c.steps.ensures ∙ c.if-steps.false)
    (sym (c.judge_unsorted.ensures _ (paths_held h)) ∙ c.if-not-judge_unsorted.false)
    (sym c.pairs_hold.ensures ∙ c.if-not-pairs_hold.true))

pub returns-then-not-pairs_rise : goal.returns-then-not-pairs_rise
returns-then-not-pairs_rise c =
    let a = c.args in
    λ j h. sym (verdict_read j a.nodes a.edges (arrays a.end1.now a.end2.now a.cost.now a.mark.now a.ts.now a.mask.now) h a.frame.now
    c.load_answer.new.costs c.load_answer.new.pairs c.in-Some.found c.in-Some.ensures.answer
    ∙ verdict_order _ _ _ _ _ _ (sym c.steps.ensures ∙ c.if-steps.false)
    (sym (c.judge_unsorted.ensures _ (paths_held h)) ∙ c.if-not-judge_unsorted.false)
    (sym c.pairs_hold.ensures ∙ c.if-not-pairs_hold.false) (sym c.pairs_rise.ensures ∙ c.if-not-pairs_rise.true))

pub pairs_weight-requires : goal.pairs_weight-requires
pairs_weight-requires c =
    let a = c.args in
    held_falling a.edges (a.nodes - 1) (arrays a.end1.now a.end2.now a.cost.now a.mark.now a.ts.now a.mask.now)
    c.in-Some.found.count c.load_answer.new.pairs
    (few_links c.requires.1) c.in-Some.ensures.count (sym c.pairs_hold.ensures ∙ c.if-not-pairs_hold.false)

pub returns : goal.returns
returns c =
    let a = c.args in
    λ j h.
    ap (λ (w : ℕ). eqb w c.in-Some.found.steps) c.pairs_weight.ensures
    ∙ sym (verdict_read j a.nodes a.edges (arrays a.end1.now a.end2.now a.cost.now a.mark.now a.ts.now a.mask.now) h a.frame.now
    c.load_answer.new.costs c.load_answer.new.pairs c.in-Some.found c.in-Some.ensures.answer
    ∙ verdict_weight _ _ _ _ _ _ (sym c.steps.ensures ∙ c.if-steps.false)
    (sym (c.judge_unsorted.ensures _ (paths_held h)) ∙ c.if-not-judge_unsorted.false)
    (sym c.pairs_hold.ensures ∙ c.if-not-pairs_hold.false) (sym c.pairs_rise.ensures ∙ c.if-not-pairs_rise.false))
