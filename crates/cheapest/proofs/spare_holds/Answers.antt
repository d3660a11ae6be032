use Prim.Native.Nat.{ℕ, ◌<◌}
use native.Mathlib.Omega.{arith}
use mathlib.Core.Path.{sym, ap, ◌∙◌}
use mathlib.Core.Bool.{Bool}
use lib.Dec.{leb}
use lib.ListN.{get_or}
use borrow.Author.Tests.{le-leb, lt-leb}
use Rattle.loops.specs.TestLaws.{and_first}
use Rattle.bits.specs.Bit.{bit}
use Rattle.paths.specs.WordLaws.{lowest_below, lowest_set, word_part, word_less}
use Rattle.cheapest.specs.Judge.{affords}
use Rattle.cheapest.specs.LeadLaws.{lead_tells}
use Rattle.cheapest.specs.JudgeLaws.{word_miss, word_turn, word_end}
use Rattle.cheapest.proofs.spare_holds.Goals as goal
use Rattle.cheapest.proofs.spare_holds.Goals.{Start}

-- a rank costs no more than the spare
abbrev afforded : Start → ℕ → Bool
afforded s = affords s.args.ranks.now s.args.cost.now s.args.spare.0

abbrev limit : Start → ℕ
limit s = get_or s.args.cost.now s.args.spare.0 0

pub loop-left-init : goal.loop-left-init
loop-left-init c =
    let x = c.crossing-word in (
      lead_tells c.args.ranks.now c.args.cost.now x.result c.args.falling c.leaders-left.result
          (limit (goal.at.loop-left-init c).Start) (λ j k l w. c.requires.falls j k l (sym (x.ensures k) ∙ w))
          c.leaders-left.ensures _ x.ensures,
      omega arith,
      λ k h. c.requires.edge k (sym (x.ensures k) ∙ and_first (bit x.result k) _ (sym (c.leaders-left.ensures k) ∙ h)),
    )

pub cost_at-requires : goal.cost_at-requires
cost_at-requires c =
    let l = c.loop-left in
    let k = c.lowest-k in
    let some : 0 < l.left = omega arith in (
      lowest_below l.left some l.invariant.1 k.result k.ensures,
      l.invariant.2 k.result (lowest_set l.left some l.invariant.1 k.result k.ensures),
    )

pub returns-then-limit-cost_at : goal.returns-then-limit-cost_at
returns-then-limit-cost_at c =
    let k = c.lowest-k in
    let l = c.loop-left in
    sym (word_miss l.left (omega arith) l.invariant.1 k.result k.ensures (afforded (goal.at.returns-then-limit-cost_at c).Start)
    (ap (λ x. leb x (limit (goal.at.returns-then-limit-cost_at c).Start)) (sym c.cost_at.ensures)
    ∙ lt-leb _ _ c.if-limit-cost_at.true))
    ∙ l.invariant.0

pub loop-left-smaller : goal.loop-left-smaller
loop-left-smaller c =
    let l = c.loop-left in
    word_less l.left (omega arith) l.invariant.1 c.lowest-k.result c.lowest-k.ensures c.without_lowest-left.result
    c.without_lowest-left.ensures

pub loop-left-preserved : goal.loop-left-preserved
loop-left-preserved c =
    let k = c.lowest-k in
    let l = c.loop-left in
    let r = c.without_lowest-left in
    let some : 0 < l.left = omega arith in (
      word_turn l.left some l.invariant.1 k.result k.ensures r.result r.ensures (afforded (goal.at.loop-left-preserved c).Start)
          (ap (λ x. leb x (limit (goal.at.loop-left-preserved c).Start)) (sym c.cost_at.ensures)
          ∙ le-leb _ _ c.if-limit-cost_at.false)
          ∙ l.invariant.0,
      omega arith,
      λ j h. l.invariant.2 j (word_part l.left some l.invariant.1 k.result k.ensures r.result r.ensures j h),
    )

pub returns : goal.returns
returns c =
    let l = c.loop-left in
    sym (word_end _ l.left c.loop-left-test.false) ∙ l.invariant.0
