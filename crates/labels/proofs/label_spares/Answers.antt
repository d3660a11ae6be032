-- Each turn takes the dearest spare rank left.
use Rattle.std.proofs.Common.{arith}
use Rattle.labels.specs.LabelSteps.{sparing_turn}
use Rattle.labels.proofs.label_spares.Goals as goal

pub loop-s-preserved : goal.loop-s-preserved
loop-s-preserved c =
    let l = c.loop-s in
    let a = c.args in
    let f = c.label_spare-live in
    sparing_turn a.from.spares a.from.live a.least a.cost.now a.ss.now a.cols.now a.slot.now a.words.now a.links.now
    a.label.now l.words l.links l.label l.s l.live l.invariant c.loop-s-test.true
    (omega (arith, c.cost_at.ensures, c.if-cost_at-least.false)) f.new.words f.new.links
    f.new.label f.result f.ensures
