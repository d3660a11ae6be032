-- `labels::put_label` meets its contract. The invariant: the label, put at what is left, gives the whole. Assumes nothing.
use native.Mathlib.Omega.{arith}
use Rattle.bits.specs.BitLaws.{fewer}
use Rattle.labels.specs.FillSteps.{filling_below, filling_turn, filling_end}
use Rattle.labels.proofs.put_label.Goals as goal

pub bounds-label-lowest : goal.bounds-label-lowest
bounds-label-lowest c =
    let a = c.args in
    let l = c.loop-left in
    let below = filling_below a.set a.x a.label.now l.left l.label l.invariant c.loop-left-test.true c.lowest.result c.lowest.ensures in
    omega (arith, below)

pub loop-left-smaller : goal.loop-left-smaller
loop-left-smaller c =
    let l = c.loop-left in
    fewer 64 l.left c.without_lowest-left.result (omega (arith, c.loop-left-test.true)) l.invariant.small
    (omega (arith, c.without_lowest-left.type_inv))
    c.without_lowest-left.ensures

pub loop-left-preserved : goal.loop-left-preserved
loop-left-preserved c =
    let a = c.args in
    let l = c.loop-left in
    filling_turn a.set a.x a.label.now l.left l.label l.invariant c.loop-left-test.true c.lowest.result
    c.lowest.ensures c.without_lowest-left.result c.without_lowest-left.ensures (omega (arith, c.without_lowest-left.type_inv))

pub returns : goal.returns
returns c =
    let a = c.args in
    let l = c.loop-left in
    filling_end a.set a.x a.label.now l.left l.label l.invariant c.loop-left-test.false
