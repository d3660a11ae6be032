-- Each turn adds the tree rank of one slot more.
use Rattle.std.proofs.Common.{◌<◌, ◌≡◌, arith, take, get_or, get_or-take, length-take-le}
use Rattle.labels.specs.FillSteps.{paired_start, paired_turn}
use Rattle.labels.proofs.paired_trees.Goals as goal

pub loop-t-init : goal.loop-t-init
loop-t-init c = paired_start c.args.links.now

pub loop-t-preserved : goal.loop-t-preserved
loop-t-preserved c =
    let a = c.args in
    let k = c.loop-t.t-index in
    let below : k < a.slots = omega (arith, length-take-le a.slots a.links.now (omega arith)) in
    let item : get_or (take a.slots a.links.now) k 0 ≡ get_or a.links.now k 0 = get_or-take a.slots a.links.now k 0 below in
    paired_turn a.links.now k c.loop-t.w c.with-w.result c.loop-t.invariant (rw item at c.with-w.ensures)
