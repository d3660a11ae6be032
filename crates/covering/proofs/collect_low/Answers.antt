use native.Mathlib.Omega.{arith}
use Rattle.covering.proofs.LowLaws.{low_start, low_with, low_dear, low_other}
use Rattle.covering.proofs.collect_low.Goals as goal
use Rattle.covering.proofs.collect_low.Goals.{then-is_spare+then-undercuts, then-is_spare+else-undercuts, else-is_spare}

pub loop-e-init : goal.loop-e-init
loop-e-init c =
    let a = c.args in
    low_start a.cost.now a.mark.now a.ts.now a.end1.now a.end2.now a.mask.now c.requires.costs.1

pub loop-e-preserved : goal.loop-e-preserved
loop-e-preserved c =
    let a = c.args in
    let k = c.loop-e.invariant in
    let e = c.is_spare.ensures in
    elim c.if-is_spare.branch [
      | then-is_spare+then-undercuts w ↦ rw (w.mark-is, w.n-is)
          (low_with a.cost.now a.mark.now a.ts.now a.end1.now a.end2.now a.mask.now k e w.if-is_spare.true w.undercuts.ensures
          w.if-undercuts.true (omega (arith, c.requires.arrays.2.few_edges)) w.spare_key.ensures)
      | then-is_spare+else-undercuts w ↦ rw (w.mark-is, w.n-is)
          (low_dear a.cost.now a.mark.now a.ts.now a.end1.now a.end2.now a.mask.now k w.undercuts.ensures w.if-undercuts.false)
      | else-is_spare w ↦ rw (w.mark-is, w.n-is)
          (low_other a.cost.now a.mark.now a.ts.now a.end1.now a.end2.now a.mask.now k e w.if-is_spare.false)
    ]
