-- `sheet_write::count_moved` meets its contract. The loop's invariant: the entries of the links passed are counted. Assumes nothing.
use mathlib.Core.Path.{refl, sym, ap, ◌∙◌}
use native.Mathlib.Omega.{arith}
use lib.ListN.{length}
use Rattle.loops.specs.Loop.{gather}
use Rattle.sheet.specs.Reading.{costs_at}
use Rattle.sheet.proofs.MoveLaws.{moves_few}
use Rattle.sheet_write.specs.MoveSteps.{moves_stay, moves_count}
use Rattle.sheet_write.proofs.count_moved.Goals as goal
use Rattle.sheet_write.proofs.count_moved.Goals.{then-old-e, else-old-e}

pub loop-e-init : goal.loop-e-init
unfolding gather
loop-e-init c = refl

pub overflow_add-count : goal.overflow_add-count
overflow_add-count c =
    let a = c.args in
    omega (arith, moves_few (costs_at a.old.now) (costs_at a.new.now) c.loop-e.e)

pub loop-e-preserved : goal.loop-e-preserved
loop-e-preserved c =
    let a = c.args in
    let old = costs_at a.old.now in
    let new = costs_at a.new.now in
    let l = c.loop-e in
    elim c.if-old-e.branch [
      | then-old-e w ↦ w.count-is ∙ omega (arith, l.invariant, moves_count old new l.e w.if-old-e.true)
      | else-old-e w ↦ w.count-is ∙ l.invariant ∙ ap length (sym (moves_stay old new l.e w.if-old-e.false))
    ]
