-- `stepping::costs_held` meets its contract: the sheet is applied and the costs written; a refusal writes nothing. Assumes nothing.
use mathlib.Core.Path.{◌∙◌}
use Rattle.sheet_read.specs.ApplyLaws.{given_some, given_none}
use Rattle.stepping.specs.SteppingLaws.{sheet_applied_of}
use Rattle.stepping.specs.HeldSteps.{costs_six, costs_eight, costs_whole}
use Rattle.stepping.proofs.costs_held.Goals as goal

pub returns-in-Err : goal.returns-in-Err
returns-in-Err c =
    let a = c.args in
    λ s k.
    sheet_applied_of s a.sheet.now a.area.now k.bytes (λ i. (c.type_inv.sheet i).fits) _ _
    (costs_six (rw c.in-Err.is at k) a.sheet.now a.area.now)

pub returns-then-not-apply_moves : goal.returns-then-not-apply_moves
returns-then-not-apply_moves c =
    let a = c.args in
    λ s k.
    sheet_applied_of s a.sheet.now a.area.now k.bytes (λ i. (c.type_inv.sheet i).fits) _ _
    (costs_eight (rw c.in-Ok.is at k) a.sheet.now a.area.now (given_none _ _ _ c.if-not-apply_moves.true c.apply_moves.ensures))

pub returns : goal.returns
returns c =
    let a = c.args in
    λ s k.
    sheet_applied_of s a.sheet.now a.area.now k.bytes (λ i. (c.type_inv.sheet i).fits) _ _
    (c.write_list.ensures ∙ costs_whole (rw c.in-Ok.is at k) a.sheet.now a.area.now c.apply_moves.new.costs
    (given_some _ _ _ c.if-not-apply_moves.false c.apply_moves.ensures))
