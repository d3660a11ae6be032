-- `stepping::sheet_held` meets its contract: the costs are read and their sheet written; a refusal writes nothing. Assumes nothing.
use mathlib.Core.Path.{◌∙◌}
use Rattle.sheet_read.specs.ApplyLaws.{given_some, given_none}
use Rattle.stepping.specs.SteppingLaws.{sheet_made_of}
use Rattle.stepping.specs.HeldSteps.{sheet_six, sheet_eight, sheet_whole, read_in_range}
use Rattle.stepping.proofs.sheet_held.Goals as goal

pub returns-in-Err : goal.returns-in-Err
returns-in-Err c =
    let a = c.args in
    λ s k.
    sheet_made_of s a.costs.now a.area.now k.bytes (λ i. (c.type_inv.costs i).fits) _ _
    (sheet_six (rw c.in-Err.is at k) a.costs.now a.area.now)

pub returns-then-not-read_costs : goal.returns-then-not-read_costs
returns-then-not-read_costs c =
    let a = c.args in
    λ s k.
    sheet_made_of s a.costs.now a.area.now k.bytes (λ i. (c.type_inv.costs i).fits) _ _
    (sheet_eight (rw c.in-Ok.is at k) a.costs.now a.area.now (given_none _ _ _ c.if-not-read_costs.true c.read_costs.ensures))

pub write_sheet-requires-clause-in_range_2 : goal.write_sheet-requires-clause-in_range_2
write_sheet-requires-clause-in_range_2 c =
    read_in_range _ c.args.costs.now c.read_costs.new.costs (λ i. (c.type_inv.costs i).fits)
    (given_some _ _ _ c.if-not-read_costs.false c.read_costs.ensures)

pub returns : goal.returns
returns c =
    let a = c.args in
    λ s k.
    sheet_made_of s a.costs.now a.area.now k.bytes (λ i. (c.type_inv.costs i).fits) _ _
    (c.write_sheet.ensures ∙ sheet_whole (rw c.in-Ok.is at k) a.costs.now a.area.now c.read_costs.new.costs
    (given_some _ _ _ c.if-not-read_costs.false c.read_costs.ensures))
