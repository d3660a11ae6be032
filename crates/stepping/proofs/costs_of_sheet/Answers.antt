-- `stepping::costs_of_sheet` meets its contract: the frame is asked the six questions, and the sheet applied. Assumes nothing.
use Rattle.frame.specs.Arrays.{columns}
use Rattle.stepping.specs.HeldSteps.{asked_costs, asked_has}
use Rattle.stepping.proofs.costs_of_sheet.Goals as goal

pub costs_held-requires : goal.costs_held-requires
costs_held-requires c = asked_has _ _ (columns _ _ _ _) c.accept-accepted.ensures.job

pub returns : goal.returns
returns c =
    c.costs_held.ensures _
    (asked_costs _ _ (columns _ _ _ _) (λ i. (c.type_inv.frame i).fits) c.accept-accepted.ensures.header c.accept-accepted.ensures.job)
