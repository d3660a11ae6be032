-- `stepping::sheet_of_costs` meets its contract: the frame is asked the six questions, and the sheet made. Assumes nothing.
use Rattle.frame.specs.Arrays.{columns}
use Rattle.stepping.specs.HeldSteps.{asked_costs, asked_has}
use Rattle.stepping.proofs.sheet_of_costs.Goals as goal

pub sheet_held-requires : goal.sheet_held-requires
sheet_held-requires c = asked_has _ _ (columns _ _ _ _) c.accept-accepted.ensures.job

pub returns : goal.returns
returns c =
    c.sheet_held.ensures _
    (asked_costs _ _ (columns _ _ _ _) (λ i. (c.type_inv.frame i).fits) c.accept-accepted.ensures.header c.accept-accepted.ensures.job)
