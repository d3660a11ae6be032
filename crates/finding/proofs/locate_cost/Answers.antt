-- `finding::locate_cost` meets its contract: the frame is asked the six questions, and its job's arrays are handed on.
-- Assumes nothing.
use Rattle.frame.specs.Questions.{job_of}
use Rattle.accept.specs.AskedLaws.{some_held}
use Rattle.finding.specs.PartLaws.{cost_told}
use Rattle.finding.proofs.locate_cost.Goals as goal

pub locate_cost_held-requires : goal.locate_cost_held-requires
locate_cost_held-requires c = some_held _ (job_of c.args.frame.now) _ c.accept-accepted.ensures.job

pub returns : goal.returns
returns c =
    cost_told c.args.offered.now (λ i. (c.type_inv.offered i).fits) _ _ _ _ c.locate_cost_held.ensures.located
    c.locate_cost_held.ensures.refused _
    (record {
      bytes = λ i. (c.type_inv.frame i).fits;
      headed = c.accept-accepted.ensures.header;
      held = c.accept-accepted.ensures.job;
    })
