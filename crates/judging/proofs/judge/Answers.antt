-- `judging::judge` meets its contract: the frame is asked the six questions, and its job judged. Assumes nothing.
use Rattle.frame.specs.Questions.{job_of}
use Rattle.accept.specs.AskedLaws.{some_held}
use Rattle.judging.proofs.VerdictLaws.{tree_told}
use Rattle.judging.proofs.judge.Goals as goal

pub judge_held-requires : goal.judge_held-requires
judge_held-requires c = some_held _ (job_of c.args.frame.now) _ c.accept-accepted.ensures.job

pub returns : goal.returns
returns c =
    tree_told _ _ _ c.judge_held.ensures.judged c.judge_held.ensures.refused _
    (record {
      bytes = λ i. (c.type_inv.frame i).fits;
      headed = c.accept-accepted.ensures.header;
      held = c.accept-accepted.ensures.job;
    })
