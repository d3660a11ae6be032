-- `judging::judge_answer` meets its contract: the frame is asked the six questions, and the offered frame judged. Assumes nothing.
use Rattle.frame.specs.Questions.{job_of}
use Rattle.accept.specs.AskedLaws.{some_held}
use Rattle.judging.proofs.VerdictLaws.{answer_told}
use Rattle.judging.proofs.judge_answer.Goals as goal

pub judge_answer_held-requires : goal.judge_answer_held-requires
judge_answer_held-requires c = some_held _ (job_of c.args.frame.now) _ c.accept-accepted.ensures.job

pub returns : goal.returns
returns c =
    answer_told c.args.offered.now _ _ _ c.judge_answer_held.ensures.judged c.judge_answer_held.ensures.refused _
    (record {
      bytes = λ i. (c.type_inv.frame i).fits;
      headed = c.accept-accepted.ensures.header;
      held = c.accept-accepted.ensures.job;
    })
