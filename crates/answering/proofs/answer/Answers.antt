-- `answering::answer` meets its contract: the frame is asked the six questions, and its job answered. Assumes nothing.
use Rattle.frame.specs.Questions.{job_of}
use Rattle.accept.specs.AskedLaws.{some_held}
use Rattle.answering.specs.AnswerLaws.{answered_told}
use Rattle.answering.proofs.answer.Goals as goal

pub answer_held-requires : goal.answer_held-requires
answer_held-requires c = some_held _ (job_of c.args.frame.now) _ c.accept-accepted.ensures.job

pub returns : goal.returns
returns c =
    answered_told _ _ _ _ _ c.answer_held.ensures.answered c.answer_held.ensures.refused _
    (record {
      bytes = λ i. (c.type_inv.frame i).fits;
      headed = c.accept-accepted.ensures.header;
      held = c.accept-accepted.ensures.job;
    })
