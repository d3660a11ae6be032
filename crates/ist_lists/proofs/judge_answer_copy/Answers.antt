-- `ist_lists::judge_answer_copy` meets its contract: the judge's verdict as a number. Assumes nothing.
use Rattle.optimum.specs.Optimum.{Answer}
use Rattle.frame.specs.Questions.{job_of}
use Rattle.frame.specs.Answers.{judge_answer}
use Rattle.frame.specs.AnswerMeaning.{Certified}
use Rattle.listed.proofs.LentLaws.{lent_as, lent_judged}
use Rattle.codes.specs.ExportLaws.{code_said}
use Rattle.ist_lists.proofs.judge_answer_copy.Goals as goal

pub returns : goal.returns
returns c = λ ys copy.
    let a = c.args in
    let judged = lent_judged a.stations ys (λ s. judge_answer (job_of s) a.answer.now) (λ s. (w : Answer) × Certified (job_of s) a.answer.now w) _
    (lent_as a.stations ys _ _ copy c.judge_answer_links.ensures) in
    record {
      verdict = c.judge_answer_links.result;
      number = code_said _ _ _ c.map_err.ensures.cases c.code.ensures;
      judged = judged;
    }
