-- `ist_lists::judge_copy` meets its contract: the judge's verdict as a number. Assumes nothing.
use Rattle.frame.specs.Questions.{job_of}
use Rattle.frame.specs.Answers.{judge_tree}
use Rattle.judging.specs.Verdicts.{Cheapest}
use Rattle.listed.proofs.LentLaws.{lent_as, lent_judged}
use Rattle.codes.specs.ExportLaws.{code_said}
use Rattle.ist_lists.proofs.judge_copy.Goals as goal

pub returns : goal.returns
returns c = λ ys copy.
    let a = c.args in
    let judged = lent_judged a.stations ys (λ s. judge_tree (job_of s)) (λ s. Cheapest (job_of s)) _
    (lent_as a.stations ys _ _ copy c.judge_links.ensures) in
    record {
      verdict = c.judge_links.result;
      number = code_said _ _ _ c.map_err.ensures.cases c.code.ensures;
      judged = judged;
    }
