-- `lists::judge_answer_links` meets its contract: the list is asked the six questions as its frame would be. Assumes nothing.
use Rattle.judging.specs.Verdicts.{AnswerJudged}
use Rattle.judging.proofs.VerdictLaws.{answer_told}
use Rattle.listed.proofs.ListServiceLaws.{given_judged}
use Rattle.lists.proofs.judge_answer_links.Goals as goal

pub judge_answer_held-requires : goal.judge_answer_held-requires
judge_answer_held-requires c = c.accept_links-accepted.ensures.job

pub returns : goal.returns
returns c =
    given_judged c.accept_links-accepted.ensures.list (λ s. AnswerJudged s c.args.offered.now) c.judge_answer_held.result
    (answer_told c.args.offered.now _ _ _ c.judge_answer_held.ensures.judged c.judge_answer_held.ensures.refused)
    c.judge_answer_held.ensures.refused
