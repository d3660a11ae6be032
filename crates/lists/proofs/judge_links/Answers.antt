-- `lists::judge_links` meets its contract: the list is asked the six questions as its frame would be. Assumes nothing.
use Rattle.judging.specs.Verdicts.{TreeJudged}
use Rattle.judging.proofs.VerdictLaws.{tree_told}
use Rattle.listed.proofs.ListServiceLaws.{given_judged}
use Rattle.lists.proofs.judge_links.Goals as goal

pub judge_held-requires : goal.judge_held-requires
judge_held-requires c = c.accept_links-accepted.ensures.job

pub returns : goal.returns
returns c =
    given_judged c.accept_links-accepted.ensures.list TreeJudged c.judge_held.result
    (tree_told _ _ _ c.judge_held.ensures.judged c.judge_held.ensures.refused) c.judge_held.ensures.refused
