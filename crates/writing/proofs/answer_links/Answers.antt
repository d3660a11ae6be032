-- `writing::answer_links` meets its contract: the list is asked the six questions as its frame would be. Assumes nothing.
use Rattle.listed.proofs.ListServiceLaws.{given_answered}
use Rattle.answering.specs.AnswerLaws.{answered_told, untouched_told}
use Rattle.writing.proofs.answer_links.Goals as goal

pub answer_held-requires : goal.answer_held-requires
answer_held-requires c = c.accept_links-accepted.ensures.job

pub returns : goal.returns
returns c =
    given_answered c.accept_links-accepted.ensures.list c.args.area.now c.answer_held.result c.answer_held.new.area
    (answered_told _ _ _ _ _ c.answer_held.ensures.answered c.answer_held.ensures.refused)
    (untouched_told _ _ _ _ c.answer_held.ensures.refused)
