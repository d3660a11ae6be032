-- `reading::read_contents` meets its contract: the arrays of zeros then hold the answer. Assumes nothing.
use Rattle.std.specs.Prelude.{Some}
use Rattle.std.proofs.Common.{ap}
use Rattle.reading.specs.AnswerReadLaws.{contents_missed, contents_read}
use Rattle.reading.proofs.read_contents.Goals as goal

pub returns-in_err-found : goal.returns-in_err-found
returns-in_err-found c = λ a is most. absurd (contents_missed _ _ _ _ a is most c.in_err-found.ensures.answer)

pub returns : goal.returns
returns c = λ a is most. ap Some (contents_read _ _ _ _ a is most c.in_ok-found.found c.in_ok-found.ensures.answer c.in_ok-found.ensures.behind)
