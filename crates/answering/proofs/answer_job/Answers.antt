-- `answering::answer_job` meets its contract: the job is solved and the answer written. Assumes nothing.
use mathlib.Core.Path.{refl, sym, ◌∙◌}
use Rattle.frame.specs.Questions.{job_of}
use Rattle.frame.specs.AnswerMeaning.{answer_frame}
use Rattle.frame.specs.Services.{written}
use Rattle.codec.specs.WritingLaws.{told_outcome}
use Rattle.held.specs.HeldLaws.{few_links}
use Rattle.accept.specs.AskedLaws.{asked_number}
use Rattle.answering.specs.AnswerLaws.{answered_of}
use Rattle.answering.proofs.answer_job.Goals as goal

pub solve-s-requires : goal.solve-s-requires
solve-s-requires c = record { job = c.requires; places = refl }

pub write_answer-requires : goal.write_answer-requires
write_answer-requires c = (few_links c.requires.1, c.solve-s.ensures.few)

pub returns : goal.returns
returns c =
    let area = c.args.area.now in
    λ s asked.
    let is = c.solve-s.ensures.answer (job_of s) asked.held in
    answered_of s area asked.bytes _ _
    (told_outcome c.write_answer.result c.write_answer.new.area _ c.write_answer.ensures.written
    ∙ (λ i. written ((sym (asked_number asked)) i) (answer_frame (is i)) 0 area))
