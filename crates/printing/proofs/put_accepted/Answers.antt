-- The text of the answer. An area for the longest answer and a buffer for the longest text are never too short.
use Rattle.std.proofs.Common.{ℕ, arith, ◌≡◌, ◌≤◌, ◌∙◌, Ok, Some, length, replicate, take}
use Rattle.std.proofs.lemmas.List.{length-replicate}
use Rattle.std.proofs.lemmas.Result.{err_from_is_err_and}
use Rattle.limits.specs.Limits.{answer_most}
use Rattle.number.specs.Number.{Bytes}
use Rattle.text.proofs.TextLaws.{put_text}
use Rattle.reading.specs.AnswersRead.{AnswerGiven}
use Rattle.printing.proofs.PrintedLaws.{number, printed_links, pairs_few_read, accepted_lines, lines_fit}
use Rattle.printing.proofs.put_accepted.Goals as goal
use Rattle.printing.proofs.put_accepted.Goals.{In-Some}

-- The area's length.
room : length (replicate {A = ℕ} answer_most 0) ≡ answer_most
room = length-replicate {A = ℕ} answer_most 0

pub returns-in_err-length-clause-number : goal.returns-in_err-length-clause-number
returns-in_err-length-clause-number c =
    let p = err_from_is_err_and c.from_residual.result c.from_residual.ensures.1 in
    let bytes : Bytes c.args.frame.now = λ i. (c.type_inv.frame i).fits in
    rw (p.1, p.2) (number _ bytes _ room _ _ c.in_err-length.ensures)

-- The answer that was read.
given : (c : In-Some) → AnswerGiven c.args.frame.now (take c.in_ok-length.length c.answer.new.area) (Ok (Some c.in-Some.answer))
given c = rw c.in-Some.is at c.in_ok-answer.ensures

-- The job has few links, and the answer few pairs.
few : (c : In-Some) → (c.in_ok-job.job.count ≤ 256) × (c.in-Some.answer.count ≤ 64)
few c =
    let bytes : Bytes c.args.frame.now = λ i. (c.type_inv.frame i).fits in (
      printed_links _ bytes _ room _ _ c.in_ok-length.ensures _ c.in_ok-job.ensures _ (given c),
      pairs_few_read _ bytes _ room _ _ c.in_ok-length.ensures _ c.in_ok-job.ensures _ (given c),
    )

pub put_answer-requires-clause-count_bound_2 : goal.put_answer-requires-clause-count_bound_2
put_answer-requires-clause-count_bound_2 c = (few (goal.at.put_answer-requires-clause-count_bound_2 c).In-Some).1

pub returns-clause-lines : goal.returns-clause-lines
returns-clause-lines c =
    let bytes : Bytes c.args.frame.now = λ i. (c.type_inv.frame i).fits in
    let at : In-Some = (goal.at.returns-clause-lines c).In-Some in
    let (links, pairs) = few at in
    let put = put_text _ _ _ _ c.put_answer.ensures (omega (arith, lines_fit c.in_ok-job.job c.in-Some.answer links pairs)) in
    (put.0 ∙ accepted_lines _ bytes _ room _ _ c.in_ok-length.ensures _ c.in_ok-job.ensures _ (given at), (put.1, put.2))
