-- `copying::copy_answer` meets its contract: of a frame that is judged yes what is read is put into the arrays.
-- Assumes nothing.
use Rattle.std.specs.Prelude.{Ok, Some}
use Rattle.reading.specs.AnswersRead.{AnswerGiven}
use Rattle.copying.specs.ServiceLaws.{edges_of, counts_there, accepted_job, copied_pairs_few, costs_few, copied_as}
use Rattle.copying.proofs.copy_answer.Goals as goal

-- of a frame that is judged yes the counts are there
pub returns-in_err-edges-in-Some : goal.returns-in_err-edges-in-Some
returns-in_err-edges-in-Some c =
    let a = c.args in
    let g : AnswerGiven a.frame.now a.offered.now (Ok (Some c.in-Some.read)) = rw c.in-Some.is at c.in_ok-read.ensures in
    absurd (counts_there a.frame.now c.in_err-edges-in-Some.field-0.0 c.in_err-edges-in-Some.ensures
    (accepted_job a.frame.now a.offered.now a.costs.now a.pairs.now c.in-Some.read g))

pub put_answer-requires-clause-edges_bound : goal.put_answer-requires-clause-edges_bound
put_answer-requires-clause-edges_bound c =
    let a = c.args in
    let g : AnswerGiven a.frame.now a.offered.now (Ok (Some c.in-Some.read)) = rw c.in-Some.is at c.in_ok-read.ensures in
    let links = edges_of a.frame.now (λ i. (c.type_inv.frame i).fits) c.in_ok-edges-in-Some.field-0 c.in_ok-edges-in-Some.ensures in
    costs_few a.frame.now a.offered.now a.costs.now a.pairs.now c.in-Some.read g _ links (λ i. (c.type_inv.frame i).fits)

pub put_answer-requires-clause-count_bound : goal.put_answer-requires-clause-count_bound
put_answer-requires-clause-count_bound c =
    let a = c.args in
    let g : AnswerGiven a.frame.now a.offered.now (Ok (Some c.in-Some.read)) = rw c.in-Some.is at c.in_ok-read.ensures in
    copied_pairs_few a.frame.now a.offered.now a.costs.now a.pairs.now c.in-Some.read g (λ i. (c.type_inv.frame i).fits)

-- the job has so many links
pub returns-in_ok-edges-in-Some : goal.returns-in_ok-edges-in-Some
returns-in_ok-edges-in-Some c =
    let a = c.args in
    let g : AnswerGiven a.frame.now a.offered.now (Ok (Some c.in-Some.read)) = rw c.in-Some.is at c.in_ok-read.ensures in
    let links = edges_of a.frame.now (λ i. (c.type_inv.frame i).fits) c.in_ok-edges-in-Some.field-0 c.in_ok-edges-in-Some.ensures in
    copied_as a.frame.now a.offered.now a.costs.now a.pairs.now c.in-Some.read g _ links c.put_answer.result c.put_answer.new.costs
    c.put_answer.new.pairs c.put_answer.ensures
