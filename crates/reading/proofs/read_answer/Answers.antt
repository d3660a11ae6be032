-- `reading::read_answer` meets its contract: the frame is judged, and read if it is an answer. Assumes nothing.
use Rattle.std.specs.Prelude.{ℕ, ◌≡◌, ◌≤◌, true, List, Option, Some, Ok, Err, length}
use Rattle.std.proofs.Common.{refl, sym, ap, ◌∙◌}
use Rattle.std.proofs.Math.Option as maybe
use Rattle.optimum.specs.Optimum.{Answer}
use Rattle.number.specs.Number.{Bytes}
use Rattle.frame.specs.Questions.{job_of}
use Rattle.frame.specs.Answers.{read_answer}
use Rattle.frame.specs.Arrays.{arrays}
use Rattle.accept.specs.Accepting.{Asked}
use Rattle.accept.specs.AcceptLaws.{accepted_edges}
use Rattle.judging.specs.Verdicts.{AnswerJudged}
use Rattle.reading.specs.declared.AnswerRead.{AnswerRead}
use Rattle.reading.specs.AnswersRead.{answer_read, read_of, AnswerGiven}
use Rattle.reading.specs.AnswerReadLaws.{answer_there, held_read, held_few, answer_given}
use Rattle.reading.proofs.read_answer.Goals as goal

pub returns-in-Err : goal.returns-in-Err
unfolding read_of
returns-in-Err c =
    let q = c.in-Err.refusal in
    answer_given c.args.frame.now c.args.offered.now (λ i. (c.type_inv.frame i).fits) (λ i. (c.type_inv.offered i).fits) (Err q) (Err q)
    (record { number = c.in-Err.ensures.header.number; word_is = tt }) refl

-- what is read of a frame that is judged yes
shown :
    (s f : List ℕ) →
    Bytes s →
    Bytes f →
    AnswerJudged s f (Ok true) →
    (m : ℕ) →
    m ≡ length (job_of s).links →
    (o : Option AnswerRead) →
    ((a : Answer) → read_answer m f ≡ maybe.some a → length a.pairs ≤ 64 → o ≡ Some (answer_read a)) →
    AnswerGiven s f (Ok o)
unfolding read_of
shown s f b q v m e o h =
    let a = (answer_there s f b v).0 in
    let is : o ≡ Some (answer_read a) = h a (ap (λ m. read_answer m f) e ∙ held_read s f b v) (held_few s f b v) in
    answer_given s f b q (Ok true) (Ok o) v.said (ap Ok is ∙ sym (ap (read_of (Ok true)) (held_read s f b v)))

pub returns : goal.returns
returns c =
    let s = c.args.frame.now in
    let n = c.accept-accepted.new in
    let k : Asked s (Ok c.in-Ok.counts) (arrays n.end1 n.end2 n.cost n.mark n.ts n.mask)
    = record {
      bytes = λ i. (c.type_inv.frame i).fits;
      headed = c.in-Ok.ensures.header;
      held = c.in-Ok.ensures.job;
    } in
    shown s c.args.offered.now k.bytes (λ i. (c.type_inv.offered i).fits) (rw c.if-not-certified.false at c.in_ok-certified.ensures.judged s k) _
    (accepted_edges s c.in-Ok.counts k.headed) _ c.read_contents.ensures
