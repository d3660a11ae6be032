-- What is read of a frame that is offered as the answer to a job frame. Definitions only. Assumes nothing.
use Rattle.std.specs.Prelude.{ℕ, ◌≡◌, Bool, true, false, Option, Some, None, Result, Ok, Err, IfOk, IfSome, is_some, length}
use mathlib.Core.List.{List, flat_map}
use Rattle.std.proofs.Math.Option as maybe
use Rattle.limits.specs.declared.Refusal.{Refusal}
use Rattle.optimum.specs.Optimum.{both, Answer}
use Rattle.frame.specs.Questions.{job_of}
use Rattle.frame.specs.AnswerMeaning.{answer_frame, Certified}
use Rattle.frame.specs.Answers.{read_answer}
use Rattle.codec.specs.Numbers.{numbers_at}
use Rattle.codec.specs.Held.{answer_at}
use Rattle.judging.specs.Verdicts.{AnswerJudged}
use Rattle.reading.specs.declared.AnswerRead.{AnswerRead}

-- An answer in arrays, tree link and spare link of its pairs by turns, zeros behind its last cost and behind its last pair.
abbrev pub answer_read : Answer → AnswerRead
answer_read a =
    record {
      steps = a.steps;
      costs = numbers_at 256 a.costs;
      count = length a.pairs;
      pairs = numbers_at 128 (flat_map both a.pairs);
    }

-- What the frame holds, if the verdict on it is yes; else the verdict alone.
unfoldable pub read_of : Result Bool Refusal → maybe.Option Answer → Result (Option AnswerRead) Refusal
read_of (Ok true) (maybe.some a) = Ok (Some (answer_read a))
read_of (Ok true) maybe.none = Ok None
read_of (Ok false) o = Ok None
read_of (Err q) o = Err q

-- The answer to a job of m links that was read.
abbrev pub answer_of_read : ℕ → AnswerRead → Answer
answer_of_read m r = answer_at r.steps m r.costs r.count r.pairs

-- The verdict of a judge who hands on what he reads of a frame judged yes.
abbrev pub verdict_in : {A : Type 0} → Result (Option A) Refusal → Result Bool Refusal
verdict_in (Ok o) = Ok (is_some o)
verdict_in (Err q) = Err q

-- What is read of the frame f, offered as an answer to the job frame s: the verdict is the judge's; of a frame that is judged
-- yes its contents are read, they prove themselves best, and written as a frame they are f.
pub record AnswerGiven (s f : List ℕ) (r : Result (Option AnswerRead) Refusal) : Type 0 where
  pub judged : AnswerJudged s f (verdict_in r)
  pub said : IfOk r (λ o. IfSome o (λ g. (a : Answer) × (read_answer (length (job_of s).links) f ≡ maybe.some a) × (g ≡ answer_read a)))
  pub answer : IfOk r (λ o. IfSome o (λ g. Certified (job_of s) f (answer_of_read (length (job_of s).links) g)))
  pub again : IfOk r (λ o. IfSome o (λ g. answer_frame (answer_of_read (length (job_of s).links) g) ≡ f))
