-- What the answer service promises. Definitions only. Assumes nothing.
use Rattle.std.specs.Prelude.{ℕ, ◌≡◌, true, List, Result, IfOk, length, take}
use Rattle.std.proofs.Math.Option.{some}
use Rattle.optimum.specs.Optimum.{Answer, Demanded}
use Rattle.frame.specs.Job.{graph_of, tree_of, cost_of}
use Rattle.frame.specs.Meaning.{FirstNo}
use Rattle.frame.specs.AnswerMeaning.{answer_frame, AnswerOf, Certified}
use Rattle.frame.specs.Services.{Served}
use Rattle.frame.specs.Questions.{job_of, refusal}
use Rattle.frame.specs.Answers.{answer_of, read_answer, judge_answer}
use Rattle.limits.specs.declared.Refusal.{Refusal}
use Rattle.limits.specs.Refusals.{refusal_in, size_in}
use Rattle.codec.specs.Numbers.{outcome}

-- The bytes f answer the job frame s: they are laid out as an answer of which the whole third demand holds, they are judged yes
-- and read as that answer. Which best pairing it lists, and with it the length, is open to us; `Served` below gives the bytes
-- as a function of the job alone.
pub record Delivered (s f : List ℕ) : Type 0 where
  pub answer : Answer
  pub layout : AnswerOf (length (job_of s).links) f answer
  pub demanded : Demanded (graph_of (job_of s)) (tree_of (job_of s)) (cost_of (job_of s)) answer
  pub certified : Certified (job_of s) f answer
  pub judged : judge_answer (job_of s) f ≡ true
  pub reads : read_answer (length (job_of s).links) f ≡ some answer

-- The reply r to the job frame s, with the area before and after.
pub record Answered (s area : List ℕ) (r : Result ℕ Refusal) (after : List ℕ) : Type 0 where
  -- number, length and every byte, as a function of the frame and the area
  pub served : Served (refusal s) (answer_frame (answer_of (job_of s))) area (outcome r after)
  -- the number before question 7 is that of the first "no" of questions 1 to 6
  pub first : FirstNo s (refusal s)
  -- what was written is an answer
  pub done : IfOk r (λ n. Delivered s (take n after))

-- A refusal: its number, no length, and the area as it was.
pub record Untouched (refusal : ℕ) (area : List ℕ) (r : Result ℕ Refusal) (after : List ℕ) : Type 0 where
  pub number : refusal_in r ≡ refusal
  pub nothing : size_in r ≡ 0
  pub same : after ≡ area
