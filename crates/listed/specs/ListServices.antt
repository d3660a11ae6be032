-- What the services say of a list of links: what they say of the frame that the list encodes, if every number of the list is
-- small; else that question 1 refuses it. Definitions only. Assumes nothing.
use Rattle.std.specs.Prelude.{ℕ, ◌≡◌, Bool, true, false, List, Result, IfOk, IfErr, take}
use Rattle.frame.specs.Job.{Job, job_frame}
use Rattle.frame.specs.Questions.{job_of, refusal}
use Rattle.frame.specs.Services.{Served, small, Place, nowhere}
use Rattle.frame.specs.Meaning.{FirstNo}
use Rattle.limits.specs.declared.Refusal.{Refusal}
use Rattle.limits.specs.Refusals.{refusal_in}
use Rattle.codec.specs.Numbers.{outcome}
use Rattle.answering.specs.Answering.{Answered, Untouched}
use Rattle.finding.specs.Parts.{CostLocated}

-- The reply of the job writer to a list, with the area before and after.
pub record ListWritten (j : Job) (area : List ℕ) (r : Result ℕ Refusal) (after : List ℕ) : Type 0 where
  pub large : small j ≡ false → Untouched 1 area r after
  -- number, length and every byte: questions 1 to 7 of the frame that the list encodes
  pub served : small j ≡ true → Served (refusal (job_frame j)) (job_frame j) area (outcome r after)
  -- the number before question 7 is that of the first "no" of questions 1 to 6
  pub first : small j ≡ true → FirstNo (job_frame j) (refusal (job_frame j))
  -- any refusal writes nothing
  pub refused : IfErr r (λ _. after ≡ area)
  -- what was written is accepted and reads as the list
  pub reads : IfOk r (λ n. (refusal (take n after) ≡ 0) × (job_of (take n after) ≡ j))

-- The reply of the answer service.
pub record ListAnswered (j : Job) (area : List ℕ) (r : Result ℕ Refusal) (after : List ℕ) : Type 0 where
  pub large : small j ≡ false → Untouched 1 area r after
  pub said : small j ≡ true → Answered (job_frame j) area r after

-- The verdict of a judge.
pub record ListJudged (j : Job) (Judged : List ℕ → Result Bool Refusal → Type 0) (r : Result Bool Refusal) : Type 0 where
  pub large : small j ≡ false → refusal_in r ≡ 1
  pub said : small j ≡ true → Judged (job_frame j) r

-- Where link e's new cost stands in the frame f, offered as an answer.
pub record ListCostLocated (j : Job) (f : List ℕ) (e : ℕ) (place : Place) : Type 0 where
  pub large : small j ≡ false → place ≡ nowhere
  pub said : small j ≡ true → CostLocated (job_frame j) f e place
