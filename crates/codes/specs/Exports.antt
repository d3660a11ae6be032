-- What the functions for C promise: a service's promise, with its reply or verdict told in plain numbers. Definitions only.
-- Assumes nothing.
use Rattle.std.specs.Prelude.{ℕ, min, ◌≡◌, Bool, true, false, Option, Some, None, Result, Ok, Err, List, ℤ, pos, negsuc}
use Rattle.limits.specs.declared.Refusal.{Refusal}
use Rattle.limits.specs.Refusals.{number_of, refusal_in, size_in}
use Rattle.records.specs.declared.Link.{Link}
use Rattle.records.specs.declared.ListCopy.{ListCopy}
use Rattle.records.specs.Records.{list_copy}
use Rattle.copying.specs.declared.JobCopy.{JobCopy}
use Rattle.copying.specs.declared.AnswerCopy.{AnswerCopy}
use Rattle.reading.specs.AnswersRead.{verdict_in}

-- A verdict as a number: 0 for yes, -1 for no, else the refusal.
abbrev pub code_of : Result Bool Refusal → ℤ
code_of (Ok true) = pos 0
code_of (Ok false) = negsuc 0
code_of (Err q) = pos (number_of q)

-- The same of a verdict whose refusal is given by its number; and a verdict with its refusal given so.
abbrev pub code_in : Result Bool ℕ → ℤ
code_in (Ok true) = pos 0
code_in (Ok false) = negsuc 0
code_in (Err n) = pos n

abbrev pub numbered : Result Bool Refusal → Result Bool ℕ
numbered (Ok word) = Ok word
numbered (Err q) = Err (number_of q)

-- A refusal's number as a result of C can tell it: numbers to 31 as they are, any other as 31.
abbrev pub told : ℕ → ℕ
told n = min n 31

abbrev pub told_verdict : Result Bool ℕ → Result Bool ℕ
told_verdict (Ok word) = Ok word
told_verdict (Err n) = Err (told n)

-- What is said of every list of which this is the copy: of the list that was lent.
abbrev pub Of : ListCopy → (List Link → Type 0) → Type 0
Of list Φ = (ys : List Link) → list ≡ list_copy ys → Φ ys

-- The number is that of a verdict which the judge may give.
pub record Said (Judged : Result Bool Refusal → Type 0) (r : ℤ) : Type 0 where
  pub verdict : Result Bool Refusal
  pub number : r ≡ code_of verdict
  pub judged : Judged verdict

-- The number and the length are those of a reply which the service may give.
pub record Replied (Told : Result ℕ Refusal → Type 0) (r : ℤ) (written : ℕ) : Type 0 where
  pub reply : Result ℕ Refusal
  pub number : r ≡ pos (refusal_in reply)
  pub length : written ≡ size_in reply
  pub told : Told reply

-- What is counted of a job that is copied, and of an answer: nothing where nothing is copied.
abbrev pub job_counts : Result JobCopy Refusal → JobCopy
job_counts (Ok c) = c
job_counts (Err q) = record { nodes = 0; count = 0 }

abbrev pub answer_counts : Result (Option AnswerCopy) Refusal → AnswerCopy
answer_counts (Ok (Some c)) = c
answer_counts (Ok None) = record { steps = 0; costs = 0; pairs = 0 }
answer_counts (Err q) = record { steps = 0; costs = 0; pairs = 0 }

-- The numbers are those of what may be said of a job that is copied.
pub record JobTold (Told : Result JobCopy Refusal → Type 0) (r : ℤ) (stations count : ℕ) : Type 0 where
  pub said : Result JobCopy Refusal
  pub number : r ≡ pos (refusal_in said)
  pub nodes : stations ≡ (job_counts said).nodes
  pub links : count ≡ (job_counts said).count
  pub told : Told said

-- The numbers are those of what may be said of an answer that is copied.
pub record AnswerTold (Told : Result (Option AnswerCopy) Refusal → Type 0) (r : ℤ) (steps costs pairs : ℕ) : Type 0 where
  pub said : Result (Option AnswerCopy) Refusal
  pub number : r ≡ code_of (verdict_in said)
  pub total : steps ≡ (answer_counts said).steps
  pub links : costs ≡ (answer_counts said).costs
  pub matched : pairs ≡ (answer_counts said).pairs
  pub told : Told said
