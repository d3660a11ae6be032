-- What is copied of job frames and of answer frames into arrays of the caller. Definitions only. Assumes nothing.
use Rattle.std.specs.Prelude.{ℕ, ◌≡◌, Bool, ◌&&◌, Option, Some, None, Result, Ok, Err, IfOk, leb, length}
use mathlib.Core.List.{List, flat_map}
use Rattle.std.proofs.lemmas.List.Edits.{sets}
use Rattle.loops.specs.Below.{choose}
use Rattle.limits.specs.declared.Refusal.{Refusal}
use Rattle.limits.specs.declared.Refusal.TheVariants.{Room}
use Rattle.limits.specs.Refusals.{refusal_in}
use Rattle.optimum.specs.Optimum.{Pair, both, Answer}
use Rattle.frame.specs.Job.{Job, fields}
use Rattle.frame.specs.Questions.{job_of, refusal}
use Rattle.frame.specs.Services.{Outcome, written}
use Rattle.reading.specs.declared.JobRead.{JobRead}
use Rattle.reading.specs.declared.AnswerRead.{AnswerRead}
use Rattle.reading.specs.JobsRead.{JobGiven}
use Rattle.reading.specs.AnswersRead.{answer_of_read, AnswerGiven}
use Rattle.copying.specs.declared.JobCopy.{JobCopy}
use Rattle.copying.specs.declared.AnswerCopy.{AnswerCopy}

-- ---- jobs

-- The two counts.
abbrev pub job_copy : Job → JobCopy
job_copy j = record { nodes = j.nodes; count = length j.links }

-- The numbers of a frame's links in an array, if there is no refusal; the last question is whether the array is long enough.
abbrev pub job_outcome : List ℕ → List ℕ → Outcome
job_outcome s room = written (refusal s) (flat_map fields (job_of s).links) 0 room

-- The frame s copied into an array: what is said, what the array then holds, and that the job is the one that is read.
pub record JobCopied (s room : List ℕ) (r : Result JobCopy Refusal) (after : List ℕ) : Type 0 where
  pub number : refusal_in r ≡ (job_outcome s room).refusal
  pub said : IfOk r (λ c. c ≡ job_copy (job_of s))
  pub links : after ≡ (job_outcome s room).area
  pub given : (g : Result JobRead Refusal) × JobGiven s g

-- ---- answers

-- Two numbers a pair, tree link first.
abbrev pub pair_numbers : List Pair → List ℕ
pair_numbers ps = flat_map both ps

abbrev pub fit : Answer → List ℕ → List ℕ → Bool
fit a room₁ room₂ = leb (length a.costs) (length room₁) && leb (length (pair_numbers a.pairs)) (length room₂)

-- The steps and the two counts.
abbrev pub answer_copy : Answer → AnswerCopy
answer_copy a = record { steps = a.steps; costs = length a.costs; pairs = length a.pairs }

-- What is said, and what the two arrays then hold.
pub record Copy : Type 0 where
  pub said : Result (Option AnswerCopy) Refusal
  pub costs : List ℕ
  pub pairs : List ℕ

abbrev pub copy_of : Result (Option AnswerCopy) Refusal → List ℕ → List ℕ → Copy
copy_of r costs pairs = record { said = r; costs = costs; pairs = pairs }

-- An answer in the first places of the arrays; the last question is whether they are long enough.
abbrev pub answer_into : Answer → List ℕ → List ℕ → Copy
answer_into a room₁ room₂ =
    choose (fit a room₁ room₂)
    (λ _. copy_of (Ok (Some (answer_copy a))) (sets room₁ 0 a.costs) (sets room₂ 0 (pair_numbers a.pairs)))
    (λ _. copy_of (Err Room) room₁ room₂)

-- What was read as the answer to a job of m links, copied: where nothing was read the arrays stay.
abbrev pub copied : ℕ → Result (Option AnswerRead) Refusal → List ℕ → List ℕ → Copy
copied m (Ok (Some g)) room₁ room₂ = answer_into (answer_of_read m g) room₁ room₂
copied m (Ok None) room₁ room₂ = copy_of (Ok None) room₁ room₂
copied m (Err q) room₁ room₂ = copy_of (Err q) room₁ room₂

-- The frame f, offered as the answer to the job frame s, copied into two arrays: what is read of it, and what is said and what the
-- arrays then hold.
pub record AnswerCopied (s f room₁ room₂ : List ℕ) (r : Result (Option AnswerCopy) Refusal) (after₁ after₂ : List ℕ) : Type 0 where
  pub read : Result (Option AnswerRead) Refusal
  pub given : AnswerGiven s f read
  pub said : copy_of r after₁ after₂ ≡ copied (length (job_of s).links) read room₁ room₂
