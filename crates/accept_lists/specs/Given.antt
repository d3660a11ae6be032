-- What is said of what is given of a list of records. Definitions only. Assumes nothing.
use Rattle.std.specs.Prelude.{ℕ, ◌≡◌, ◌≢◌, Bool, true, false, ◌&&◌, Result, leb, take}
use Rattle.records.specs.declared.ListCopy.{ListCopy}
use Rattle.frame.specs.Job.{Job, job_frame}
use Rattle.limits.specs.Limits.{max_edges, max_number}
use Rattle.frame.specs.Arrays.{Arrays}
use Rattle.frame.specs.Questions.{ask}
use Rattle.frame.specs.Services.{small}
use Rattle.job.specs.declared.Header.{Header}
use Rattle.limits.specs.declared.Refusal.{Refusal}
use Rattle.limits.specs.Refusals.{refusal_in}
use Rattle.accept.specs.Accepting.{Asked}
use Rattle.accept.specs.ListJobs.{list_job}

-- The refusal that is known before a link is looked at: 1 if a count is large or if the word on the links' numbers is that one
-- is; 2 if there are more than 256 links; else 0.
abbrev pub count_refusal : ℕ → ℕ → Bool → ℕ
count_refusal nodes count word =
    ask (leb nodes max_number && leb count max_number && word) 1 λ _.
    ask (leb count max_edges) 2 λ _.
    0

abbrev pub given_refusal : ℕ → ListCopy → ℕ
given_refusal nodes list = count_refusal nodes list.count list.small

-- What is said of a list that is given as its length, the word that its numbers are small and a copy of its first links:
-- that it is refused by the above; else what is said of the job of the first `count` links of the copy. Links behind these do
-- not count. So much is said of whatever is given, be it of a list or not.
pub record Given (nodes : ℕ) (list : ListCopy) (Refused : ℕ → Type 0) (Said : Job → Type 0) : Type 0 where
  pub refused : given_refusal nodes list ≢ 0 → Refused (given_refusal nodes list)
  pub said : given_refusal nodes list ≡ 0 → Said (list_job nodes (take list.count list.links))

-- A list whose numbers are small is accepted as its frame is; any other is refused by question 1.
pub record ListAccepted (j : Job) (r : Result Header Refusal) (a : Arrays) : Type 0 where
  pub large : small j ≡ false → refusal_in r ≡ 1
  pub asked : small j ≡ true → Asked (job_frame j) r a
