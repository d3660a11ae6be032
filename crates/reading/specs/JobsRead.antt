-- What is read of a job frame into link records. Definitions only. Assumes nothing.
use Rattle.std.specs.Prelude.{ℕ, ◌≡◌, List, Result, IfOk, map, length, take}
use Rattle.limits.specs.declared.Refusal.{Refusal}
use Rattle.limits.specs.Refusals.{refusal_in}
use Rattle.loops.specs.Loop.{tabulate}
use Rattle.frame.specs.Job.{JobLink, Job, job_frame}
use Rattle.frame.specs.Arrays.{Columns, link_at}
use Rattle.frame.specs.Questions.{job_of, refusal}
use Rattle.frame.specs.Meaning.{FirstNo}
use Rattle.records.specs.declared.Link.{Link}
use Rattle.records.specs.Records.{first_links}
use Rattle.accept.specs.ListJobs.{list_job}
use Rattle.reading.specs.declared.JobRead.{JobRead}

-- A job's link as a record.
abbrev pub link_of : JobLink → Link
link_of l = record { end1 = l.end₁; end2 = l.end₂; cost = l.cost; mark = l.mark }

-- The first n links of four arrays.
abbrev pub gathered : ℕ → Columns → List Link
gathered n c = tabulate n λ e. link_of (link_at c e)

-- The job, zeros behind its last link.
abbrev pub given_of : Job → JobRead
given_of j = record { nodes = j.nodes; count = length j.links; links = first_links 256 (map link_of j.links) }

-- The job that was read.
abbrev pub job_in : JobRead → Job
job_in r = list_job r.nodes (take r.count r.links)

-- What is read of the frame s: a refusal is the first "no" of the six questions; of an accepted frame its job is read, and
-- what was read, written as a frame, is s.
pub record JobGiven (s : List ℕ) (r : Result JobRead Refusal) : Type 0 where
  pub number : refusal_in r ≡ refusal s
  pub first : FirstNo s (refusal s)
  pub said : IfOk r (λ g. g ≡ given_of (job_of s))
  pub job : IfOk r (λ g. job_in g ≡ job_of s)
  pub again : IfOk r (λ g. job_frame (job_in g) ≡ s)
