-- What the finders hand back. Definitions only. Assumes nothing.
use Rattle.std.specs.Prelude.{ℕ, ◌+◌, ◌<◌, ◌≤◌, ◌≡◌, ◌≢◌, List, [], length, get_or}
use Rattle.frame.specs.Job.{link, fields, bytes_of}
use Rattle.limits.specs.Limits.{number_bytes}
use Rattle.frame.specs.Questions.{job_of, refusal}
use Rattle.frame.specs.Services.{Place, part_at}
use Rattle.frame.specs.Replies.{link_place, link_part, cost_place, cost_part}
use Rattle.frame.specs.AnswerMeaning.{Certified}
use Rattle.optimum.specs.Optimum.{Answer}
use Rattle.number.specs.Number.{encode}

-- The part handed back for link e of the frame s: the frame's own bytes from the link's offset on, as many as the link
-- takes, and these are its four numbers; nothing if the frame is refused or has no such link.
pub record LinkFound (s : List ℕ) (e : ℕ) (part : List ℕ) : Type 0 where
  pub is : part ≡ link_part (refusal s) s e
  pub shown : refusal s ≡ 0 → e < length (job_of s).links → part ≡ bytes_of (fields (link (job_of s) e))
  pub refused : refusal s ≢ 0 → part ≡ []
  pub past : refusal s ≡ 0 → length (job_of s).links ≤ e → part ≡ []

-- The part handed back for link e's new cost in the frame f, offered as an answer to the job frame s: that frame's own bytes
-- from the cost's offset on, as many as the cost takes, and these are the cost; nothing if the job frame is refused, has no
-- such link, or f is no answer to it.
pub record CostFound (s f : List ℕ) (e : ℕ) (part : List ℕ) : Type 0 where
  pub is : part ≡ cost_part s f e
  pub shown : refusal s ≡ 0 → e < length (job_of s).links → (a : Answer) → Certified (job_of s) f a → part ≡ encode number_bytes (get_or a.costs e 0)
  pub refused : refusal s ≢ 0 → part ≡ []
  pub past : length (job_of s).links ≤ e → part ≡ []
  pub no_answer : refusal s ≡ 0 → (((a : Answer) × Certified (job_of s) f a) → ⊥) → part ≡ []

-- Where link e's bytes stand in the frame s, and where its new cost stands in the frame f: inside that frame, as the
-- definitions say, and there the finders' parts stand.
pub record LinkLocated (s : List ℕ) (e : ℕ) (place : Place) : Type 0 where
  pub is : place ≡ link_place (refusal s) s e
  pub within : place.offset + place.size ≤ length s
  pub found : LinkFound s e (part_at place s)

pub record CostLocated (s f : List ℕ) (e : ℕ) (place : Place) : Type 0 where
  pub is : place ≡ cost_place s f e
  pub within : place.offset + place.size ≤ length f
  pub found : CostFound s f e (part_at place f)
