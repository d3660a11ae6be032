-- A job frame accepted into arrays. Definitions only. Assumes nothing.
use Rattle.std.specs.Prelude.{ℕ, ◌≡◌, Bool, true, false, List, Result, IfOk, length}
use Rattle.limits.specs.declared.Refusal.{Refusal}
use Rattle.number.specs.Number.{Bytes}
use Rattle.frame.specs.Job.{Job}
use Rattle.frame.specs.Arrays.{Arrays}
use Rattle.frame.specs.Questions.{job_of, ask, question6, refusal}
use Rattle.held.specs.Held.{Stored, Held}
use Rattle.links.specs.ColumnLaws.{zeros}
use Rattle.job.specs.declared.Header.{Header}
use Rattle.job.specs.Reading.{Headed}

-- Links of zeros, and room for 256 ranks.
pub record Empty (a : Arrays) : Type 0 where
  pub end₁ : a.links.end₁ ≡ zeros 256
  pub end₂ : a.links.end₂ ≡ zeros 256
  pub cost : a.links.cost ≡ zeros 256
  pub mark : a.links.mark ≡ zeros 256
  pub ranks : length a.ranks ≡ 256

-- The refusal of question 6, once the others are passed.
abbrev pub tree_refusal : Job → ℕ
tree_refusal j = ask (question6 j) 6 λ _. 0

-- What the arrays hold of an accepted job: its tree links by rank and its tree paths with its links, or its links alone.
abbrev pub HeldAs : Bool → Job → ℕ → ℕ → Arrays → Type 0
HeldAs true j nodes edges a = Held j nodes edges a
HeldAs false j nodes edges a = Stored j nodes edges a.links

-- The frame s has been asked questions 1 to 6: what they said, and an accepted job in the arrays.
pub record Asked (s : List ℕ) (r : Result Header Refusal) (a : Arrays) : Type 0 where
  pub bytes : Bytes s
  pub headed : Headed (refusal s) (job_of s) r
  pub held : IfOk r (λ h. Held (job_of s) h.nodes h.edges a)

-- Where they have accepted, the arrays hold a job.
abbrev pub SomeHeld : {E : Type 0} → Result Header E → Arrays → Type 0
SomeHeld r a = IfOk r (λ h. (j : Job) × Held j h.nodes h.edges a)
