-- A job in arrays, as functions lend them to one another. Definitions only. Assumes nothing.
use Rattle.std.specs.Prelude.{ℕ, List, get_or}
use Rattle.loops.specs.Loop.{tabulate}
use Rattle.frame.specs.Job.{JobLink, Job}

-- The links: both ends, cost and mark, each in an array by link.
pub record Columns : Type 0 where
  pub end₁ : List ℕ
  pub end₂ : List ℕ
  pub cost : List ℕ
  pub mark : List ℕ

abbrev pub columns : List ℕ → List ℕ → List ℕ → List ℕ → Columns
columns as₁ as₂ as₃ as₄ = record { end₁ = as₁; end₂ = as₂; cost = as₃; mark = as₄ }

-- The links, the tree links by rank, and for each station the word of its tree path.
pub record Arrays : Type 0 where
  pub links : Columns
  pub ranks : List ℕ
  pub mask : List ℕ

abbrev pub arrays : List ℕ → List ℕ → List ℕ → List ℕ → List ℕ → List ℕ → Arrays
arrays as₁ as₂ as₃ as₄ ranks mask = record { links = columns as₁ as₂ as₃ as₄; ranks = ranks; mask = mask }

-- Link e of the arrays; their first n links; the job of these.
abbrev pub link_at : Columns → ℕ → JobLink
link_at c e = record { end₁ = get_or c.end₁ e 0; end₂ = get_or c.end₂ e 0; cost = get_or c.cost e 0; mark = get_or c.mark e 0 }

abbrev pub links_at : ℕ → Columns → List JobLink
links_at n c = tabulate n (link_at c)

abbrev pub job_at : ℕ → ℕ → Columns → Job
job_at nodes n c = record { nodes = nodes; links = links_at n c }
