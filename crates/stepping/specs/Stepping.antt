-- What the services on step sheets promise. Definitions only. Assumes nothing.
use Rattle.std.specs.Prelude.{ℕ, ◌≤◌, ◌≡◌, List, [], Result, IfOk, length, take}
use Rattle.std.proofs.Math.Option.{some, get_or}
use Rattle.limits.specs.Limits.{sheet_most, costs_most}
use Rattle.number.specs.Number.{Bytes}
use Rattle.optimum.specs.Optimum.{Answer}
use Rattle.frame.specs.Job.{Job, bytes_of, cost_of}
use Rattle.frame.specs.Meaning.{FirstNoWith}
use Rattle.frame.specs.AnswerMeaning.{Certified}
use Rattle.frame.specs.Services.{Served}
use Rattle.frame.specs.Questions.{job_of, refusal, later}
use Rattle.limits.specs.declared.Refusal.{Refusal}
use Rattle.codec.specs.Numbers.{outcome}
use Rattle.job.specs.declared.Header.{Header}
use Rattle.job.specs.Reading.{Headed}
use Rattle.sheet.specs.Sheet.{Move, SheetOf, InRange, CostsOf, LeadsTo, Translated, move_sum}
use Rattle.sheet.specs.Reading.{is_some, sheet_bytes, costs_bytes, costs_at}

-- The number of links of a job.
abbrev pub link_count : Job → ℕ
link_count j = length j.links

-- The sheet of the costs f in the job of the frame s, and the costs of the sheet f, as functions of the two.
abbrev pub sheet_for : List ℕ → List ℕ → List ℕ
sheet_for s f = get_or (sheet_bytes (link_count (job_of s)) (cost_of (job_of s)) f) []

abbrev pub costs_for : List ℕ → List ℕ → List ℕ
costs_for s f = get_or (costs_bytes (link_count (job_of s)) (cost_of (job_of s)) f) []

-- Questions 1 to 6, and then 8: are the costs f in form? Is the sheet f in form, with its results in range?
abbrev pub sheet_refusal : List ℕ → List ℕ → ℕ
sheet_refusal s f = later (refusal s) (is_some (sheet_bytes (link_count (job_of s)) (cost_of (job_of s)) f)) 8

abbrev pub costs_refusal : List ℕ → List ℕ → ℕ
costs_refusal s f = later (refusal s) (is_some (costs_bytes (link_count (job_of s)) (cost_of (job_of s)) f)) 8

-- The bytes b are the sheet of the costs f in the job j.
pub record SheetGiven (j : Job) (f b : List ℕ) : Type 0 where
  -- each gives the other
  pub translated : Translated (link_count j) (cost_of j) b f
  -- the other service makes f of b again
  pub again : costs_bytes (link_count j) (cost_of j) b ≡ some f
  -- if f are the costs of an answer judged yes, its steps are the absolute changes added up
  pub steps : (g : List ℕ) (a : Answer) → Certified j g a → bytes_of a.costs ≡ f → move_sum translated.moves ≡ a.steps
  pub most : length b ≤ sheet_most

-- The bytes b are the costs that the sheet f leads to in the job j.
pub record CostsGiven (j : Job) (f b : List ℕ) : Type 0 where
  pub translated : Translated (link_count j) (cost_of j) f b
  pub again : sheet_bytes (link_count j) (cost_of j) b ≡ some f
  pub most : length b ≤ costs_most

-- The reply r to the job frame s and the costs f, with the area before and after.
pub record SheetMade (s f area : List ℕ) (r : Result ℕ Refusal) (after : List ℕ) : Type 0 where
  -- number, length and every byte, as a function of the two frames and the area
  pub served : Served (sheet_refusal s f) (sheet_for s f) area (outcome r after)
  -- the number before question 7 is that of the first "no"
  pub first : FirstNoWith s 8 ((d : ℕ → ℕ) × CostsOf (link_count (job_of s)) f d) (sheet_refusal s f)
  pub done : IfOk r (λ n. SheetGiven (job_of s) f (take n after))

-- The reply r to the job frame s and the sheet f, with the area before and after.
pub record SheetApplied (s f area : List ℕ) (r : Result ℕ Refusal) (after : List ℕ) : Type 0 where
  pub served : Served (costs_refusal s f) (costs_for s f) area (outcome r after)
  pub first :
      FirstNoWith s 8 ((ks : List Move) × SheetOf (link_count (job_of s)) f ks × ((d : ℕ → ℕ) × LeadsTo (link_count (job_of s)) ks (cost_of (job_of s)) d))
      (costs_refusal s f)
  pub done : IfOk r (λ n. CostsGiven (job_of s) f (take n after))

-- The frame s has been asked questions 1 to 6: what they said, and an accepted job's costs in the array.
pub record AskedCosts (s : List ℕ) (r : Result Header Refusal) (cs : List ℕ) : Type 0 where
  pub bytes : Bytes s
  pub headed : Headed (refusal s) (job_of s) r
  pub costs : IfOk r (λ _. costs_at cs ≡ cost_of (job_of s))

-- Where they have accepted, the array holds so many costs.
pub record HasCosts (h : Header) (cs : List ℕ) : Type 0 where
  pub few : h.edges ≤ 256
  pub places : length cs ≡ 256
  pub limit : InRange h.edges (costs_at cs)

abbrev pub SomeCosts : Result Header Refusal → List ℕ → Type 0
SomeCosts r cs = IfOk r (λ h. HasCosts h cs)
