-- A lent list: what the services say of what is given of it, its length, the word on its numbers and the copy of its first 256
-- links, they say of the list. Assumes nothing.
use Rattle.std.specs.Prelude.{ℕ, ◌≡◌, Bool, List, Result, Ok, Err}
use Rattle.std.proofs.Common.{arith, sym, ap, subst, ◌∙◌}
use Rattle.loops.specs.TestLaws.{clash}
use Rattle.limits.specs.declared.Refusal.{Refusal}
use Rattle.limits.specs.Refusals.{refusal_in}
use Rattle.number.specs.Number.{Bytes}
use Rattle.records.specs.declared.Link.{Link}
use Rattle.records.specs.declared.ListCopy.{ListCopy}
use Rattle.records.specs.Records.{list_copy}
use Rattle.frame.specs.Job.{Job, job_numbers, job_frame}
use Rattle.frame.specs.Questions.{job_of, refusal}
use Rattle.frame.specs.Answers.{answer_of}
use Rattle.frame.specs.AnswerMeaning.{answer_frame}
use Rattle.frame.specs.Services.{Place, nowhere, written}
use Rattle.accept.specs.ListJobs.{list_job}
use Rattle.accept_lists.specs.Given.{Given}
use Rattle.accept_lists.specs.ListJobLaws.{lent}
use Rattle.frame.proofs.Accepted.{numbers_bytes}
use Rattle.judging.specs.Verdicts.{VerdictOn}
use Rattle.judging.proofs.VerdictLaws.{refused_judged}
use Rattle.answering.specs.Answering.{Untouched}
use Rattle.answering.specs.AnswerLaws.{answered_of}
use Rattle.finding.specs.PartLaws.{cost_refused_nowhere}
use Rattle.listed.specs.ListServices.{ListWritten, ListAnswered, ListJudged, ListCostLocated}
use Rattle.listed.proofs.ListServiceLaws.{untouched_written, small_written, large_written}

-- What is given of the list ys.
abbrev pub Lent : ℕ → List Link → (ℕ → Type 0) → (Job → Type 0) → Type 0
Lent nodes ys = Given nodes (list_copy ys)

-- What is given is of the list ys, if it is its copy.
pub lent_as :
    (nodes : ℕ) (ys : List Link) (Early : ℕ → Type 0) (Said : Job → Type 0) {list : ListCopy} →
    list ≡ list_copy ys →
    Given nodes list Early Said →
    Lent nodes ys Early Said
lent_as nodes ys Early Said copy g = subst (λ (c : ListCopy). Given nodes c Early Said) copy g

-- A verdict that tells the number of the frame's refusal is what it should be.
number_judged :
    (s : List ℕ) →
    Bytes s →
    (word : Bool) (P : Type 0) (r : Result Bool Refusal) →
    refusal s ≡ 2 →
    refusal_in r ≡ 2 →
    VerdictOn s word P r
number_judged s b word P (Ok w) two e = absurd (omega (arith, e))
number_judged s b word P (Err q) two e = refused_judged s b word P q (two ∙ sym e)

module _ (nodes : ℕ) (ys : List Link) where
  pub lent_judged :
      (word : List ℕ → Bool) (Claim : List ℕ → Type 0) (r : Result Bool Refusal) →
      Lent nodes ys (λ n. refusal_in r ≡ n) (λ j. ListJudged j (λ s. VerdictOn s (word s) (Claim s)) r) →
      ListJudged (list_job nodes ys) (λ s. VerdictOn s (word s) (Claim s)) r
  lent_judged word Claim r =
      lent nodes ys (λ n. refusal_in r ≡ n) (λ j. ListJudged j (λ s. VerdictOn s (word s) (Claim s)) r)
      (λ f e. record { large = λ _. e; said = λ y. clash y f })
      (λ y two e.
      let s = job_frame (list_job nodes ys) in
      record {
        large = λ f. clash y f;
        said = λ _.
            number_judged s (numbers_bytes (job_numbers (list_job nodes ys))) (word s) (Claim s) r two e;
      })

  pub lent_answered :
      (area : List ℕ) (r : Result ℕ Refusal) (after : List ℕ) →
      Lent nodes ys (λ n. Untouched n area r after) (λ j. ListAnswered j area r after) →
      ListAnswered (list_job nodes ys) area r after
  lent_answered area r after =
      lent nodes ys (λ n. Untouched n area r after) (λ j. ListAnswered j area r after)
      (λ f u. record { large = λ _. u; said = λ y. clash y f })
      (λ y two u.
      let s = job_frame (list_job nodes ys) in
      let bytes = answer_frame (answer_of (job_of s)) in
      record {
        large = λ f. clash y f;
        said = λ _.
            answered_of s area (numbers_bytes (job_numbers (list_job nodes ys))) r after
            (untouched_written 2 bytes (λ z. omega (arith, z)) u ∙ ap (λ (n : ℕ). written n bytes 0 area) (sym two));
      })

  pub lent_written :
      (area : List ℕ) (r : Result ℕ Refusal) (after : List ℕ) →
      Lent nodes ys (λ n. Untouched n area r after) (λ j. ListWritten j area r after) →
      ListWritten (list_job nodes ys) area r after
  lent_written area r after =
      lent nodes ys (λ n. Untouched n area r after) (λ j. ListWritten j area r after)
      (λ f u. large_written (list_job nodes ys) f area r after u)
      (λ y two u.
      let s = job_frame (list_job nodes ys) in
      small_written (list_job nodes ys) y area r after
      (untouched_written 2 s (λ z. omega (arith, z)) u ∙ ap (λ (n : ℕ). written n s 0 area) (sym two)))

  pub lent_located :
      (f : List ℕ) →
      Bytes f →
      (e : ℕ) (place : Place) →
      Lent nodes ys (λ _. place ≡ nowhere) (λ j. ListCostLocated j f e place) →
      ListCostLocated (list_job nodes ys) f e place
  lent_located f b e place =
      lent nodes ys (λ _. place ≡ nowhere) (λ j. ListCostLocated j f e place)
      (λ n is. record { large = λ _. is; said = λ y. clash y n })
      (λ y two is.
      record {
        large = λ n. clash y n;
        said =
            λ _. cost_refused_nowhere (job_frame (list_job nodes ys)) f (numbers_bytes (job_numbers (list_job nodes ys))) b e
            (λ z. omega (arith, two, z)) place is;
      })
