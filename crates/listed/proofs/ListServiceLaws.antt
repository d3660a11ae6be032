-- A list is accepted as its frame is, and so is said of it what is said of the frame. Assumes nothing.
use Rattle.std.specs.Prelude.{ℕ, ◌≤◌, ◌≡◌, refl, ◌≢◌, Bool, true, false, List, Result, Ok, Err, IfOk, IfErr, take}
use Rattle.std.proofs.Math.Decide.{ℕ_discrete}
use Rattle.std.proofs.Common.{arith, sym, ap, subst, ◌∙◌, ⊎_elim}
use Rattle.loops.specs.TestLaws.{truth, clash}
use Rattle.limits.specs.declared.Refusal.{Refusal}
use Rattle.limits.specs.Refusals.{number_of, refusal_in, size_in}
use Rattle.limits.specs.ResultLaws.{refusal_nonzero}
use Rattle.records.specs.declared.ListCopy.{ListCopy}
use Rattle.frame.specs.Job.{Job, job_numbers, job_frame}
use Rattle.frame.specs.Questions.{job_of, refusal}
use Rattle.frame.specs.Services.{Place, nowhere, small, written}
use Rattle.frame.proofs.Form.{first_no}
use Rattle.frame.proofs.Lists.{list_read}
use Rattle.frame.proofs.Outcomes.{served_of, served_none}
use Rattle.job.specs.declared.Header.{Header}
use Rattle.frame.specs.Arrays.{Arrays, job_at}
use Rattle.codec.specs.Numbers.{outcome}
use Rattle.codec.specs.WritingLaws.{put_refused}
use Rattle.accept.specs.Accepting.{Asked}
use Rattle.accept.specs.AskedLaws.{asked_number}
use Rattle.accept.specs.ListJobs.{list_job}
use Rattle.accept_lists.specs.Given.{given_refusal, Given, ListAccepted}
use Rattle.held.specs.HeldLaws.{stored_job, few_links}
use Rattle.accept_lists.specs.ListAcceptLaws.{asked_large}
use Rattle.frame.proofs.Accepted.{numbers_bytes}
use Rattle.answering.specs.Answering.{Answered, Untouched}
use Rattle.finding.specs.Parts.{CostLocated}
use Rattle.listed.specs.ListServices.{ListWritten, ListAnswered, ListJudged, ListCostLocated}

-- ---- what a result says, by the number that it tells

-- What is said of a refusal is said of its number.
by_number : {A : Type 0} (x : Result A Refusal) (P : ℕ → Type 0) → IfErr x (λ q. P (number_of q)) → refusal_in x ≢ 0 → P (refusal_in x)
by_number (Ok h) P said n = absurd (n refl)
by_number (Err q) P said n = said

-- A verdict that is the refusal tells its number.
number_told :
    {A : Type 0} (x : Result A Refusal) (r : Result Bool Refusal) → IfErr x (λ q. r ≡ Err q) → IfErr x (λ q. refusal_in r ≡ number_of q)
number_told (Ok h) r said = tt
number_told (Err q) r said = ap refusal_in said

-- What a reply that refuses says, and one that has written.
if_refused : (r : Result ℕ Refusal) (P : Type 0) → (refusal_in r ≢ 0 → P) → IfErr r (λ _. P)
if_refused (Ok n) P said = tt
if_refused (Err q) P said = said (refusal_nonzero q)

if_written : (r : Result ℕ Refusal) (P : ℕ → Type 0) → (refusal_in r ≡ 0 → P (size_in r)) → IfOk r P
if_written (Ok n) P said = said refl
if_written (Err q) P said = tt

-- ---- a reply by the definition

-- A refusal that leaves the area untouched is the definition's.
pub untouched_written :
    {area : List ℕ} {r : Result ℕ Refusal} {after : List ℕ} (n : ℕ) (bytes : List ℕ) →
    n ≢ 0 →
    Untouched n area r after →
    outcome r after ≡ written n bytes 0 area
untouched_written {area} {r} {after} n bytes nonzero u =
    let left : outcome r after ≡ record { refusal = n; size = 0; area = area } = λ i.
    record { refusal = u.number i; size = u.nothing i; area = u.same i } in
    left ∙ put_refused n bytes 0 area nonzero

-- What the writer promises follows from its reply to a job whose numbers are small.
pub small_written :
    (j : Job) →
    small j ≡ true →
    (area : List ℕ) (r : Result ℕ Refusal) (after : List ℕ) →
    outcome r after ≡ written (refusal (job_frame j)) (job_frame j) 0 area →
    ListWritten j area r after
small_written j y area r after e =
    let served = served_of (refusal (job_frame j)) (job_frame j) area (outcome r after) e in
    record {
      large = λ f. clash y f;
      served = λ _. served;
      first = λ _. first_no (job_frame j) (numbers_bytes (job_numbers j));
      refused = if_refused r (after ≡ area) (λ n. (served.refused n).1);
      reads =
          if_written r (λ n. (refusal (take n after) ≡ 0) × (job_of (take n after) ≡ j))
          (λ z. let front = served.front z in (ap refusal front ∙ served_none served z, ap job_of front ∙ list_read j y));
    }

-- A list with a large number is refused by question 1.
pub large_written :
    (j : Job) →
    small j ≡ false →
    (area : List ℕ) (r : Result ℕ Refusal) (after : List ℕ) →
    Untouched 1 area r after →
    ListWritten j area r after
large_written j f area r after u =
    record {
      large = λ _. u;
      served = λ y. clash y f;
      first = λ y. clash y f;
      refused = if_refused r (after ≡ area) (λ _. u.same);
      reads =
          if_written r (λ n. (refusal (take n after) ≡ 0) × (job_of (take n after) ≡ j)) (λ z. absurd (omega (arith, z, u.number)));
    }

-- ---- a list that was accepted or refused

module _ (j : Job) {b : Arrays} where
  -- What is said of a refusal is said of one by question 1.
  large_refused :
      {x : Result Header Refusal} (P : ℕ → Type 0) → ListAccepted j x b → IfErr x (λ q. P (number_of q)) → small j ≡ false → P 1
  large_refused {x} P a refused n = let one = asked_large n a in subst P one (by_number x P refused (λ z. omega (arith, one, z)))

  frame_written :
      (x : Result Header Refusal) →
      ListAccepted j x b →
      small j ≡ true →
      (area : List ℕ) (r : Result ℕ Refusal) (after : List ℕ) →
      IfOk x (λ h. outcome r after ≡ written 0 (job_frame (job_at h.nodes h.edges b.links)) 0 area) →
      IfErr x (λ q. Untouched (number_of q) area r after) →
      outcome r after ≡ written (refusal (job_frame j)) (job_frame j) 0 area
  frame_written (Ok h) a y area r after e refused =
      let k = a.asked y in
      let is : job_at h.nodes h.edges b.links ≡ j = stored_job k.held.stored ∙ list_read j y in
      e ∙ (λ i. written (sym (asked_number k) i) (job_frame (is i)) 0 area)
  frame_written (Err q) a y area r after e refused =
      untouched_written (number_of q) (job_frame j) (refusal_nonzero q) refused ∙
      ap (λ (n : ℕ). written n (job_frame j) 0 area) (sym (asked_number (a.asked y)))

-- ---- what was given of a list was accepted or refused

-- Where it was accepted, there are at most 256 links.
pub given_few :
    {nodes : ℕ} {list : ListCopy} {x : Result Header Refusal} {b : Arrays} →
    Given nodes list (λ n. refusal_in x ≡ n) (λ j. ListAccepted j x b) →
    IfOk x (λ h. h.edges ≤ 256)
given_few {nodes} {list} {x = Ok h} g =
    elim (ℕ_discrete (given_refusal nodes list) 0) [
      | yes z ↦
          let a = g.said z in
          ⊎_elim (λ y. few_links (a.asked y).held) (λ f. absurd (omega (arith, a.large f)))
          (truth (small (list_job nodes (take list.count list.links))))
      | no n ↦ absurd (n (sym (g.refused n)))
    ]
given_few {x = Err q} g = tt

module _ {nodes : ℕ} {list : ListCopy} {x : Result Header Refusal} {b : Arrays}
    (g : Given nodes list (λ n. refusal_in x ≡ n) (λ j. ListAccepted j x b)) where
  -- What is said of a refusal is said of one by the word or by the counts.
  early : (P : ℕ → Type 0) → IfErr x (λ q. P (number_of q)) → given_refusal nodes list ≢ 0 → P (given_refusal nodes list)
  early P refused n = subst P (g.refused n) (by_number x P refused (λ z. n (sym (g.refused n) ∙ z)))

  pub given_judged :
      (Judged : List ℕ → Result Bool Refusal → Type 0) (r : Result Bool Refusal) →
      ((s : List ℕ) → Asked s x b → Judged s r) →
      IfErr x (λ q. r ≡ Err q) →
      Given nodes list (λ n. refusal_in r ≡ n) (λ j. ListJudged j Judged r)
  given_judged Judged r said refused =
      let told = number_told x r refused in
      record {
        refused = early (λ n. refusal_in r ≡ n) told;
        said = λ z.
            let j = list_job nodes (take list.count list.links) in
            let a = g.said z in
            record { large = large_refused j (λ n. refusal_in r ≡ n) a told; said = λ y. said (job_frame j) (a.asked y) };
      }

  pub given_answered :
      (area : List ℕ) (r : Result ℕ Refusal) (after : List ℕ) →
      ((s : List ℕ) → Asked s x b → Answered s area r after) →
      IfErr x (λ q. Untouched (number_of q) area r after) →
      Given nodes list (λ n. Untouched n area r after) (λ j. ListAnswered j area r after)
  given_answered area r after said refused =
      record {
        refused = early (λ n. Untouched n area r after) refused;
        said = λ z.
            let j = list_job nodes (take list.count list.links) in
            let a = g.said z in
            record { large = large_refused j (λ n. Untouched n area r after) a refused; said = λ y. said (job_frame j) (a.asked y) };
      }

  pub given_located :
      (f : List ℕ) (e : ℕ) (place : Place) →
      ((s : List ℕ) → Asked s x b → CostLocated s f e place) →
      IfErr x (λ _. place ≡ nowhere) →
      Given nodes list (λ _. place ≡ nowhere) (λ j. ListCostLocated j f e place)
  given_located f e place said refused =
      record {
        refused = early (λ _. place ≡ nowhere) refused;
        said = λ z.
            let j = list_job nodes (take list.count list.links) in
            let a = g.said z in
            record { large = large_refused j (λ _. place ≡ nowhere) a refused; said = λ y. said (job_frame j) (a.asked y) };
      }

  pub given_written :
      (area : List ℕ) (r : Result ℕ Refusal) (after : List ℕ) →
      IfOk x (λ h. outcome r after ≡ written 0 (job_frame (job_at h.nodes h.edges b.links)) 0 area) →
      IfErr x (λ q. Untouched (number_of q) area r after) →
      Given nodes list (λ n. Untouched n area r after) (λ j. ListWritten j area r after)
  given_written area r after e refused =
      record {
        refused = early (λ n. Untouched n area r after) refused;
        said = λ z.
            let j = list_job nodes (take list.count list.links) in
            let a = g.said z in
            ⊎_elim (λ y. small_written j y area r after (frame_written j x a y area r after e refused))
            (λ f. large_written j f area r after (large_refused j (λ n. Untouched n area r after) a refused f)) (truth (small j));
      }
