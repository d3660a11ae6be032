-- A reply by the definition is an answer in full or a refusal that wrote nothing. Assumes nothing.
use Rattle.std.specs.Prelude.{ℕ, ◌≡◌, List, Result, Ok, Err, IfOk, IfErr, take}
use Rattle.std.proofs.Common.{refl, sym, ap, subst, ◌∙◌}
use Rattle.number.specs.Number.{Bytes}
use Rattle.frame.specs.AnswerMeaning.{answer_frame}
use Rattle.frame.specs.Questions.{job_of, refusal}
use Rattle.frame.specs.Answers.{answer_of}
use Rattle.frame.specs.Replies.{answered}
use Rattle.frame.proofs.Form.{first_no}
use Rattle.frame.proofs.Accepted.{accepted}
use Rattle.frame.proofs.OwnAnswer.{own, own_layout, own_certified, own_judged, own_read}
use Rattle.frame.proofs.Outcomes.{served_of, served_none}
use Rattle.limits.specs.declared.Refusal.{Refusal}
use Rattle.limits.specs.Refusals.{number_of, refusal_in, size_in}
use Rattle.limits.specs.ResultLaws.{refusal_nonzero}
use Rattle.frame.specs.Arrays.{Arrays}
use Rattle.frame.specs.Services.{Served, written}
use Rattle.codec.specs.Numbers.{outcome, Told}
use Rattle.codec.specs.WritingLaws.{put_refused, told_as_is}
use Rattle.job.specs.declared.Header.{Header}
use Rattle.accept.specs.Accepting.{Asked}
use Rattle.accept.specs.AskedLaws.{asked_number}
use Rattle.answering.specs.Answering.{Delivered, Answered, Untouched}

-- The frame of the answer to an accepted job answers it.
delivered : (s : List ℕ) → Bytes s → refusal s ≡ 0 → Delivered s (answer_frame (answer_of (job_of s)))
delivered s b z =
    let j = job_of s in
    let a = accepted s b z in
    record {
      answer = answer_of j;
      layout = own_layout j a;
      demanded = own j a;
      certified = own_certified j a;
      judged = own_judged j a;
      reads = own_read j a;
    }

pub answered_of :
    (s area : List ℕ) → Bytes s → (r : Result ℕ Refusal) (after : List ℕ) → outcome r after ≡ answered s area → Answered s area r after
answered_of s area b r after e =
    let served = served_of (refusal s) (answer_frame (answer_of (job_of s))) area (outcome r after) e in
    record { served = served; first = first_no s b; done = whole r served }
  where
    whole :
        (r : Result ℕ Refusal) →
        Served (refusal s) (answer_frame (answer_of (job_of s))) area (outcome r after) →
        IfOk r (λ n. Delivered s (take n after))
    whole (Ok n) served = subst (Delivered s) (sym (served.front refl)) (delivered s b (served_none served refl))
    whole (Err q) served = tt

-- A refusal is an answer that wrote nothing.
refused_answered : (s area : List ℕ) → Bytes s → (q : Refusal) → refusal s ≡ number_of q → Answered s area (Err q) area
refused_answered s area b q told =
    let bytes = answer_frame (answer_of (job_of s)) in
    answered_of s area b (Err q) area
    (put_refused (number_of q) bytes 0 area (refusal_nonzero q) ∙ ap (λ (r : ℕ). written r bytes 0 area) (sym told))

-- An answerer that hands a refusal on and answers an accepted job has a reply to whatever it was handed.
pub answered_told :
    (a : Result Header Refusal) (b : Arrays) (area : List ℕ) (r : Result ℕ Refusal) (after : List ℕ) →
    IfOk a (λ h. (s : List ℕ) → Asked s (Ok h) b → Told (λ q e. e ≡ q) r (λ r. Answered s area r after)) →
    IfErr a (λ q. (r ≡ Err q) × (after ≡ area)) →
    (s : List ℕ) →
    Asked s a b →
    Answered s area r after
answered_told (Ok h) b area r after said refused s k = told_as_is r (λ r. Answered s area r after) (said s k)
answered_told (Err q) b area r after said (is, same) s k =
    subst (λ r. Answered s area r after) (sym is) (subst (Answered s area (Err q)) (sym same) (refused_answered s area k.bytes q (asked_number k)))

-- A refusal that is handed on leaves the area untouched.
pub untouched_told :
    (a : Result Header Refusal) (area : List ℕ) (r : Result ℕ Refusal) (after : List ℕ) →
    IfErr a (λ q. (r ≡ Err q) × (after ≡ area)) →
    IfErr a (λ q. Untouched (number_of q) area r after)
untouched_told (Ok h) area r after refused = tt
untouched_told (Err q) area r after (is, same) = record { number = ap refusal_in is; nothing = ap size_in is; same = same }
