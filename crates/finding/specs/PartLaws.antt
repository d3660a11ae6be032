-- The finders' parts are what they should be. Assumes nothing.
use Rattle.std.specs.Prelude.{ℕ, ◌+◌, ◌-◌, ◌<◌, ◌≤◌, ◌≡◌, refl, Bool, true, false, List, Result, Ok, Err, IfOk, IfErr, eqb, length, take, drop}
use Rattle.std.proofs.Common.{arith, ap, subst, ◌∙◌, ⊎_elim, eqb-true}
use Rattle.std.proofs.Math.Path.{sym}
use Rattle.std.proofs.lemmas.Bool.{eqb-false}
use Rattle.loops.specs.TestLaws.{truth, clash}
use Rattle.number.specs.Number.{Bytes}
use Rattle.frame.specs.Answers.{judge_answer}
use Rattle.frame.specs.AnswerMeaning.{AnswerOf}
use Rattle.frame.proofs.AnswerJudge.{answer_judged, certified_judged}
use Rattle.frame.specs.Questions.{job_of, refusal}
use Rattle.frame.specs.Services.{Place, nowhere, part_at}
use Rattle.frame.specs.Replies.{link_place, link_part, cost_place, cost_part}
use Rattle.frame.proofs.Accepted.{accepted, accepted_layout}
use Rattle.frame.proofs.Finders.{link_shown, link_refused, link_past, cost_nowhere_refused, cost_nowhere_past, cost_nowhere_judged}
use Rattle.frame.proofs.Finders.{cost_placed, cost_shown, cost_refused, cost_past, cost_judged_no}
use Rattle.job.specs.declared.Header.{Header}
use Rattle.job.specs.Reading.{Headed, Laid}
use Rattle.answer_read.specs.Costs.{CostIn, cost_place_in}
use Rattle.finding.specs.Parts.{LinkFound, CostFound, LinkLocated, CostLocated}
use Rattle.judging.specs.Verdicts.{AnswerJudged}
use Rattle.limits.specs.declared.Refusal.{Refusal}
use Rattle.limits.specs.Refusals.{refusal_in}
use Rattle.limits.specs.ResultLaws.{refusal_nonzero, same_ok}
use Rattle.frame.specs.Arrays.{Arrays}
use Rattle.accept.specs.Accepting.{Asked}
use Rattle.accept.specs.AskedLaws.{asked_number}

-- The part between a place's two ends.
pub between_ends :
    (P : List ℕ → Type 0) (s : List ℕ) (place : Place) →
    P (part_at place s) →
    P (take ((place.offset + place.size) - place.offset) (drop place.offset s))
between_ends P s place h =
    let size : (place.offset + place.size) - place.offset ≡ place.size = omega arith in
    subst (λ (n : ℕ). P (take n (drop place.offset s))) (sym size) h

-- The counts of an accepted frame are the reader's.
pub header_read : (s : List ℕ) (r : Result Header Refusal) → Headed (refusal s) (job_of s) r → IfOk r (λ h. Laid s h)
header_read s (Ok h) k = record { passed = accepted_layout s (sym k.number); counts = k.counts }
header_read s (Err q) k = tt

link_found : (s : List ℕ) → Bytes s → (e : ℕ) → LinkFound s e (link_part (refusal s) s e)
link_found s b e =
    record {
      is = refl;
      shown = λ z l. link_shown s e b z l;
      refused = λ n. link_refused (refusal s) s e n;
      past = λ z l. link_past s e b z l;
    }

pub link_located :
    (s : List ℕ) →
    Bytes s →
    (r : Result Header Refusal) →
    Headed (refusal s) (job_of s) r →
    (e : ℕ) (place : Place) →
    place ≡ link_place (refusal_in r) s e →
    place.offset + place.size ≤ length s →
    LinkLocated s e place
link_located s b r k e place p w =
    let is : place ≡ link_place (refusal s) s e = p ∙ ap (λ (r : ℕ). link_place r s e) k.number in
    record { is = is; within = w; found = subst (λ t. LinkFound s e (part_at t s)) (sym is) (link_found s b e) }

module _ (s f : List ℕ) (b : Bytes s) (q : Bytes f) (e : ℕ) where
  cost_found : CostFound s f e (cost_part s f e)
  cost_found =
      record {
        is = refl;
        shown = λ z l a c. cost_shown s f e a z l (certified_judged (job_of s) (accepted s b z) c) c.layout;
        refused = λ n. cost_refused s f e n;
        past = λ l. cost_past s f e l;
        no_answer =
            λ z n. cost_judged_no s f e (⊎_elim (λ y. absurd (n ((answer_judged (job_of s) (accepted s b z) f q).0 y))) (λ w. w)
            (truth (judge_answer (job_of s) f)));
      }

  cost_located : (place : Place) → place ≡ cost_place s f e → place.offset + place.size ≤ length f → CostLocated s f e place
  cost_located place is w = record { is = is; within = w; found = subst (λ t. CostFound s f e (part_at t f)) (sym is) cost_found }

  cost_nowhere : nowhere ≡ cost_place s f e → CostLocated s f e nowhere
  cost_nowhere is = cost_located nowhere is (omega arith)

  pub cost_unlinked : (refusal s ≡ 0 → length (job_of s).links ≤ e) → CostLocated s f e nowhere
  cost_unlinked past =
      cost_nowhere
      (⊎_elim (λ y. sym (cost_nowhere_past s f e (past (eqb-true _ _ y)))) (λ n. sym (cost_nowhere_refused s f e (eqb-false _ _ n)))
      (truth (eqb (refusal s) 0)))

  pub cost_refused_nowhere : (refusal s ≡ 0 → ⊥) → (place : Place) → place ≡ nowhere → CostLocated s f e place
  cost_refused_nowhere n place is = subst (λ t. CostLocated s f e t) (sym is) (cost_nowhere (sym (cost_nowhere_refused s f e n)))

  pub cost_unjudged : (r : Result Bool Refusal) → AnswerJudged s f r → (r ≡ Ok true → ⊥) → CostLocated s f e nowhere
  cost_unjudged r v n =
      let word : refusal s ≡ 0 → judge_answer (job_of s) f ≡ false
      = λ z. ⊎_elim (λ y. absurd (n (v.yes_means.1 (z, (answer_judged (job_of s) (accepted s b z) f q).0 y)))) (λ w. w) (truth (judge_answer (job_of s) f)) in
      cost_nowhere
      (⊎_elim (λ y. sym (cost_nowhere_judged s f e (word (eqb-true _ _ y)))) (λ w. sym (cost_nowhere_refused s f e (eqb-false _ _ w)))
      (truth (eqb (refusal s) 0)))

  pub cost_denied : AnswerJudged s f (Ok false) → CostLocated s f e nowhere
  cost_denied v = cost_unjudged (Ok false) v (λ y. clash {b = true} refl (sym (same_ok false true y)))

  -- Where the answer is judged yes and the link is there, its new cost is.
  module _ (inside : e < length (job_of s).links) (r : Result Bool Refusal) (v : AnswerJudged s f r) (yes : r ≡ Ok true) where
    pub cost_in : CostIn f e
    cost_in =
        let (_, (a, c)) = v.yes_means.0 yes in
        record { answer = a; layout = subst (λ (m : ℕ). AnswerOf m f a) (sym c.layout.count) c.layout; inside = omega (arith, inside, c.layout.count) }

    pub cost_handed : (cost : Place) → ((k : CostIn f e) → cost ≡ cost_place_in k.answer e) → cost.offset + cost.size ≤ length f → CostLocated s f e cost
    unfolding cost_in
    cost_handed cost is w =
        let (z, (a, c)) = v.yes_means.0 yes in
        cost_located cost (is cost_in ∙ sym (cost_placed s f e a z inside (certified_judged (job_of s) (accepted s b z) c) c.layout)) w

-- A finder that finds nowhere for a refusal and the cost of an accepted job has found for whatever it was handed.
pub cost_told :
    (f : List ℕ) → Bytes f → (e : ℕ) (a : Result Header Refusal) (b : Arrays) (place : Place) →
    IfOk a (λ h. (s : List ℕ) → Asked s (Ok h) b → CostLocated s f e place) →
    IfErr a (λ _. place ≡ nowhere) →
    (s : List ℕ) →
    Asked s a b →
    CostLocated s f e place
cost_told f q e (Ok h) b place said refused s k = said s k
cost_told f q e (Err d) b place said refused s k =
    cost_refused_nowhere s f k.bytes q e (λ z. refusal_nonzero d (sym (asked_number k) ∙ z)) place refused
