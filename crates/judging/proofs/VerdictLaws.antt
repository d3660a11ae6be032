-- A verdict by the definition means what it should. Assumes nothing.
use Rattle.std.specs.Prelude.{ℕ, ◌≡◌, refl, ◌↔◌, Bool, true, false, List, Result, Ok, Err, IfOk, IfErr, IsOkAnd}
use Rattle.std.proofs.Common.{sym, ap, subst, ◌∙◌, ⊎_elim}
use Rattle.loops.specs.TestLaws.{truth, clash}
use Rattle.limits.specs.declared.Refusal.{Refusal}
use Rattle.limits.specs.Refusals.{number_of, refusal_in}
use Rattle.limits.specs.ResultLaws.{same_ok, ok-err, refusal_nonzero}
use Rattle.number.specs.Number.{Bytes}
use Rattle.frame.specs.Questions.{job_of, refusal}
use Rattle.frame.specs.Answers.{judge_tree, judge_answer}
use Rattle.frame.proofs.Form.{first_no}
use Rattle.frame.proofs.Accepted.{accepted}
use Rattle.frame.proofs.AnswerJudge.{tree_judged, answer_judged}
use Rattle.frame.specs.Arrays.{Arrays}
use Rattle.job.specs.declared.Header.{Header}
use Rattle.accept.specs.Accepting.{Asked}
use Rattle.accept.specs.AskedLaws.{asked_number}
use Rattle.judging.specs.Verdicts.{Verdict, VerdictOn, TreeJudged, AnswerJudged}

-- A word that is true exactly if P holds is false exactly if it does not.
word_no : {P : Type 0} (word : Bool) → (word ≡ true) ↔ P → (word ≡ false) ↔ (P → ⊥)
word_no word means = (λ n p. clash (means.1 p) n, λ q. ⊎_elim (λ y. absurd (q (means.0 y))) (λ n. n) (truth word))

module _ (s : List ℕ) (b : Bytes s) where
  verdict_of :
      {P : Type 0} (word : Bool) →
      (refusal s ≡ 0 → (word ≡ true) ↔ P) →
      (r : Result Bool Refusal) →
      Verdict (refusal s) word r →
      VerdictOn s word P r
  verdict_of word means (Ok w) e =
      record {
        said = e;
        first = first_no s b;
        yes_means = (
          λ y. (sym e.number, (means (sym e.number)).0 (sym e.word_is ∙ same_ok w true y)),
          λ h. ap Ok (e.word_is ∙ (means h.0).1 h.1),
        );
        no_means = (
          λ y. (sym e.number, (word_no word (means (sym e.number))).0 (sym e.word_is ∙ same_ok w false y)),
          λ h. ap Ok (e.word_is ∙ (word_no word (means h.0)).1 h.1),
        );
      }
  verdict_of word means (Err q) e =
      record {
        said = e;
        first = first_no s b;
        yes_means = (λ y. absurd (ok-err true q (sym y)), λ h. absurd (refusal_nonzero q (e.number ∙ h.0)));
        no_means = (λ y. absurd (ok-err false q (sym y)), λ h. absurd (refusal_nonzero q (e.number ∙ h.0)));
      }

  pub tree_judged_of : (r : Result Bool Refusal) → Verdict (refusal s) (judge_tree (job_of s)) r → TreeJudged s r
  tree_judged_of = verdict_of (judge_tree (job_of s)) (λ z. tree_judged (job_of s) (accepted s b z))

  pub answer_judged_of : (f : List ℕ) → Bytes f → (r : Result Bool Refusal) → Verdict (refusal s) (judge_answer (job_of s) f) r → AnswerJudged s f r
  answer_judged_of f q = verdict_of (judge_answer (job_of s) f) (λ z. answer_judged (job_of s) (accepted s b z) f q)

-- A judge that says yes was not handed a refusal.
pub yes_accepted : {T : Type 0} (a : Result T Refusal) (r : Result Bool Refusal) → IfErr a (λ q. r ≡ Err q) → r ≡ Ok true → refusal_in a ≡ 0
yes_accepted (Ok x) r refused y = refl
yes_accepted (Err q) r refused y = absurd (ok-err true q (sym y ∙ refused))

-- A refusal is a verdict, whatever would be claimed of an accepted job.
pub refused_judged : (s : List ℕ) → Bytes s → (word : Bool) (P : Type 0) (q : Refusal) → refusal s ≡ number_of q → VerdictOn s word P (Err q)
refused_judged s b word P q e =
    record {
      said = record { number = sym e; word_is = tt };
      first = first_no s b;
      yes_means = (λ y. absurd (ok-err true q (sym y)), λ h. absurd (refusal_nonzero q (sym e ∙ h.0)));
      no_means = (λ y. absurd (ok-err false q (sym y)), λ h. absurd (refusal_nonzero q (sym e ∙ h.0)));
    }

-- A judge that hands a refusal on and judges an accepted job has a verdict on whatever it was handed.
told :
    (Judged : List ℕ → Result Bool Refusal → Type 0) →
    ((s : List ℕ) (q : Refusal) → Bytes s → refusal s ≡ number_of q → Judged s (Err q)) →
    (a : Result Header Refusal) (b : Arrays) (r : Result Bool Refusal) →
    IfOk a (λ h. (s : List ℕ) → Asked s (Ok h) b → IsOkAnd r (λ w. Judged s (Ok w))) →
    IfErr a (λ q. r ≡ Err q) →
    (s : List ℕ) →
    Asked s a b →
    Judged s r
told Judged handed (Ok h) b (Ok w) said refused s k = said s k
told Judged handed (Ok h) b (Err q) said refused s k = absurd (said s k)
told Judged handed (Err q) b r said refused s k = subst (Judged s) (sym refused) (handed s q k.bytes (asked_number k))

pub tree_told :
    (a : Result Header Refusal) (b : Arrays) (r : Result Bool Refusal) →
    IfOk a (λ h. (s : List ℕ) → Asked s (Ok h) b → IsOkAnd r (λ w. TreeJudged s (Ok w))) →
    IfErr a (λ q. r ≡ Err q) →
    (s : List ℕ) →
    Asked s a b →
    TreeJudged s r
tree_told = told TreeJudged (λ s q bytes e. refused_judged s bytes _ _ q e)

pub answer_told :
    (f : List ℕ) (a : Result Header Refusal) (b : Arrays) (r : Result Bool Refusal) →
    IfOk a (λ h. (s : List ℕ) → Asked s (Ok h) b → IsOkAnd r (λ w. AnswerJudged s f (Ok w))) →
    IfErr a (λ q. r ≡ Err q) →
    (s : List ℕ) →
    Asked s a b →
    AnswerJudged s f r
answer_told f = told (λ s. AnswerJudged s f) (λ s q bytes e. refused_judged s bytes _ _ q e)
