-- What it means that a frame was copied, or was not: what the arrays hold, with what was behind, and what was read.
-- Assumes nothing.
use Rattle.std.specs.Prelude.{ℕ, zero, suc, ◌+◌, ◌≡◌, refl, true, false, Option, Some, None, Result, Ok, Err, leb, length, drop}
use Rattle.std.proofs.Common.{arith, sym, ap, ◌∙◌, ⊎_elim, leb-true}
use mathlib.Core.List.{List, ◌++◌, flat_map}
use Rattle.std.proofs.lemmas.List.Edits.{sets, sets-eq}
use Rattle.std.proofs.lemmas.Option.{none-some, same_Some}
use Rattle.loops.specs.TestLaws.{truth, and_first, and_second}
use Rattle.limits.specs.declared.Refusal.{Refusal}
use Rattle.limits.specs.declared.Refusal.TheVariants.{Room}
use Rattle.limits.specs.ResultLaws.{same_ok, ok-err, refusal_nonzero}
use Rattle.optimum.specs.Optimum.{Answer}
use Rattle.frame.specs.Job.{fields, job_frame}
use Rattle.frame.specs.Questions.{job_of, refusal}
use Rattle.frame.specs.Services.{written}
use Rattle.frame.specs.AnswerMeaning.{Certified}
use Rattle.reading.specs.declared.JobRead.{JobRead}
use Rattle.reading.specs.JobsRead.{JobGiven}
use Rattle.reading.specs.declared.AnswerRead.{AnswerRead}
use Rattle.reading.specs.AnswersRead.{answer_of_read, AnswerGiven}
use Rattle.copying.specs.declared.JobCopy.{JobCopy}
use Rattle.copying.specs.declared.AnswerCopy.{AnswerCopy}
use Rattle.copying.specs.Copies.{JobCopied, pair_numbers, fit, answer_copy, Copy, copy_of, copied, AnswerCopied}

-- Numbers in the first places of an array that has room for them, and behind them what it held.
front : (xs room : List ℕ) → leb (length xs) (length room) ≡ true → sets room 0 xs ≡ xs ++ drop (length xs) room
front xs room y =
    let none : 0 + length xs ≡ length xs = omega arith in
    sets-eq xs room 0 (omega (arith, leb-true (length xs) (length room) y)) ∙ ap (λ (k : ℕ). xs ++ drop k room) none

-- ---- jobs

-- A job that was copied.
pub record JobDone (s room : List ℕ) (r : JobCopy) (after : List ℕ) : Type 0 where
  pub accepted : refusal s ≡ 0
  pub nodes : r.nodes ≡ (job_of s).nodes
  pub count : r.count ≡ length (job_of s).links
  pub links : after ≡ flat_map fields (job_of s).links ++ drop (length (flat_map fields (job_of s).links)) room
  pub again : job_frame (job_of s) ≡ s

module _ (xs room : List ℕ) where
  fits : 0 + length xs ≡ length xs
  fits = omega arith

  written_done : (n : ℕ) → (written n xs 0 room).refusal ≡ 0 → (n ≡ 0) × ((written n xs 0 room).area ≡ xs ++ drop (length xs) room)
  written_done zero z =
      ⊎_elim
      (λ y. let enough : leb (length xs) (length room) ≡ true = sym (ap (λ (k : ℕ). leb k (length room)) fits) ∙ y in rw y (refl, front xs room enough))
      (λ n. let seven : (written 0 xs 0 room).refusal ≡ 7 = rw n refl in absurd (omega (arith, seven, z)))
      (truth (leb (0 + length xs) (length room)))
  written_done (suc n) z = absurd (omega (arith, z))

  written_undone : (n : ℕ) → ((written n xs 0 room).refusal ≡ 0 → ⊥) → (written n xs 0 room).area ≡ room
  written_undone zero u =
      ⊎_elim
      (λ y. let none : (written 0 xs 0 room).refusal ≡ 0 = rw y refl in absurd (u none))
      (λ n. rw n refl)
      (truth (leb (0 + length xs) (length room)))
  written_undone (suc n) u = refl

-- What was read of an accepted frame is its job, and written as a frame it is the frame.
read_again : (s : List ℕ) → refusal s ≡ 0 → (g : Result JobRead Refusal) → JobGiven s g → job_frame (job_of s) ≡ s
read_again s z (Ok g) k = ap job_frame (sym k.job) ∙ k.again
read_again s z (Err q) k = absurd (refusal_nonzero q (k.number ∙ z))

module _ (s room after : List ℕ) where
  pub job_done : (r : JobCopy) → JobCopied s room (Ok r) after → JobDone s room r after
  job_done r c =
      let (accepted, area) = written_done (flat_map fields (job_of s).links) room (refusal s) (sym c.number) in
      record {
        accepted = accepted;
        nodes = ap (λ (r : JobCopy). r.nodes) c.said;
        count = ap (λ (r : JobCopy). r.count) c.said;
        links = c.links ∙ area;
        again = read_again s accepted c.given.0 c.given.1;
      }

  pub job_undone : (q : Refusal) → JobCopied s room (Err q) after → after ≡ room
  job_undone q c =
      c.links ∙ written_undone (flat_map fields (job_of s).links) room (refusal s) (λ z. refusal_nonzero q (c.number ∙ z))

-- ---- answers

-- An answer that was copied.
pub record AnswerDone (s f room₁ room₂ : List ℕ) (r : AnswerCopy) (after₁ after₂ : List ℕ) : Type 0 where
  pub answer : Answer
  pub certified : Certified (job_of s) f answer
  pub said : r ≡ answer_copy answer
  pub costs : after₁ ≡ answer.costs ++ drop (length answer.costs) room₁
  pub pairs : after₂ ≡ pair_numbers answer.pairs ++ drop (length (pair_numbers answer.pairs)) room₂

module _ (s f room₁ room₂ after₁ after₂ : List ℕ) where
  abbrev links : ℕ
  links = length (job_of s).links

  done_of :
      (r : AnswerCopy) (read : Result (Option AnswerRead) Refusal) →
      AnswerGiven s f read →
      copy_of (Ok (Some r)) after₁ after₂ ≡ copied links read room₁ room₂ →
      AnswerDone s f room₁ room₂ r after₁ after₂
  done_of r (Ok (Some g)) k e =
      let a = answer_of_read links g in
      ⊎_elim
      (λ (y : fit a room₁ room₂ ≡ true).
      let whole : copy_of (Ok (Some r)) after₁ after₂ ≡ copy_of (Ok (Some (answer_copy a))) (sets room₁ 0 a.costs) (sets room₂ 0 (pair_numbers a.pairs))
      = rw y at e in
      record {
        answer = a;
        certified = k.answer;
        said = same_Some _ _ (same_ok _ _ (ap (λ (c : Copy). c.said) whole));
        costs = ap (λ (c : Copy). c.costs) whole ∙ front a.costs room₁ (and_first (leb (length a.costs) (length room₁)) _ y);
        pairs = ap (λ (c : Copy). c.pairs) whole ∙ front (pair_numbers a.pairs) room₂ (and_second (leb (length a.costs) (length room₁)) _ y);
      })
      (λ (n : fit a room₁ room₂ ≡ false).
      let short : copy_of (Ok (Some r)) after₁ after₂ ≡ copy_of (Err Room) room₁ room₂ = rw n at e in
      absurd (ok-err _ Room (ap (λ (c : Copy). c.said) short)))
      (truth (fit a room₁ room₂))
  done_of r (Ok None) k e = absurd (none-some r (sym (same_ok _ _ (ap (λ (c : Copy). c.said) e))))
  done_of r (Err q) k e = absurd (ok-err _ q (ap (λ (c : Copy). c.said) e))

  pub answer_done : (r : AnswerCopy) → AnswerCopied s f room₁ room₂ (Ok (Some r)) after₁ after₂ → AnswerDone s f room₁ room₂ r after₁ after₂
  answer_done r c = done_of r c.read c.given c.said

  -- Whatever else is said, the arrays stay.
  undone_of :
      (read : Result (Option AnswerRead) Refusal) (r : Result (Option AnswerCopy) Refusal) →
      ((x : AnswerCopy) → r ≡ Ok (Some x) → ⊥) →
      copy_of r after₁ after₂ ≡ copied links read room₁ room₂ →
      (after₁ ≡ room₁) × (after₂ ≡ room₂)
  undone_of (Ok (Some g)) r n e =
      let a = answer_of_read links g in
      ⊎_elim
      (λ (y : fit a room₁ room₂ ≡ true).
      let whole : copy_of r after₁ after₂ ≡ copy_of (Ok (Some (answer_copy a))) (sets room₁ 0 a.costs) (sets room₂ 0 (pair_numbers a.pairs))
      = rw y at e in
      absurd (n (answer_copy a) (ap (λ (c : Copy). c.said) whole)))
      (λ (m : fit a room₁ room₂ ≡ false).
      let short : copy_of r after₁ after₂ ≡ copy_of (Err Room) room₁ room₂ = rw m at e in
      (ap (λ (c : Copy). c.costs) short, ap (λ (c : Copy). c.pairs) short))
      (truth (fit a room₁ room₂))
  undone_of (Ok None) r n e = (ap (λ (c : Copy). c.costs) e, ap (λ (c : Copy). c.pairs) e)
  undone_of (Err q) r n e = (ap (λ (c : Copy). c.costs) e, ap (λ (c : Copy). c.pairs) e)

  pub answer_undone :
      (r : Result (Option AnswerCopy) Refusal) →
      ((x : AnswerCopy) → r ≡ Ok (Some x) → ⊥) →
      AnswerCopied s f room₁ room₂ r after₁ after₂ →
      (after₁ ≡ room₁) × (after₂ ≡ room₂)
  answer_undone r n c = undone_of c.read r n c.said
