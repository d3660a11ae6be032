-- The copying services by the steps of the code: what was read, and whether it fits. Assumes nothing.
use Rattle.std.specs.Prelude.{ℕ, ◌*◌, ◌<◌, ◌≤◌, ◌≡◌, refl, true, false, Option, Some, None, Result, Ok, Err, length, take}
use Rattle.std.proofs.Common.{arith, sym, ap, ◌∙◌, le-leb}
use mathlib.Core.List.{List, [], ◌∷◌, map, flat_map}
use Rattle.std.proofs.lemmas.List.Edits.{sets}
use Rattle.std.proofs.lemmas.Bool.{lt-leb}
use Rattle.limits.specs.declared.Refusal.{Refusal}
use Rattle.limits.specs.declared.Refusal.TheVariants.{Room}
use Rattle.limits.specs.ResultLaws.{refusal_nonzero}
use Rattle.frame.specs.Job.{JobLink, Job, fields}
use Rattle.frame.specs.Questions.{job_of, numbers, refusal}
use Rattle.frame.specs.Services.{Outcome}
use Rattle.frame.proofs.Accepted.{accepted, accepted_layout}
use Rattle.frame.proofs.AnswerLayout.{length_both}
use Rattle.frame.specs.Answers.{pair_from}
use Rattle.number.specs.Number.{Bytes}
use Rattle.loops.specs.GatherLaws.{length_tabulate}
use Rattle.job.specs.declared.Counts.{Counts}
use Rattle.job.specs.Reading.{counts_of}
use Rattle.job.specs.LayoutLaws.{counts_passed, counts_refused}
use Rattle.codec.specs.Numbers.{numbers_at}
use Rattle.codec.specs.Held.{pairs_at}
use Rattle.codec.specs.HeldLaws.{pair_numbers_lem}
use Rattle.codec.specs.WritingLaws.{put_refused, put_short, put_whole}
use Rattle.records.specs.declared.Link.{Link}
use Rattle.accept.specs.ListJobs.{job_link}
use Rattle.reading.specs.declared.JobRead.{JobRead}
use Rattle.reading.specs.declared.AnswerRead.{AnswerRead}
use Rattle.reading.specs.JobsRead.{JobGiven}
use Rattle.reading.specs.AnswersRead.{answer_of_read, AnswerGiven}
use Rattle.reading.specs.AnswerReadLaws.{pairs_most}
use Rattle.filling.specs.Filling.{link_numbers}
use Rattle.copying.specs.declared.AnswerCopy.{AnswerCopy}
use Rattle.copying.specs.Copies.{JobCopied, pair_numbers, fit, copy_of, answer_into, AnswerCopied}

-- ---- jobs

numbers_of : (ys : List Link) → link_numbers ys ≡ flat_map fields (map job_link ys)
unfolding flat_map
numbers_of [] = refl
numbers_of (y ∷ ys) = ap (λ (r : List ℕ). y.end1 ∷ y.end2 ∷ y.cost ∷ y.mark ∷ r) (numbers_of ys)

numbers_length : (ls : List JobLink) → length (flat_map fields ls) ≡ 4 * length ls
unfolding flat_map
numbers_length [] = refl
numbers_length (l ∷ ls) = omega (arith, numbers_length ls)

module _ (s room : List ℕ) where
  -- A frame that is refused.
  pub job_copy_refused : (q : Refusal) → JobGiven s (Err q) → JobCopied s room (Err q) room
  job_copy_refused q g =
      let e = put_refused (refusal s) (flat_map fields (job_of s).links) 0 room (λ z. refusal_nonzero q (g.number ∙ z)) in
      record { number = g.number ∙ ap (λ (o : Outcome). o.refusal) e; said = tt; links = ap (λ (o : Outcome). o.area) e; given = (_, g) }

  module _ (r : JobRead) (g : JobGiven s (Ok r)) where
    zero_refusal : refusal s ≡ 0
    zero_refusal = sym g.number

    count_is : r.count ≡ length (job_of s).links
    count_is = ap (λ (r : JobRead). r.count) g.said

    size : length (flat_map fields (job_of s).links) ≡ 4 * r.count
    size = numbers_length (job_of s).links ∙ ap (λ (m : ℕ). 4 * m) (sym count_is)

    pub job_few : Bytes s → r.count ≤ 256
    job_few b = omega (arith, count_is, (accepted s b zero_refusal).edge_limit)

    -- An array that is too short.
    pub job_unfit : length room < 4 * r.count → JobCopied s room (Err Room) room
    job_unfit l =
        let e = put_short (refusal s) (flat_map fields (job_of s).links) 0 room zero_refusal (omega (arith, l, size)) in
        record { number = ap (λ (o : Outcome). o.refusal) e; said = tt; links = ap (λ (o : Outcome). o.area) e; given = (_, g) }

    -- An array that is long enough.
    pub job_fit :
        4 * r.count ≤ length room →
        (after : List ℕ) →
        after ≡ sets room 0 (link_numbers (take r.count r.links)) →
        JobCopied s room (Ok (record { nodes = r.nodes; count = r.count })) after
    job_fit l after e =
        let xs = flat_map fields (job_of s).links in
        let same : link_numbers (take r.count r.links) ≡ xs = numbers_of (take r.count r.links) ∙
        ap (λ (j : Job). flat_map fields j.links) g.job in
        let w = put_whole (refusal s) xs 0 room after (length xs) zero_refusal (omega (arith, l, size)) refl
        (e ∙ ap (λ (xs : List ℕ). sets room 0 xs) same) in
        record {
          number = ap (λ (o : Outcome). o.refusal) w;
          said = λ i. record { nodes = ap (λ (r : JobRead). r.nodes) g.said i; count = count_is i };
          links = ap (λ (o : Outcome). o.area) w;
          given = (_, g);
        }

-- ---- answers

-- The counts of an accepted frame.
pub edges_of : (s : List ℕ) → Bytes s → (k : Counts) → Ok k ≡ counts_of (numbers s) → k.edges ≡ length (job_of s).links
edges_of s b k e = sym (counts_passed s b k e).edges

pub counts_there : (s : List ℕ) (q : Refusal) → Err q ≡ counts_of (numbers s) → refusal s ≡ 0 → ⊥
counts_there s q e z = refusal_nonzero q ((counts_refused s q e).number ∙ accepted_layout s z)

-- An answer that was read, put into arrays.
module _ (r : AnswerRead) (m : ℕ) (room₁ room₂ : List ℕ) where
  costs_size : length (numbers_at m r.costs) ≡ m
  costs_size = length_tabulate _ m

  pairs_size : length (pair_numbers (pairs_at r.count r.pairs)) ≡ 2 * r.count
  pairs_size = length_both _ ∙ ap (λ (k : ℕ). 2 * k) (length_tabulate _ r.count)

  -- An array that is too short.
  pub costs_short : length room₁ < m → copy_of (Err Room) room₁ room₂ ≡ answer_into (answer_of_read m r) room₁ room₂
  costs_short l =
      let unfit : fit (answer_of_read m r) room₁ room₂ ≡ false = rw
      (lt-leb (length (numbers_at m r.costs)) (length room₁) (omega (arith, l, costs_size))) refl in
      rw unfit refl

  pub pairs_short : m ≤ length room₁ → length room₂ < 2 * r.count → copy_of (Err Room) room₁ room₂ ≡ answer_into (answer_of_read m r) room₁ room₂
  pairs_short k l =
      let unfit : fit (answer_of_read m r) room₁ room₂ ≡ false
      = rw (
        le-leb (length (numbers_at m r.costs)) (length room₁) (omega (arith, k, costs_size)),
        lt-leb (length (pair_numbers (pairs_at r.count r.pairs))) (length room₂) (omega (arith, l, pairs_size)),
      ) refl in
      rw unfit refl

  -- Arrays that are long enough.
  pub answer_put :
      m ≤ length room₁ → 2 * r.count ≤ length room₂ → (after₁ after₂ : List ℕ)
      → after₁ ≡ sets room₁ 0 (numbers_at m r.costs)
      → after₂ ≡ sets room₂ 0 (numbers_at (2 * r.count) r.pairs)
      → copy_of (Ok (Some (record { steps = r.steps; costs = m; pairs = r.count }))) after₁ after₂ ≡ answer_into (answer_of_read m r) room₁ room₂
  answer_put k l after₁ after₂ e₁ e₂ =
      let ps = pairs_at r.count r.pairs in
      let fits : fit (answer_of_read m r) room₁ room₂ ≡ true
      = rw (
        le-leb (length (numbers_at m r.costs)) (length room₁) (omega (arith, k, costs_size)),
        le-leb (length (pair_numbers ps)) (length room₂) (omega (arith, l, pairs_size)),
      ) refl in
      let counts : _ ≡ length ps = sym (length_tabulate (pair_from r.pairs) r.count) in
      let second = e₂ ∙ ap (sets room₂ 0) (sym (pair_numbers_lem r.pairs r.count)) in
      rw fits
      (λ i. copy_of (Ok (Some (record { steps = r.steps; costs = sym costs_size i; pairs = counts i }))) (e₁ i) (second i))

module _ (s f room₁ room₂ : List ℕ) where
  -- A frame that is refused, and one that is judged no.
  pub copy_withheld : (q : Refusal) → AnswerGiven s f (Err q) → AnswerCopied s f room₁ room₂ (Err q) room₁ room₂
  copy_withheld q g = record { read = Err q; given = g; said = refl }

  pub copy_denied : AnswerGiven s f (Ok None) → AnswerCopied s f room₁ room₂ (Ok None) room₁ room₂
  copy_denied g = record { read = Ok None; given = g; said = refl }

  module _ (r : AnswerRead) (g : AnswerGiven s f (Ok (Some r))) where
    pub accepted_job : refusal s ≡ 0
    accepted_job = (g.judged.yes_means.0 refl).0

    -- What is read stands in arrays of 256 and of 128 places.
    pub answer_places : (length r.costs ≡ 256) × (length r.pairs ≡ 128)
    answer_places =
        let (a, _, is) = g.said in
        (ap (λ (r : AnswerRead). length r.costs) is ∙ length_tabulate _ 256, ap (λ (r : AnswerRead). length r.pairs) is ∙ length_tabulate _ 128)

    pub copied_pairs_few : Bytes s → r.count ≤ 64
    copied_pairs_few b =
        omega (arith, pairs_most (job_of s) (accepted s b accepted_job) g.answer, length_tabulate (pair_from r.pairs) r.count)

    module _ (m : ℕ) (e : m ≡ length (job_of s).links) where
      pub costs_few : Bytes s → m ≤ 256
      costs_few b = omega (arith, e, (accepted s b accepted_job).edge_limit)

      pub copied_as :
          (x : Result (Option AnswerCopy) Refusal) (after₁ after₂ : List ℕ) →
          copy_of x after₁ after₂ ≡ answer_into (answer_of_read m r) room₁ room₂ →
          AnswerCopied s f room₁ room₂ x after₁ after₂
      copied_as x after₁ after₂ t =
          record { read = Ok (Some r); given = g; said = t ∙ ap (λ (m : ℕ). answer_into (answer_of_read m r) room₁ room₂) e }

      -- An array that is too short.
      pub costs_unfit : length room₁ < m → AnswerCopied s f room₁ room₂ (Err Room) room₁ room₂
      costs_unfit l = copied_as (Err Room) room₁ room₂ (costs_short r m room₁ room₂ l)

      pub pairs_unfit : m ≤ length room₁ → length room₂ < 2 * r.count → AnswerCopied s f room₁ room₂ (Err Room) room₁ room₂
      pairs_unfit k l = copied_as (Err Room) room₁ room₂ (pairs_short r m room₁ room₂ k l)

      -- Arrays that are long enough.
      pub answer_fit :
          m ≤ length room₁ → 2 * r.count ≤ length room₂ → (after₁ after₂ : List ℕ)
          → after₁ ≡ sets room₁ 0 (numbers_at m r.costs)
          → after₂ ≡ sets room₂ 0 (numbers_at (2 * r.count) r.pairs)
          → AnswerCopied s f room₁ room₂ (Ok (Some (record { steps = r.steps; costs = m; pairs = r.count }))) after₁ after₂
      answer_fit k l after₁ after₂ e₁ e₂ = copied_as _ after₁ after₂ (answer_put r m room₁ room₂ k l after₁ after₂ e₁ e₂)
