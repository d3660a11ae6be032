-- An answer read into arrays of zeros stands there whole, and is the answer that the frame holds. Assumes nothing.
use Rattle.std.specs.Prelude.{ℕ, zero, suc, ◌+◌, ◌*◌, ◌<◌, ◌≤◌, ◌≡◌, refl, Bool, true, false, Option, Some, None, Result, Ok, Err, length, get_or}
use Rattle.std.proofs.Math.Decide.{dec_lt}
use Rattle.std.proofs.Common.{arith, sym, ap, subst, ◌∙◌, ext_get_or}
use mathlib.Core.List.{List, [], ◌∷◌, flat_map}
use Rattle.std.proofs.Math.Option.{some}
use Rattle.std.proofs.Math.Option as maybe
use Rattle.std.proofs.Math.ListN.{get_or-eq_default}
use Rattle.loops.specs.Loop.{tabulate}
use Rattle.loops.specs.GatherLaws.{length_tabulate, get_d_tabulate}
use Rattle.optimum.specs.Optimum.{Pair, both, Answer}
use Rattle.optimum.specs.PairLaws.{rising_count}
use Rattle.number.specs.Number.{Bytes}
use Rattle.frame.specs.Job.{Job, tree_of}
use Rattle.frame.specs.Questions.{job_of, refusal}
use Rattle.frame.specs.Answers.{no_pair, pair_from, read_answer, judge_answer}
use Rattle.frame.specs.Meaning.{Accepted}
use Rattle.frame.proofs.Accepted.{accepted}
use Rattle.frame.specs.AnswerMeaning.{Certified}
use Rattle.frame.proofs.AnswerLayout.{layout_read}
use Rattle.links.specs.ColumnLaws.{zeros, zero_at}
use Rattle.codec.specs.Numbers.{numbers_at}
use Rattle.codec.specs.Held.{pairs_at, answer_at}
use Rattle.codec.specs.HeldLaws.{pair_numbers_lem}
use Rattle.answer_read.specs.declared.Contents.{Contents}
use Rattle.answer_read.specs.Reading.{contents, few, Behind}
use Rattle.answer_read.specs.AnswerLaws.{found_answer, missed_answer}
use Rattle.limits.specs.declared.Refusal.{Refusal}
use Rattle.judging.specs.Verdicts.{Verdict, AnswerJudged}
use Rattle.judging.proofs.VerdictLaws.{answer_judged_of}
use Rattle.reading.specs.AnswersRead.{answer_read, read_of, answer_of_read, AnswerGiven}
use Rattle.reading.specs.declared.AnswerRead.{AnswerRead}

-- An array that agrees with f at the first m places and says 0 behind them.
whole : (n : ℕ) (xs : List ℕ) (f : ℕ → ℕ) → length xs ≡ n → ((i : ℕ) → i < n → get_or xs i 0 ≡ f i) → xs ≡ tabulate n f
whole n xs f size h =
    ext_get_or 0 xs (tabulate n f) (size ∙ sym (length_tabulate f n))
    λ i l. let k : i < n = omega (arith, size) in h i k ∙ sym (get_d_tabulate f n i 0 k)

-- The first m numbers of a list of n, zeros behind them.
padded : (n m : ℕ) (xs : List ℕ) → length xs ≡ n → ((i : ℕ) → m ≤ i → get_or xs i 0 ≡ get_or (zeros n) i 0) → xs ≡ numbers_at n (numbers_at m xs)
padded n m xs size past =
    whole n xs (λ i. get_or (numbers_at m xs) i 0) size
    λ i _.
    elim (dec_lt i m) [
      | yes l ↦ sym (get_d_tabulate (λ i. get_or xs i 0) m i 0 l)
      | no l ↦
          past i (omega arith) ∙ zero_at n i ∙
          sym (get_or-eq_default (numbers_at m xs) 0 (omega (arith, length_tabulate (λ i. get_or xs i 0) m)))
    ]

-- The arrays are those of the answer that stands in them.
arrays_read :
    (m : ℕ) (r : Contents) (cs ps : List ℕ) → Behind m r.count (zeros 256) cs (zeros 128) ps →
    record { steps = r.steps; costs = cs; count = r.count; pairs = ps } ≡ answer_read (answer_at r.steps m cs r.count ps)
arrays_read m r cs ps k i =
    record {
      steps = r.steps;
      costs = padded 256 m cs k.places.costs k.costs i;
      count = sym (length_tabulate (pair_from ps) r.count) i;
      pairs = (padded 128 (2 * r.count) ps k.places.pairs k.pairs ∙ ap (numbers_at 128) (sym (pair_numbers_lem ps r.count))) i;
    }

-- A frame that holds an answer of at most 64 pairs is read.
module _ (m : ℕ) (cs ps : List ℕ) (o : maybe.Option Answer) (a : Answer) (is : o ≡ some a) (most : length a.pairs ≤ 64) where
  pub contents_missed : contents m None cs ps ≡ few o → ⊥
  contents_missed e = omega (arith, most, missed_answer m cs ps o e a is)

  pub contents_read :
      (r : Contents) →
      contents m (Some r) cs ps ≡ few o →
      Behind m r.count (zeros 256) cs (zeros 128) ps →
      record { steps = r.steps; costs = cs; count = r.count; pairs = ps } ≡ answer_read a
  contents_read r e kept =
      let same : answer_at r.steps m cs r.count ps ≡ a = cc (found_answer m cs ps r o e, is) in
      arrays_read m r cs ps kept ∙ ap answer_read same

-- ---- what is read of a frame

-- The arrays of an answer that they hold whole are read back as the answer.
numbers_back : (n : ℕ) (xs : List ℕ) → length xs ≤ n → tabulate (length xs) (λ e. get_or (tabulate n (λ e. get_or xs e 0)) e 0) ≡ xs
numbers_back n xs h =
    sym
    (whole (length xs) xs (λ e. get_or (tabulate n (λ e. get_or xs e 0)) e 0) refl
    λ e l. sym (get_d_tabulate (λ e. get_or xs e 0) n e 0 (omega (arith, l, h))))

pair_of : (qs : List Pair) (i : ℕ) → pair_from (flat_map both qs) i ≡ get_or qs i no_pair
unfolding flat_map
pair_of [] i = refl
pair_of (q ∷ qs) zero = refl
pair_of (q ∷ qs) (suc i) =
    let first : 2 * suc i ≡ suc (suc (2 * i)) = omega arith in
    let second : suc (suc (2 * i)) + 1 ≡ suc (suc (2 * i + 1)) = omega arith in
    rw (first, second) (pair_of qs i)

pub pairs_back : (n : ℕ) (qs : List Pair) → 2 * length qs ≤ n → pairs_at (length qs) (numbers_at n (flat_map both qs)) ≡ qs
pairs_back n qs h =
    let f : ℕ → Pair = pair_from (numbers_at n (flat_map both qs)) in
    let number : (k : ℕ) → k < 2 * length qs → get_or (numbers_at n (flat_map both qs)) k 0 ≡ get_or (flat_map both qs) k 0
    = λ k l. get_d_tabulate (λ k. get_or (flat_map both qs) k 0) n k 0 (omega (arith, l, h)) in
    ext_get_or no_pair (tabulate (length qs) f) qs (length_tabulate f (length qs))
    λ i l.
    let k : i < length qs = omega (arith, length_tabulate f (length qs)) in
    get_d_tabulate f (length qs) i no_pair k ∙
    (λ x. record { tree = number (2 * i) (omega (arith, k)) x; spare = number (2 * i + 1) (omega (arith, k)) x }) ∙
    pair_of qs i

answer_back : (m : ℕ) (a : Answer) → length a.costs ≡ m → m ≤ 256 → length a.pairs ≤ 64 → answer_of_read m (answer_read a) ≡ a
answer_back m a size few most =
    let costs : tabulate m (λ e. get_or (tabulate 256 (λ e. get_or a.costs e 0)) e 0) ≡ a.costs
    = subst (λ (k : ℕ). tabulate k (λ e. get_or (tabulate 256 (λ e. get_or a.costs e 0)) e 0) ≡ a.costs) size
    (numbers_back 256 a.costs (omega (arith, size, few))) in
    λ i. record { steps = a.steps; costs = costs i; pairs = pairs_back 128 a.pairs (omega (arith, most)) i }

-- An answer that proves itself best has at most 63 pairs: no more than there are tree links.
pub pairs_most : (j : Job) → Accepted j → {f : List ℕ} {a : Answer} → Certified j f a → length a.pairs ≤ 64
pairs_most j k {a = a} c =
    let cert = c.certificate in
    omega (
      arith,
      rising_count (length j.links) (tree_of j) a.pairs cert.rising
          (λ q m. ((cert.matching.pairs q m).tree_below, (cert.matching.pairs q m).tree_in)),
      k.tree.size,
      k.node_limit,
    )

-- What is read of a frame that is judged yes.
module _ (s f : List ℕ) (b : Bytes s) (v : AnswerJudged s f (Ok true)) where
  -- It holds an answer that proves itself best.
  pub answer_there : (a : Answer) × Certified (job_of s) f a
  answer_there = (v.yes_means.0 refl).1

  pub held_read : read_answer (length (job_of s).links) f ≡ some answer_there.0
  held_read = layout_read answer_there.1.layout

  pub held_few : length answer_there.0.pairs ≤ 64
  held_few = pairs_most (job_of s) (accepted s b (v.yes_means.0 refl).0) answer_there.1

  pub answer_shown : (g : AnswerRead) → g ≡ answer_read answer_there.0 → AnswerGiven s f (Ok (Some g))
  answer_shown g is =
      let m = length (job_of s).links in
      let k = accepted s b (v.yes_means.0 refl).0 in
      let back = answer_back m answer_there.0 answer_there.1.layout.count k.edge_limit held_few in
      let same : answer_of_read m g ≡ answer_there.0 = ap (answer_of_read m) is ∙ back in
      let certified : Certified (job_of s) f (answer_of_read m g) = subst (λ (w : Answer). Certified (job_of s) f w) (sym same) answer_there.1 in
      record { judged = v; said = (answer_there.0, held_read, is); answer = certified; again = certified.layout.joined }

-- Of any other nothing is read.
pub answer_denied : (s f : List ℕ) → AnswerJudged s f (Ok false) → AnswerGiven s f (Ok None)
answer_denied s f v = record { judged = v; said = tt; answer = tt; again = tt }

pub answer_withheld : (s f : List ℕ) (q : Refusal) → AnswerJudged s f (Err q) → AnswerGiven s f (Err q)
answer_withheld s f q v = record { judged = v; said = tt; answer = tt; again = tt }

-- What is read of any frame that is offered, by the verdict on it and by what it holds.
module _ (s f : List ℕ) (b : Bytes s) (q : Bytes f) where
  pub answer_given :
      (v : Result Bool Refusal) (r : Result (Option AnswerRead) Refusal) →
      Verdict (refusal s) (judge_answer (job_of s) f) v →
      r ≡ read_of v (read_answer (length (job_of s).links) f) →
      AnswerGiven s f r
  unfolding read_of
  answer_given (Ok true) r e is = let v = answer_judged_of s b f q (Ok true) e in rw (is, held_read s f b v) (answer_shown s f b v _ refl)
  answer_given (Ok false) r e is = rw is (answer_denied s f (answer_judged_of s b f q (Ok false) e))
  answer_given (Err x) r e is = rw is (answer_withheld s f x (answer_judged_of s b f q (Err x) e))
