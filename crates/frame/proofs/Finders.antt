-- The two finders: which bytes they hand back, and when the part is empty. Assumes nothing.
use Rattle.std.specs.Prelude.{ℕ, zero, suc, ◌+◌, ◌*◌, ◌<◌, ◌≤◌, ◌≡◌, refl, ◌≢◌, true, false, ◌&&◌, ltb, eqb, length, get_or, take, drop}
use Rattle.std.proofs.Common.{arith, sym, subst, ap, ◌∙◌, take-append-drop, lt-ltb, le-ltb, eq-eqb, ne_eqb}
use Rattle.std.proofs.Math.Bool.{and-false}
use mathlib.Core.List.{List, [], ◌∷◌, ◌++◌, flat_map, append_assoc}
use Rattle.std.proofs.Math.Option
use Rattle.std.proofs.Math.Seq.{take-append_seam, drop-append_seam, split_at}
use Rattle.number.specs.Number.{Bytes, encode}
use Rattle.optimum.specs.Optimum.{both, Answer}
use Rattle.frame.specs.Job.{JobLink, Job, no_link, link, fields, job_numbers, bytes_of, job_frame}
use Rattle.limits.specs.Limits.{number_bytes, step_bytes}
use Rattle.frame.specs.Questions.{numbers, job_of, refusal}
use Rattle.frame.specs.Meaning.{edge_count}
use Rattle.frame.specs.Answers.{read_answer, judge_answer}
use Rattle.frame.specs.Services.{Place, link_offset, link_length, nowhere, part_at, cost_offset, cost_length}
use Rattle.frame.specs.Replies.{place_when, link_place, link_part, no_answer, cost_place, cost_part}
use Rattle.frame.proofs.Division.{division}
use Rattle.frame.proofs.RoundTrip.{flat_map_append}
use Rattle.frame.proofs.Accepted.{accepted, write_read6}
use Rattle.frame.specs.AnswerMeaning.{AnswerOf, answer_numbers, answer_frame}
use Rattle.frame.proofs.AnswerLayout.{layout_read}

-- What stands behind xs and before zs.
between : {A : Type 0} (xs ys zs : List A) → take (length ys) (drop (length xs) (xs ++ (ys ++ zs))) ≡ ys
between xs ys zs = rw drop-append_seam (take-append_seam ys zs)

-- ---- links

-- The four numbers of a link stand at its place.
link_numbers_lem : (ls : List JobLink) (e : ℕ) → e < length ls → take 4 (drop (4 * e) (flat_map fields ls)) ≡ fields (get_or ls e no_link)
unfolding flat_map
link_numbers_lem [] e l = absurd (omega arith)
link_numbers_lem (k ∷ ls) zero l = refl
link_numbers_lem (k ∷ ls) (suc e) l =
    let four : 4 * suc e ≡ suc (suc (suc (suc (4 * e)))) = omega arith in
    rw four (link_numbers_lem ls e (omega arith))

-- The bytes of n numbers stand behind those of the numbers before them.
numbers_between :
    (ns : List ℕ) (k n : ℕ) →
    take (length (bytes_of (take n (drop k ns)))) (drop (length (bytes_of (take k ns))) (bytes_of ns)) ≡ bytes_of (take n (drop k ns))
numbers_between ns k n =
    let front : bytes_of ns ≡ bytes_of (take k ns) ++ bytes_of (drop k ns) = ap bytes_of (sym (take-append-drop k ns)) ∙
    flat_map_append (encode number_bytes) (take k ns) (drop k ns) in
    let rest : bytes_of (drop k ns) ≡ bytes_of (take n (drop k ns)) ++ bytes_of (drop n (drop k ns)) = ap bytes_of (sym (take-append-drop n (drop k ns))) ∙
    flat_map_append (encode number_bytes) (take n (drop k ns)) (drop n (drop k ns)) in
    subst (λ f. take (length (bytes_of (take n (drop k ns)))) (drop (length (bytes_of (take k ns))) f) ≡ bytes_of (take n (drop k ns)))
    (sym (front ∙ ap (λ t. bytes_of (take k ns) ++ t) rest))
    (between (bytes_of (take k ns)) (bytes_of (take n (drop k ns))) (bytes_of (drop n (drop k ns))))

link_found :
    (j : Job) (e : ℕ) →
    e < length j.links →
    take (link_length (job_numbers j) e) (drop (link_offset (job_numbers j) e) (job_frame j)) ≡ bytes_of (fields (link j e))
link_found j e l =
    let two : 4 * e + 2 ≡ suc (suc (4 * e)) = omega arith in
    numbers_between (job_numbers j) (4 * e + 2) 4
    ∙ ap (λ k. bytes_of (take 4 (drop k (job_numbers j)))) two
    ∙ ap bytes_of (link_numbers_lem j.links e l)

-- The numbers of an accepted frame are those of its job.
accepted_numbers : (s : List ℕ) → Bytes s → refusal s ≡ 0 → Option.get_or (numbers s) [] ≡ job_numbers (job_of s)
accepted_numbers s h r =
    ap (λ o. Option.get_or o [])
    ((division s (job_numbers (job_of s)) h).1 (record { small = (accepted s h r).small; joined = write_read6 s h r }))

-- A link's place where the numbers are ns.
place_in : ℕ → ℕ → List ℕ → Place
place_in refused e ns = place_when (eqb refused 0 && ltb e (edge_count ns)) (link_offset ns e) (link_length ns e)

-- The link finder hands back the bytes of the link's four numbers.
pub link_shown : (s : List ℕ) (e : ℕ) → Bytes s → refusal s ≡ 0 → e < length (job_of s).links
    → link_part (refusal s) s e ≡ bytes_of (fields (link (job_of s) e))
unfolding place_in
link_shown s e h r l =
    ap (λ ns. part_at (place_in (refusal s) e ns) s) (accepted_numbers s h r)
    ∙ rw (eq-eqb (refusal s) 0 r, lt-ltb e (length (job_of s).links) l)
    (subst (λ f. take (link_length (job_numbers (job_of s)) e) (drop (link_offset (job_numbers (job_of s)) e) f) ≡ bytes_of (fields (link (job_of s) e)))
    (write_read6 s h r) (link_found (job_of s) e l))

-- A link has no place if the job is refused, or the link number is not below the link count; its part is then empty.
pub link_nowhere_refused : (r : ℕ) (s : List ℕ) (e : ℕ) → r ≢ 0 → link_place r s e ≡ nowhere
link_nowhere_refused r s e h = rw (ne_eqb r 0 h)

pub link_nowhere_past : (s : List ℕ) (e : ℕ) → Bytes s → refusal s ≡ 0 → length (job_of s).links ≤ e → link_place (refusal s) s e ≡ nowhere
unfolding place_in
link_nowhere_past s e h r l =
    ap (place_in (refusal s) e) (accepted_numbers s h r)
    ∙ rw (eq-eqb (refusal s) 0 r, le-ltb e (length (job_of s).links) l)

pub link_refused : (r : ℕ) (s : List ℕ) (e : ℕ) → r ≢ 0 → link_part r s e ≡ []
link_refused r s e h = ap (λ p. part_at p s) (link_nowhere_refused r s e h)

pub link_past : (s : List ℕ) (e : ℕ) → Bytes s → refusal s ≡ 0 → length (job_of s).links ≤ e → link_part (refusal s) s e ≡ []
link_past s e h r l = ap (λ p. part_at p s) (link_nowhere_past s e h r l)

-- ---- costs

cost_found :
    (a : Answer) (e : ℕ) →
    e < length a.costs →
    take (cost_length a e) (drop (cost_offset a e) (answer_frame a)) ≡ encode number_bytes (get_or a.costs e 0)
unfolding flat_map
cost_found a e l =
    let rest : List ℕ = drop (suc e) a.costs ++ length a.pairs ∷ flat_map both a.pairs in
    let parts : answer_numbers a ≡ take e a.costs ++ get_or a.costs e 0 ∷ rest = ap (λ t. t ++ length a.pairs ∷ flat_map both a.pairs)
    (split_at a.costs e 0 l) ∙ append_assoc (take e a.costs) (get_or a.costs e 0 ∷ drop (suc e) a.costs)
    (length a.pairs ∷ flat_map both a.pairs) in
    let frame : answer_frame a ≡ (encode step_bytes a.steps ++ bytes_of (take e a.costs)) ++ (encode number_bytes (get_or a.costs e 0) ++ bytes_of rest) = ap
    (λ t. encode step_bytes a.steps ++ t) (ap bytes_of parts ∙ flat_map_append (encode number_bytes) (take e a.costs) (get_or a.costs e 0 ∷ rest)) ∙
    sym (append_assoc (encode step_bytes a.steps) (bytes_of (take e a.costs)) (bytes_of (get_or a.costs e 0 ∷ rest))) in
    ap (λ f. take (cost_length a e) (drop (cost_offset a e) f)) frame
    ∙ between (encode step_bytes a.steps ++ bytes_of (take e a.costs)) (encode number_bytes (get_or a.costs e 0)) (bytes_of rest)

module _ (s f : List ℕ) (e : ℕ) where
  -- A new cost has no place if the job is refused, the link number is not below the link count, or the answer is judged no.
  pub cost_nowhere_refused : refusal s ≢ 0 → cost_place s f e ≡ nowhere
  cost_nowhere_refused h = rw (ne_eqb (refusal s) 0 h)

  pub cost_nowhere_past : length (job_of s).links ≤ e → cost_place s f e ≡ nowhere
  cost_nowhere_past l = rw (le-ltb e (length (job_of s).links) l, and-false (eqb (refusal s) 0))

  pub cost_nowhere_judged : judge_answer (job_of s) f ≡ false → cost_place s f e ≡ nowhere
  cost_nowhere_judged n = rw (n, and-false (eqb (refusal s) 0 && ltb e (length (job_of s).links)))

  -- The cost finder's part is then empty.
  pub cost_refused : refusal s ≢ 0 → cost_part s f e ≡ []
  cost_refused h = ap (λ p. part_at p f) (cost_nowhere_refused h)

  pub cost_past : length (job_of s).links ≤ e → cost_part s f e ≡ []
  cost_past l = ap (λ p. part_at p f) (cost_nowhere_past l)

  pub cost_judged_no : judge_answer (job_of s) f ≡ false → cost_part s f e ≡ []
  cost_judged_no n = ap (λ p. part_at p f) (cost_nowhere_judged n)

  -- Else it hands back the answer's bytes of the link's new cost.
  module _ (a : Answer) (r : refusal s ≡ 0) (l : e < length (job_of s).links) (y : judge_answer (job_of s) f ≡ true)
      (k : AnswerOf (length (job_of s).links) f a) where
    pub cost_placed : cost_place s f e ≡ record { offset = cost_offset a e; size = cost_length a e }
    cost_placed =
        let read : Option.get_or (read_answer (length (job_of s).links) f) no_answer ≡ a = ap (λ o. Option.get_or o no_answer) (layout_read k) in
        rw (eq-eqb (refusal s) 0 r, lt-ltb e (length (job_of s).links) l, y)
        (ap (λ x. record { offset = cost_offset x e; size = cost_length x e }) read)

    pub cost_shown : cost_part s f e ≡ encode number_bytes (get_or a.costs e 0)
    cost_shown =
        ap (λ p. part_at p f) cost_placed
        ∙ subst (λ t. take (cost_length a e) (drop (cost_offset a e) t) ≡ encode number_bytes (get_or a.costs e 0)) k.joined
        (cost_found a e (omega (arith, k.count, l)))
