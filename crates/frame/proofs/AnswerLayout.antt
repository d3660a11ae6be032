-- The layout of answer frames: what the reader finds is what the frame is the layout of. So what is written is read back, what is
-- read and written again is the same bytes, and a frame has one content. Assumes nothing.
use Rattle.std.specs.Prelude.{ℕ, zero, suc, ◌+◌, ◌*◌, ◌^◌, ◌<◌, ◌≤◌, ◌↔◌, Bool, true, false, eqb, length, take, drop}
use Rattle.std.proofs.Common.{arith, add-one, sym, subst, ◌∙◌, length-append, length-drop, take-append-drop, take-suc, drop-cons}
use Rattle.std.proofs.Common.{ext_get_or, length-take-le, eqb-true, eq-eqb}
use Rattle.std.proofs.Math.Path.{◌≡◌, refl}
use mathlib.Core.List.{List, [], ◌∷◌, ◌++◌, flat_map, append_assoc}
use Rattle.std.proofs.Math.Option.{Option, some, none}
use Rattle.std.proofs.Math.ListN.{get_or}
use Rattle.std.proofs.Math.Seq.{take-length, take-append_seam, drop-append_seam, drop-append-add, get_or-append_seam}
use Rattle.loops.specs.Below.{choose}
use Rattle.loops.specs.Loop.{gather, tabulate}
use Rattle.loops.specs.GatherLaws.{length_tabulate, get_d_tabulate}
use Rattle.number.specs.Number.{Bytes, encode, Decoded, decode}
use Rattle.number.specs.Number.Decoded.{number}
use Rattle.number.proofs.Laws.{bytes_drop, decode_encode, encode_decode, decode_bound}
use Rattle.optimum.specs.Optimum.{Pair, both, Answer}
use Rattle.limits.specs.Limits.{step_bytes}
use Rattle.frame.specs.Job.{bytes_of}
use Rattle.frame.specs.Questions.{numbers}
use Rattle.frame.specs.Answers.{pair_from, pairs_from, no_pair, answer_from, answer_behind, read_answer}
use Rattle.frame.specs.Meaning.{Small, Divides}
use Rattle.frame.specs.AnswerMeaning.{AnswerOf, answer_numbers, answer_frame}
use Rattle.frame.proofs.Division.{division, divide_complete}
use Rattle.frame.proofs.RoundTrip.{flat_map_append}

-- ---- pairs and their numbers

two_more : (ns : List ℕ) (j : ℕ) → suc (suc j) ≤ length ns → take (suc (suc j)) ns ≡ take j ns ++ (get_or ns j 0 ∷ get_or ns (j + 1) 0 ∷ [])
two_more ns j l =
    take-suc ns (suc j) 0 l ∙ rw (take-suc ns j 0 (omega arith), add-one) (append_assoc (take j ns) (get_or ns j 0 ∷ []) (get_or ns (suc j) 0 ∷ []))

-- As many pairs as there are twos of numbers, and they are these numbers.
twos_numbers : (ns : List ℕ) (k : ℕ) → 2 * k ≤ length ns → flat_map both (tabulate k (pair_from ns)) ≡ take (2 * k) ns
unfolding flat_map gather
twos_numbers ns zero l = refl
twos_numbers ns (suc k) l =
    let two : 2 * suc k ≡ suc (suc (2 * k)) = omega arith in
    rw (two, two_more ns (2 * k) (omega arith), ← twos_numbers ns k (omega arith))
    (flat_map_append both (tabulate k (pair_from ns)) (pair_from ns k ∷ []))

pair_at_lem : (ps : List Pair) (i : ℕ) → i < length ps → pair_from (flat_map both ps) i ≡ get_or ps i no_pair
unfolding flat_map
pair_at_lem [] i l = absurd (omega arith)
pair_at_lem (p ∷ ps) zero l = refl
pair_at_lem (p ∷ ps) (suc i) l =
    let two : 2 * suc i ≡ suc (suc (2 * i)) = omega arith in
    let three : suc (suc (2 * i)) + 1 ≡ suc (suc (2 * i + 1)) = omega arith in
    rw (two, three) (pair_at_lem ps i (omega arith))

pub length_both : (ps : List Pair) → length (flat_map both ps) ≡ 2 * length ps
unfolding flat_map
length_both [] = refl
length_both (p ∷ ps) = omega (arith, length_both ps)

-- The pairs of the numbers of pairs are these pairs.
numbers_pairs : (ps : List Pair) → tabulate (length ps) (pair_from (flat_map both ps)) ≡ ps
numbers_pairs ps =
    let size : length (tabulate (length ps) (pair_from (flat_map both ps))) ≡ length ps = length_tabulate (pair_from (flat_map both ps)) (length ps) in
    ext_get_or no_pair (tabulate (length ps) (pair_from (flat_map both ps))) ps size
    λ i l. get_d_tabulate (pair_from (flat_map both ps)) (length ps) i no_pair (omega arith) ∙ pair_at_lem ps i (omega arith)

-- ---- the numbers behind the steps

-- Numbers that are as many as there should be are the numbers of the answer made of them.
made_numbers :
    (m steps : ℕ) (ns : List ℕ) →
    length ns ≡ m + 1 + 2 * get_or ns m 0 →
    answer_numbers (record { steps = steps; costs = take m ns; pairs = pairs_from m ns }) ≡ ns
made_numbers m steps ns e =
    let rest : length (drop (suc m) ns) ≡ 2 * get_or ns m 0 = omega (arith, length-drop (suc m) ns) in
    rw (
      length_tabulate (pair_from (drop (suc m) ns)) (get_or ns m 0),
      twos_numbers (drop (suc m) ns) (get_or ns m 0) (omega arith),
      ← rest,
      take-length (drop (suc m) ns),
      ← drop-cons ns m 0 (omega arith),
    )
    (take-append-drop m ns)

-- An answer is made of its own numbers.
numbers_made : (a : Answer) → answer_from (length a.costs) a.steps (some (answer_numbers a)) ≡ some a
unfolding answer_from
numbers_made a =
    let m : ℕ = length a.costs in
    let pairs : List ℕ = length a.pairs ∷ flat_map both a.pairs in
    let seam : get_or (answer_numbers a) m 0 ≡ length a.pairs = get_or-append_seam a.costs (length a.pairs) (flat_map both a.pairs) 0 in
    let size : length (answer_numbers a) ≡ m + 1 + 2 * length a.pairs = omega (arith, length-append a.costs pairs, length_both a.pairs) in
    let behind : drop (suc m) (answer_numbers a) ≡ flat_map both a.pairs = rw add-one at (drop-append-add a.costs pairs 1) in
    rw (seam, eq-eqb (length (answer_numbers a)) (m + 1 + 2 * length a.pairs) size, take-append_seam a.costs pairs, behind, numbers_pairs a.pairs)

-- ---- the theorem

module _ (m : ℕ) (s : List ℕ) (h : Bytes s) (a : Answer) where
  made :
      (v n : ℕ) (ns : List ℕ) →
      decode step_bytes s ≡ number v n →
      Divides (drop n s) ns →
      (b : Bool) →
      eqb (length ns) (m + 1 + 2 * get_or ns m 0) ≡ b →
      choose b (λ _. some (record { steps = v; costs = take m ns; pairs = pairs_from m ns })) (λ _. none) ≡ some a →
      AnswerOf m s a
  made v n ns e d false t q = let z : ◌≡◌ {A = ℕ} 0 1 = cc in absurd (omega arith)
  made v n ns e d true t q =
      let size : length ns ≡ m + 1 + 2 * get_or ns m 0 = eqb-true (length ns) (m + 1 + 2 * get_or ns m 0) t in
      let same : record { steps = v; costs = take m ns; pairs = pairs_from m ns } ≡ a = cc in
      subst (λ (x : Answer). AnswerOf m s x) same
      record {
        joined = rw (made_numbers m v ns size, d.joined, encode_decode step_bytes s v n h e) (take-append-drop n s);
        step_limit = decode_bound step_bytes s v n h e;
        small = subst Small (sym (made_numbers m v ns size)) d.small;
        count = length-take-le m ns (omega arith);
      }

  behind : (v n : ℕ) (o : Option (List ℕ)) → decode step_bytes s ≡ number v n → numbers (drop n s) ≡ o → answer_from m v o ≡ some a → AnswerOf m s a
  unfolding answer_from
  behind v n none e f q = let z : ◌≡◌ {A = ℕ} 0 1 = cc in absurd (omega arith)
  behind v n (some ns) e f q =
      made v n ns e ((division (drop n s) ns (bytes_drop n s h)).0 f) (eqb (length ns) (m + 1 + 2 * get_or ns m 0)) refl q

  read : (r : Decoded) → decode step_bytes s ≡ r → answer_behind m s r ≡ some a → AnswerOf m s a
  unfolding answer_behind
  read Decoded.none e q = let z : ◌≡◌ {A = ℕ} 0 1 = cc in absurd (omega arith)
  read (number v n) e q = behind v n (numbers (drop n s)) e refl q

-- Reading what was written gives the contents back.
pub read_frame : (a : Answer) → a.steps < 128 ^ step_bytes → Small (answer_numbers a) → read_answer (length a.costs) (answer_frame a) ≡ some a
unfolding answer_behind
read_frame a l k =
    let front : decode step_bytes (answer_frame a) ≡ number a.steps (length (encode step_bytes a.steps)) = decode_encode step_bytes a.steps
    (bytes_of (answer_numbers a)) (omega arith) l in
    rw (
      front,
      drop-append_seam (encode step_bytes a.steps) (bytes_of (answer_numbers a)),
      divide_complete (length (bytes_of (answer_numbers a))) (answer_numbers a) k (omega arith),
    )
    (numbers_made a)

pub layout_read : {m : ℕ} {s : List ℕ} {a : Answer} → AnswerOf m s a → read_answer m s ≡ some a
layout_read {a = a} r = rw (← r.joined, ← r.count) (read_frame a r.step_limit r.small)

-- The reader finds the answer a exactly if the frame is laid out as a.
pub read_means : (m : ℕ) (s : List ℕ) (a : Answer) → Bytes s → (read_answer m s ≡ some a) ↔ AnswerOf m s a
read_means m s a h = (read m s h a (decode step_bytes s) refl, layout_read)

-- What is read and written again is the same bytes.
pub frame_read : (m : ℕ) (s : List ℕ) (a : Answer) → Bytes s → read_answer m s ≡ some a → answer_frame a ≡ s
frame_read m s a h e = ((read_means m s a h).0 e).joined

-- A frame has one content.
pub layout_unique : {m : ℕ} {s : List ℕ} {a a' : Answer} → AnswerOf m s a → AnswerOf m s a' → a ≡ a'
layout_unique r r' = cc (layout_read r, layout_read r')
