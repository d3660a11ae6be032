-- The reader of answer frames, by the steps of the code: what is known after each, and what the model then gives.
-- Assumes nothing.
use Rattle.std.specs.Prelude.{ℕ, zero, suc, ◌+◌, ◌*◌, ◌<◌, ◌≤◌, refl, Some, None, length, take, drop}
use Rattle.std.proofs.Math.Decide.{ℕ_discrete, dec_le}
use Rattle.std.proofs.Common.{zero-add, ◌∙◌, length-append, length-take-le, drop-cons, take_all}
use native.Mathlib.Omega.{arith}
use Rattle.std.proofs.Math.Path.{◌≡◌, sym, ap, ap₂}
use mathlib.Core.List.{List, [], ◌∷◌, ◌++◌}
use Rattle.std.proofs.Math.Option.{Option, some, none}
use Rattle.std.proofs.Math.ListN.{get_or, length-drop}
use Rattle.std.proofs.lemmas.List.Edits.{sets, sets-eq}
use Rattle.std.proofs.Math.Seq.{length-sets}
use borrow.Author.Tests.{eq-eqb, ne_eqb, le-leb, lt-leb}
use Rattle.loops.specs.Loop.{tabulate}
use Rattle.loops.specs.GatherLaws.{gather_same, length_tabulate}
use Rattle.number.specs.Number.{Bytes, decode}
use Rattle.leb128.specs.Positions.{read_at, located_value, located_refused}
use Rattle.number.specs.Number.Decoded.{number}
use Rattle.leb128.specs.declared.Number.{Number}
use Rattle.number.proofs.Laws.{decode_size, bytes_drop}
use Rattle.optimum.specs.Optimum.{Pair, Answer}
use Rattle.limits.specs.Limits.{step_bytes}
use Rattle.frame.specs.Job.{bytes_of}
use Rattle.frame.specs.Questions.{numbers}
use Rattle.frame.specs.Answers.{pair_from, pairs_from, answer_from, answer_behind, read_answer}
use Rattle.frame.specs.Meaning.{Divides}
use Rattle.frame.proofs.Division.{division}
use Rattle.codec.specs.Numbers.{taken_at, numbers_at, Divided, Loaded, loaded_at, loaded}
use Rattle.codec.specs.ListLaws.{numbers_put, load_numbers}
use Rattle.codec.specs.Held.{pairs_at, answer_at}
use Rattle.division.specs.Counting.{count_from}
use Rattle.division.specs.CountingLaws.{counted_some, counted_none}
use Rattle.codec.specs.NumberLaws.{Next, next_number, parts_join, drop_divides}
use Rattle.links.specs.ColumnLaws.{sets_at}
use Rattle.answer_read.specs.declared.Contents.{Contents}
use Rattle.answer_read.specs.Reading.{contents, few, Behind}

-- ---- the steps

steps_read : (s : List ℕ) (k : Number) → read_at step_bytes s 0 ≡ Some k → decode step_bytes s ≡ number k.value k.next
steps_read s k e =
    let (n, here, there) = located_value 0 (decode step_bytes s) k e in
    here ∙ ap (number k.value) (omega (arith, there))

-- The steps end within the frame.
pub steps_within : (s : List ℕ) (k : Number) → read_at step_bytes s 0 ≡ Some k → k.next ≤ length s
steps_within s k e = omega (arith, decode_size step_bytes s k.value k.next (steps_read s k e))

-- No steps: no answer.
pub answer_unread : (m : ℕ) (s : List ℕ) → read_at step_bytes s 0 ≡ None → few (read_answer m s) ≡ none
unfolding few answer_behind
answer_unread m s e = rw (located_refused 0 (decode step_bytes s) e)

-- ---- the numbers behind them

-- A list put over the front of another leaves what is behind it.
behind_front : (xs l : List ℕ) (k : ℕ) → length xs ≤ length l → length xs ≤ k → get_or (xs ++ drop (length xs) l) k 0 ≡ get_or l k 0
behind_front [] l k h n = refl
behind_front (x ∷ xs) [] k h n = absurd (omega arith)
behind_front (x ∷ xs) (y ∷ l) zero h n = absurd (omega arith)
behind_front (x ∷ xs) (y ∷ l) (suc k) h n = behind_front xs l k (omega arith) (omega arith)

sets_past : (xs l : List ℕ) (k : ℕ) → length xs ≤ length l → length xs ≤ k → get_or (sets l 0 xs) k 0 ≡ get_or l k 0
sets_past xs l k h n = rw (sets-eq xs l 0 (omega arith), zero-add (length xs)) (behind_front xs l k h n)

-- What the steps are and where the part behind them is.
module _ (m : ℕ) (s : List ℕ) (h : Bytes s) (first : Number) (e : read_at step_bytes s 0 ≡ Some first)
    (part : List ℕ) (behind : part ≡ drop first.next s) where
  answer_behind_lem : few (read_answer m s) ≡ few (answer_from m first.value (numbers part))
  unfolding answer_behind
  answer_behind_lem = rw (steps_read s first e, behind)

  pub answer_undivided : count_from 0 (numbers part) ≡ None → few (read_answer m s) ≡ none
  unfolding few answer_from
  answer_undivided q = answer_behind_lem ∙ rw (counted_none (numbers part) q)

  -- The part divides into `total` numbers.
  module _ (total : ℕ) (q : count_from 0 (numbers part) ≡ Some total) where
    ns : List ℕ
    ns = (counted_some (numbers part) total q).0

    divided : numbers part ≡ some ns
    unfolding ns
    divided = (counted_some (numbers part) total q).1

    size : length ns ≡ total
    unfolding ns
    size = (counted_some (numbers part) total q).2

    divides : Divides part ns
    divides = (division part ns (rw behind (bytes_drop first.next s h))).0 divided

    answer_wrong_size : (length ns ≡ m + 1 + 2 * get_or ns m 0 → ⊥) → few (read_answer m s) ≡ none
    unfolding few answer_from
    answer_wrong_size n = answer_behind_lem ∙ rw (divided, ne_eqb (length ns) (m + 1 + 2 * get_or ns m 0) n)

    answer_size : length ns ≡ m + 1 + 2 * get_or ns m 0 → read_answer m s ≡ some (record { steps = first.value; costs = take m ns; pairs = pairs_from m ns })
    unfolding answer_behind answer_from
    answer_size n = rw (steps_read s first e, ← behind, divided, eq-eqb (length ns) (m + 1 + 2 * get_or ns m 0) n)

    pub read_short : total ≤ m → few (read_answer m s) ≡ none
    read_short l = answer_wrong_size (λ n. omega (arith, size))

    -- So many numbers stand in front.
    pub costs_divided : (n : ℕ) → n ≤ total → Divided part 0 n
    costs_divided n l = record { ns = ns; enough = omega (arith, size); within = omega arith; rest = divides }

    -- The costs are in their array, and the number behind them has been read.
    module _ (long : m < total) (at : ℕ) (cs cs' : List ℕ) (read-costs : loaded_at at cs' ≡ loaded part 0 m cs) (c : Number) (p : c ≡ taken_at part at) where
      costs_read : loaded_at at cs' ≡ loaded_at (0 + length (bytes_of (take m ns))) (sets cs 0 (take m ns))
      costs_read = read-costs ∙ load_numbers part m 0 0 ns cs (omega arith) divides (omega (arith, size))

      at_pairs : at ≡ length (bytes_of (take m ns))
      at_pairs = omega (arith, ap (λ (l : Loaded). l.next) costs_read)

      after : Next part (drop (suc m) ns) (get_or ns m 0) at
      after =
          next_number part (drop (suc m) ns) (get_or ns m 0) at
          (omega (arith, at_pairs, length-append (bytes_of (take m ns)) (bytes_of (drop m ns)), ap length (parts_join part ns m divides)))
          (rw (← drop-cons ns m 0 (omega (arith, size)), at_pairs) (drop_divides part ns m divides))

      count_read : c.value ≡ get_or ns m 0
      count_read = ap (λ (t : Number). t.value) (p ∙ after.here)

      pub answer_many : 64 < c.value → few (read_answer m s) ≡ none
      unfolding few
      answer_many l =
          elim (ℕ_discrete (length ns) (m + 1 + 2 * get_or ns m 0)) [
            | yes n ↦
                ap few (answer_size n)
                ∙ rw (length_tabulate (pair_from (drop (suc m) ns)) (get_or ns m 0), lt-leb (get_or ns m 0) 64 (omega (arith, count_read)))
            | no n ↦ answer_wrong_size n
          ]

      pub answer_wrong : (total ≡ m + 1 + 2 * c.value → ⊥) → few (read_answer m s) ≡ none
      answer_wrong n = answer_wrong_size (λ k. n (omega (arith, size, count_read)))

      -- The pairs stand behind the costs and their count.
      pub pairs_divided : m + 1 + 2 * c.value ≤ total → (n : ℕ) → n ≤ 2 * c.value → Divided part c.next n
      pairs_divided room n l =
          let there : c.next ≡ after.next = ap (λ (t : Number). t.next) (p ∙ after.here) in
          record {
            ns = drop (suc m) ns;
            enough = omega (arith, room, size, length-drop (suc m) ns);
            within = omega (arith, there, after.within);
            rest = rw there after.rest;
          }

      -- The pairs are in theirs.
      module _ (right : total ≡ m + 1 + 2 * c.value) (most : c.value ≤ 64) (last : ℕ) (ps ps' : List ℕ)
          (read_pairs : loaded_at last ps' ≡ loaded part c.next (2 * c.value) ps)
          (room : length cs ≡ 256) (room-pairs : length ps ≡ 128) (edges : m ≤ 256) where
        whole : length ns ≡ m + 1 + 2 * get_or ns m 0
        whole = omega (arith, size, count_read)

        rest : List ℕ
        rest = drop (suc m) ns

        two : length rest ≡ 2 * c.value
        unfolding rest
        two = omega (arith, whole, count_read, length-drop (suc m) ns)

        next_read : c.next ≡ after.next
        next_read = ap (λ (t : Number). t.next) (p ∙ after.here)

        new_costs_lem : cs' ≡ sets cs 0 (take m ns)
        new_costs_lem = ap (λ (l : Loaded). l.values) costs_read

        new_pairs : ps' ≡ sets ps 0 rest
        unfolding rest
        new_pairs =
            ap (λ (l : Loaded). l.values)
            (read_pairs
            ∙ load_numbers part (2 * c.value) 0 c.next rest ps (omega (arith, next_read, after.within)) (rw next_read after.rest) (omega (arith, two)))
            ∙ ap (sets ps 0) (take_all (2 * c.value) rest (omega (arith, two)))

        same_costs : numbers_at m cs' ≡ take m ns
        same_costs =
            let taken : length (take m ns) ≡ m = length-take-le m ns (omega (arith, size)) in
            ap (numbers_at m) new_costs_lem ∙ rw taken at (numbers_put (take m ns) cs (omega (arith, taken, room, edges)))

        pair_at_lem : (k : ℕ) → k < 2 * c.value → get_or ps' k 0 ≡ get_or rest k 0
        pair_at_lem k l = ap (λ (xs : List ℕ). get_or xs k 0) new_pairs ∙ sets_at rest ps k (omega (arith, two)) (omega (arith, two))

        same_pairs : pairs_at c.value ps' ≡ pairs_from m ns
        unfolding rest
        same_pairs =
            gather_same c.value (λ i. pair_from ps' i ∷ []) (λ i. pair_from rest i ∷ [])
            (λ i l. ap₂ (λ (t u : ℕ). record { tree = t; spare = u } ∷ []) (pair_at_lem (2 * i) (omega arith)) (pair_at_lem (2 * i + 1) (omega arith)))
            ∙ ap (λ (n : ℕ). tabulate n (pair_from rest)) count_read

        pub answer_read_lem : contents m (Some (record { steps = first.value; count = c.value })) cs' ps' ≡ few (read_answer m s)
        unfolding few contents
        answer_read_lem =
            ap₂ (λ (xs : List ℕ) (qs : List Pair). some (record { steps = first.value; costs = xs; pairs = qs })) same_costs same_pairs
            ∙ sym (ap few (answer_size whole)
            ∙ rw (length_tabulate (pair_from (drop (suc m) ns)) (get_or ns m 0), le-leb (get_or ns m 0) 64 (omega (arith, count_read))))

        pub answer_kept : Behind m c.value cs cs' ps ps'
        answer_kept =
            let taken : length (take m ns) ≡ m = length-take-le m ns (omega (arith, size)) in
            record {
              places = record {
                costs = ap length new_costs_lem ∙ length-sets cs 0 (take m ns) ∙ room;
                pairs = ap length new_pairs ∙ length-sets ps 0 rest ∙ room-pairs;
              };
              costs =
                  λ e l. ap (λ (x : List ℕ). get_or x e 0) new_costs_lem
                  ∙ sets_past (take m ns) cs e (omega (arith, taken, room, edges)) (omega (arith, taken, l));
              pairs =
                  λ i l. ap (λ (x : List ℕ). get_or x i 0) new_pairs ∙ sets_past rest ps i (omega (arith, two, room-pairs, most)) (omega (arith, two, l));
            }

-- A frame that is not read.
pub no_answer_lem : (m : ℕ) (cs ps : List ℕ) (o : Option Answer) → o ≡ none → contents m None cs ps ≡ o
unfolding contents
no_answer_lem m cs ps o z = sym z

-- What the reader's result says of the frame's content: it is the answer in the arrays, or there are too many pairs.
module _ (m : ℕ) (cs ps : List ℕ) where
  pub found_answer : (k : Contents) (o : Option Answer) → contents m (Some k) cs ps ≡ few o → o ≡ some (answer_at k.steps m cs k.count ps)
  unfolding contents few
  found_answer k none e =
      let same : some (answer_at k.steps m cs k.count ps) ≡ none = e in
      let z : ◌≡◌ {A = ℕ} 0 1 = cc in
      absurd (omega arith)
  found_answer k (some a) e =
      let here : some (answer_at k.steps m cs k.count ps) ≡ few (some a) = e in
      elim (dec_le (length a.pairs) 64) [
        | yes l ↦ sym (here ∙ rw (le-leb (length a.pairs) 64 l))
        | no l ↦ let same : some (answer_at k.steps m cs k.count ps) ≡ none = here ∙ rw (lt-leb (length a.pairs) 64 (omega arith)) in
            let z : ◌≡◌ {A = ℕ} 0 1 = cc in
            absurd (omega arith)
      ]

  pub missed_answer : (o : Option Answer) → contents m None cs ps ≡ few o → (a : Answer) → o ≡ some a → 64 < length a.pairs
  unfolding contents few
  missed_answer o e a q =
      let nothing : none ≡ few (some a) = rw q at e in
      elim (dec_le (length a.pairs) 64) [
        | yes l ↦ let same : none ≡ some a = nothing ∙ rw (le-leb (length a.pairs) 64 l) in
            let z : ◌≡◌ {A = ℕ} 0 1 = cc in
            absurd (omega arith)
        | no l ↦ omega arith
      ]
