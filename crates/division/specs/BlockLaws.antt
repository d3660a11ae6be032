-- Laws of blocks: a block of a frame's bytes in which each has bytes behind it that may stand there counts as many numbers as
-- it has last bytes. Assumes nothing.
use Rattle.std.specs.Prelude.{ℕ, zero, suc, ◌+◌, ◌*◌, ◌-◌, ◌<◌, ◌≤◌, ◌≡◌, refl, true, not, ◌&&◌, ◌||◌, List, Option, ltb, eqb, length, get_or, drop}
use Rattle.std.proofs.Math.Decide.{dec_lt}
use Rattle.std.proofs.Common.{arith, ap, sym, ◌∙◌, length-drop, drop-drop, le-ltb, ltb-true}
use Rattle.std.proofs.lemmas.Bool.{eqb-false, not-true}
use Rattle.loops.specs.Below.{all_below, sum}
use Rattle.loops.specs.TestLaws.{and_first, and_second}
use Rattle.number.specs.Number.{Bytes, extend, decode}
use Rattle.number.specs.Number.Decoded.{number, none}
use Rattle.number.proofs.Laws.{extend_zero, extend_more, decode_one, decode_group, decode_wider}
use Rattle.limits.specs.Limits.{number_bytes}
use Rattle.frame.specs.Questions.{divide}
use Rattle.frame.proofs.Division.{divide_number, divide_none}
use Rattle.division.specs.Counting.{count_from, Counting, followed, continued}
use Rattle.division.specs.CountingLaws.{count_more, count_number}

-- A byte from 128 on: in front of a number that is not 0 it begins one, in front of 0 or of no number none.
module _ (k : ℕ) (s : List ℕ) (i : ℕ) (within : i < length s) (h : 128 ≤ get_or s i 0) where
  decode_first :
      (v m : ℕ) → 0 < v → decode k (drop (i + 1) s) ≡ number v m → decode (suc k) (drop i s) ≡ number (get_or s i 0 - 128 + 128 * v) (suc m)
  decode_first v m p d = rw (decode_group k s i within h, d) (extend_more (get_or s i 0 - 128) v m p)

  decode_zero : (m : ℕ) → decode k (drop (i + 1) s) ≡ number 0 m → decode (suc k) (drop i s) ≡ none
  decode_zero m d = rw (decode_group k s i within h, d) (extend_zero (get_or s i 0 - 128) m)

  decode_none : decode k (drop (i + 1) s) ≡ none → decode (suc k) (drop i s) ≡ none
  unfolding extend
  decode_none d = rw (decode_group k s i within h, d)

-- The count goes on byte by byte. Behind a byte that is not the last nothing more is counted: what is left of its number, read
-- alone, is a number too and counts for the whole; or neither is a number.
module _ (s : List ℕ) (i n : ℕ) (whole : Option ℕ) (c : Counting s i n whole) where
  count_last : i < length s → get_or s i 0 < 128 → Counting s (i + 1) (n + 1) whole
  count_last l h = count_number s i n whole c l (get_or s i 0) 1 (decode_one (number_bytes - 1) s i l h)

  count_first :
      i + 1 < length s →
      128 ≤ get_or s i 0 →
      (v m : ℕ) → 0 < v → decode (number_bytes - 1) (drop (i + 1) s) ≡ number v m → Counting s (i + 1) n whole
  count_first l h v m p d = turn c.fuel c.enough c.rest
    where
      turn : (k : ℕ) → length s - i ≤ k → count_from n (divide k (drop i s)) ≡ whole → Counting s (i + 1) n whole
      turn zero e q = absurd (omega arith)
      turn (suc k) e q =
          let behind : i + 1 + m ≡ i + suc m = omega arith in
          let front = decode_first (number_bytes - 1) s i (omega arith) h v m p d in
          record {
            fuel = suc k;
            enough = omega arith;
            few = omega (arith, c.few);
            within = omega arith;
            rest =
                ap (count_from n) (divide_number k (drop (i + 1) s) v m (decode_wider (number_bytes - 1) (drop (i + 1) s) v m d)) ∙
                count_more n v (divide k (drop m (drop (i + 1) s))) ∙
                ap (λ (t : List ℕ). count_from (n + 1) (divide k t))
                (drop-drop m (i + 1) s ∙ ap (λ (j : ℕ). drop j s) behind ∙ sym (drop-drop (suc m) i s)) ∙
                sym (count_more n (get_or s i 0 - 128 + 128 * v) (divide k (drop (suc m) (drop i s)))) ∙
                ap (count_from n) (sym (divide_number k (drop i s) (get_or s i 0 - 128 + 128 * v) (suc m) front)) ∙
                q;
          }

  count_none :
      i + 1 < length s → decode number_bytes (drop i s) ≡ none → decode number_bytes (drop (i + 1) s) ≡ none → Counting s (i + 1) n whole
  count_none l d d' =
      record {
        fuel = c.fuel;
        enough = omega (arith, c.enough);
        few = omega (arith, c.few);
        within = omega arith;
        rest =
            ap (count_from n)
            (divide_none c.fuel (drop (i + 1) s) (omega (arith, length-drop (i + 1) s)) d' ∙
            sym (divide_none c.fuel (drop i s) (omega (arith, length-drop i s)) d)) ∙
            c.rest;
      }

counting_same : (s : List ℕ) (i j n m : ℕ) (whole : Option ℕ) → i ≡ j → n ≡ m → Counting s i n whole → Counting s j m whole
counting_same s i j n m whole e q c = rw (← e, ← q) c

-- Behind a byte from 128 on that may stand there: the rest of its number, in one or two bytes, or two that end in 00.
count_rest :
    (s : List ℕ) (i n : ℕ) (whole : Option ℕ) →
    Counting s i n whole →
    i + 2 < length s →
    128 ≤ get_or s i 0 →
    followed s i ≡ true →
    Counting s (i + 1) n whole
count_rest s i n whole c l h f = of (dec_lt b 128) (dec_lt 0 d)
  where
    b : ℕ
    b = get_or s (i + 1) 0

    d : ℕ
    d = get_or s (i + 2) 0

    behind : (not (eqb b 0) && (ltb b 128 || ltb d 128)) ≡ true
    behind = rw (le-ltb (get_or s i 0) 128 h) at f

    some : 0 < b
    some =
        let apart = eqb-false b 0 (not-true (eqb b 0) (and_first (not (eqb b 0)) (ltb b 128 || ltb d 128) behind)) in
        omega (arith, apart)

    third : (k : ℕ) → 128 ≤ b → decode (suc k) (drop (i + 1 + 1) s) ≡ number d 1
    third k m =
        let last : ltb d 128 ≡ true = rw (le-ltb b 128 m) at (and_second (not (eqb b 0)) (ltb b 128 || ltb d 128) behind) in
        let two : i + 2 ≡ i + 1 + 1 = omega arith in
        rw (← two) (decode_one k s (i + 2) l (ltb-true d 128 last))

    of : Dec (b < 128) → Dec (0 < d) → Counting s (i + 1) n whole
    of (yes m) _ = count_first s i n whole c (omega arith) h b 1 some (decode_one 1 s (i + 1) (omega arith) m)
    of (no m) (yes p) =
        count_first s i n whole c (omega arith) h (b - 128 + 128 * d) 2 (omega arith)
        (decode_first 1 s (i + 1) (omega arith) (omega arith) d 1 p (third 0 (omega arith)))
    of (no m) (no p) =
        let zero-last : (k : ℕ) → decode (suc k) (drop (i + 1 + 1) s) ≡ number 0 1 = λ k. rw nought at (third k (omega arith)) in
        count_none s i n whole c (omega arith)
        (decode_none 2 s i (omega arith) h (decode_zero 1 s (i + 1) (omega arith) (omega arith) 1 (zero-last 0)))
        (decode_zero 2 s (i + 1) (omega arith) (omega arith) 1 (zero-last 1))
      where
        nought : d ≡ 0
        nought = omega arith

-- One byte more: f of the bytes before it were not the last of their number.
count_byte :
    (s : List ℕ) (i f : ℕ) (whole : Option ℕ) →
    Bytes s →
    f ≤ i →
    Counting s i (i - f) whole →
    i + 2 < length s →
    followed s i ≡ true →
    Counting s (i + 1) (i + 1 - (f + continued s i)) whole
count_byte s i f whole b k c l h =
    elim (dec_lt (get_or s i 0) 128) [
      | yes p ↦ counting_same s (i + 1) (i + 1) (i - f + 1) (i + 1 - (f + continued s i)) whole refl (omega arith)
          (count_last s i (i - f) whole c (omega arith) p)
      | no p ↦ counting_same s (i + 1) (i + 1) (i - f) (i + 1 - (f + continued s i)) whole refl (omega (arith, b i))
          (count_rest s i (i - f) whole c l (omega arith) h)
    ]

pub continued_few : (s : List ℕ) (at k : ℕ) → Bytes s → sum k (λ j. continued s (at + j)) ≤ k
unfolding sum
continued_few s at zero b = omega arith
continued_few s at (suc k) b = omega (arith, continued_few s at k b, b (at + k))

pub count_block :
    (s : List ℕ) (at f k : ℕ) (whole : Option ℕ) →
    Bytes s →
    f ≤ at →
    Counting s at (at - f) whole →
    at + k + 1 < length s →
    all_below k (λ j. followed s (at + j)) ≡ true →
    Counting s (at + k) (at + k - (f + sum k (λ j. continued s (at + j)))) whole
unfolding all_below sum
count_block s at f zero whole b l c h a = counting_same s at (at + 0) (at - f) (at + 0 - (f + 0)) whole (omega arith) (omega arith) c
count_block s at f (suc k) whole b l c h a =
    let before = and_first (all_below k (λ j. followed s (at + j))) (followed s (at + k)) a in
    let here = and_second (all_below k (λ j. followed s (at + j))) (followed s (at + k)) a in
    let passed = count_block s at f k whole b l c (omega arith) before in
    let more = count_byte s (at + k) (f + sum k (λ j. continued s (at + j))) whole b (omega (arith, continued_few s at k b)) passed (omega arith) here in
    counting_same s (at + k + 1) (at + suc k) _ _ whole (omega arith) (omega arith) more
