-- Laws of counting: one turn of the loop that counts a frame's numbers. Assumes nothing.
use Rattle.std.specs.Prelude.{ℕ, zero, suc, ◌+◌, ◌-◌, ◌<◌, ◌≤◌, ◌≡◌, refl, List, ◌∷◌, Option, Some, None, length, drop}
use Rattle.std.proofs.Common.{arith, sym, ap, ◌∙◌, length-drop, drop_of_length-le, drop-drop}
use Rattle.std.proofs.Math.Option.{some, none, map}
use Rattle.std.proofs.Math.Option as maybe
use Rattle.std.proofs.lemmas.Option.{none-some, same_Some}
use Rattle.number.specs.Number.{decode}
use Rattle.leb128.specs.Positions.{read_at, located_value, located_refused}
use Rattle.number.specs.Number.Decoded.{number}
use Rattle.leb128.specs.declared.Number.{Number}
use Rattle.number.proofs.Laws.{decode_size}
use Rattle.limits.specs.Limits.{number_bytes}
use Rattle.frame.specs.Questions.{divide, numbers}
use Rattle.frame.proofs.Division.{divide_end, divide_number, divide_none}
use Rattle.division.specs.Counting.{count_from, Counting}

-- A number takes at least one byte.
pub read_further : (s : List ℕ) (at : ℕ) (k : Number) → read_at number_bytes s at ≡ Some k → at < k.next
read_further s at k e =
    let (n, d, there) = located_value at (decode number_bytes (drop at s)) k e in
    omega (arith, decode_size number_bytes (drop at s) k.value n d)

-- The loop that counts.
pub count_start : (s : List ℕ) → Counting s 0 0 (count_from 0 (numbers s))
count_start s = record { fuel = length s; enough = omega arith; few = omega arith; within = omega arith; rest = refl }

pub count_more : (n v : ℕ) (r : maybe.Option (List ℕ)) → count_from n (map (v ∷◌) r) ≡ count_from (n + 1) r
unfolding count_from
count_more n v (some ns) = let same : n + suc (length ns) ≡ n + 1 + length ns = omega arith in rw same
count_more n v none = refl

-- One number more is counted.
pub count_number :
    (s : List ℕ) (at n : ℕ) (whole : Option ℕ) →
    Counting s at n whole →
    at < length s →
    (v m : ℕ) →
    decode number_bytes (drop at s) ≡ number v m →
    Counting s (at + m) (n + 1) whole
count_number s at n whole c l v m d = turn c.fuel c.enough c.rest
  where
    turn : (k : ℕ) → length s - at ≤ k → count_from n (divide k (drop at s)) ≡ whole → Counting s (at + m) (n + 1) whole
    turn zero h q = absurd (omega arith)
    turn (suc k) h q =
        let size = decode_size number_bytes (drop at s) v m d in
        record {
          fuel = k;
          enough = omega arith;
          few = omega (arith, c.few);
          within = omega (arith, length-drop at s);
          rest =
              ap (λ (t : List ℕ). count_from (n + 1) (divide k t)) (sym (drop-drop m at s)) ∙
              sym (count_more n v (divide k (drop m (drop at s)))) ∙
              ap (count_from n) (sym (divide_number k (drop at s) v m d)) ∙
              q;
        }

pub count_turn :
    (s : List ℕ) (at n : ℕ) (whole : Option ℕ) →
    Counting s at n whole →
    at < length s →
    (k : Number) →
    read_at number_bytes s at ≡ Some k →
    Counting s k.next (n + 1) whole
count_turn s at n whole c l k e =
    let (m, d, there) = located_value at (decode number_bytes (drop at s)) k e in
    rw there (count_number s at n whole c l k.value m d)

pub count_refused :
    (s : List ℕ) (at n : ℕ) (whole : Option ℕ) →
    Counting s at n whole →
    at < length s →
    read_at number_bytes s at ≡ None →
    None ≡ whole
unfolding count_from
count_refused s at n whole c l e =
    let d = located_refused at (decode number_bytes (drop at s)) e in
    sym (ap (count_from n) (divide_none c.fuel (drop at s) (omega (arith, length-drop at s)) d)) ∙ c.rest

pub count_end : (s : List ℕ) (at n : ℕ) (whole : Option ℕ) → Counting s at n whole → length s ≤ at → Some n ≡ whole
unfolding count_from
count_end s at n whole c l =
    let none_left : n + zero ≡ n = omega arith in
    sym (ap (λ (t : List ℕ). count_from n (divide c.fuel t)) (drop_of_length-le s l) ∙ ap (count_from n) (divide_end c.fuel) ∙ ap Some none_left) ∙ c.rest

pub counted_some : (o : maybe.Option (List ℕ)) (count : ℕ) → count_from 0 o ≡ Some count → (ns : List ℕ) × (o ≡ some ns) × (length ns ≡ count)
unfolding count_from
counted_some (some ns) count e =
    (ns, refl, omega (arith, same_Some _ _ e))
counted_some none count e = absurd (none-some count e)

pub counted_none : (o : maybe.Option (List ℕ)) → count_from 0 o ≡ None → o ≡ none
unfolding count_from
counted_none (some ns) e = absurd (none-some _ (sym e))
counted_none none e = refl
