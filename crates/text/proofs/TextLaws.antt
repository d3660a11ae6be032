-- The digits that the library makes are those of the definition, and how long the lines are. Assumes nothing.
use Rattle.std.specs.Prelude.{ℕ, zero, suc, ◌+◌, ◌/◌, ◌%◌, ◌^◌, ◌*◌, ◌-◌, ◌≤◌, ◌<◌, ◌≡◌, refl, List, [], ◌∷◌, ◌++◌, length, take, drop}
use Rattle.std.proofs.Common.{arith, pow-suc, suc-mul, sym, ap, ap₂, ◌∙◌, append_assoc, length-append, take_at, drop-drop, lt-ltb, le-ltb}
use Rattle.std.proofs.Math.Decide.{dec_lt}
use Rattle.std.proofs.lemmas.List.Edits.{sets, sets-eq}
use Rattle.std.proofs.Math.Seq.{length-sets}
use borrow.Rule.Slice.PartMut.{put_mid}
use Rattle.loops.specs.Loop.{gather}
use Rattle.std.specs.Fmt.{decimal as digits}
use Rattle.std.proofs.lemmas.Fmt.{decimal_digit, decimal_step}
use Rattle.codec.specs.Numbers.{Put}
use Rattle.text.specs.Text.{decimal_in, decimal, space, end, pair_word, word_line, cost_line, pair_line, cost_lines, pair_lines}

-- At most so many digits.
pub decimal_most : (k n : ℕ) → length (decimal_in k n) ≤ k
unfolding decimal_in
decimal_most zero n = omega arith
decimal_most (suc k) n =
    elim (dec_lt n 10) [
      | yes l ↦ rw (lt-ltb n 10 l) (omega arith)
      | no l ↦
          rw (le-ltb n 10 (omega arith))
          (omega (arith, length-append (decimal_in k (n / 10)) ((48 + n % 10) ∷ []), decimal_most k (n / 10)))
    ]

-- The digits that the library makes of a number are those of the definition.
pub made_decimal : (most n : ℕ) → n < 10 ^ suc most → n < 2 ^ 64 → digits n ≡ decimal_in (suc most) n
unfolding decimal_in
made_decimal zero n l f = rw (lt-ltb n 10 l) (decimal_digit n l)
made_decimal (suc most) n l f =
    elim (dec_lt n 10) [
      | yes small ↦ rw (lt-ltb n 10 small) (decimal_digit n small)
      | no large ↦
          let tenth : digits (n / 10) ≡ decimal_in (suc most) (n / 10)
          = made_decimal most (n / 10) (omega (arith, l, pow-suc 10 (suc most))) (omega arith) in
          rw (le-ltb n 10 (omega arith)) (decimal_step n (omega arith) f ∙ ap (λ (ds : List ℕ). ds ++ ((48 + n % 10) ∷ [])) tenth)
    ]

-- Bytes copied to a part of a buffer are stores from where the part begins.
pub range_copied :
    (out part : List ℕ) (at : ℕ) →
    at + length part ≤ length out →
    put_mid at (at + length part - at) out part ≡ sets out at part
range_copied out part at l =
    let size : at + length part - at ≡ length part = omega arith in
    rw (size, sets-eq part out at l, drop-drop (length part) at out) (sym (append_assoc (take at out) part (drop (at + length part) out)))

-- How long the parts of a line are, and the lines.
pub number_most : (n : ℕ) (behind : List ℕ) → length (decimal n ++ behind) ≤ 20 + length behind
number_most n behind = omega (arith, length-append (decimal n) behind, decimal_most 20 n)

pub cost_most : (e old new : ℕ) → length (cost_line e old new) ≤ 63
cost_most e old new =
    omega (
      arith,
      length-append ((decimal e ++ space) ++ (decimal old ++ space)) (decimal new ++ end),
      length-append (decimal e ++ space) (decimal old ++ space),
      number_most e space,
      number_most old space,
      number_most new end,
    )

pub pair_most : (tree spare : ℕ) → length (pair_line tree spare) ≤ 47
pair_most tree spare =
    omega (
      arith,
      length-append (pair_word ++ (decimal tree ++ space)) (decimal spare ++ end),
      length-append pair_word (decimal tree ++ space),
      number_most tree space,
      number_most spare end,
    )

pub lines_most : (most n : ℕ) (f : ℕ → List ℕ) → ((i : ℕ) → length (f i) ≤ most) → length (gather n f) ≤ n * most
unfolding gather
lines_most most zero f h = omega arith
lines_most most (suc n) f h = omega (arith, length-append (gather n f) (f n), lines_most most n f h, h n, suc-mul n most)

-- One line more.
pub lines_next : (n : ℕ) (f : ℕ → List ℕ) → gather (n + 1) f ≡ gather n f ++ f n
unfolding gather
lines_next n f = let next : n + 1 ≡ suc n = omega arith in rw next

-- The same lines.
pub lines_same : (n : ℕ) (f g : ℕ → List ℕ) → ((i : ℕ) → i < n → f i ≡ g i) → gather n f ≡ gather n g
unfolding gather
lines_same zero f g h = refl
lines_same (suc n) f g h = ap₂ ◌++◌ (lines_same n f g (λ i l. h i (omega arith))) (h n (omega arith))

pub word_line_most : (word : List ℕ) (n : ℕ) → length (word_line word n) ≤ length word + 21
word_line_most word n = omega (arith, length-append word (decimal n ++ end), number_most n end)

pub cost_lines_most : (n : ℕ) (old new : ℕ → ℕ) → length (cost_lines n old new) ≤ 63 * n
cost_lines_most n old new = omega (arith, lines_most 63 n (λ e. cost_line e (old e) (new e)) (λ e. cost_most e (old e) (new e)))

pub pair_lines_most : (n : ℕ) (tree spare : ℕ → ℕ) → length (pair_lines n tree spare) ≤ 47 * n
pair_lines_most n tree spare = omega (arith, lines_most 47 n (λ i. pair_line (tree i) (spare i)) (λ i. pair_most (tree i) (spare i)))

-- What was put from the start of a buffer stands at its start.
pub put_text :
    (before text : List ℕ) (r : ℕ) (after : List ℕ) →
    Put before 0 text r after →
    length text ≤ length before →
    (take r after ≡ text) × (r ≤ length after) × (r ≡ length (take r after))
put_text before text r after p l =
    let size : r ≡ length text = omega (arith, p.next) in
    let is : take r after ≡ text
    = ap (take r) (p.area ∙ sets-eq text before 0 (omega (arith, l))) ∙ take_at text (drop (0 + length text) before) r (sym size) in
    (is, omega (arith, size, ap length p.area, length-sets before 0 text, l), size ∙ sym (ap length is))
