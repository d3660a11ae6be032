-- Digits counted and laid out from the last one, as a printer makes them that measures a number first, are those of the
-- definition; and bytes copied to what is left of a buffer are stores. Assumes nothing.
use Rattle.std.specs.Prelude.{ℕ, zero, suc, ◌+◌, ◌/◌, ◌%◌, ◌^◌, ◌-◌, ◌≤◌, ◌<◌, ◌≡◌, cond, ltb, List, [], ◌∷◌, ◌++◌, length, take, drop}
use Rattle.std.proofs.Common.{arith, mod-eq_of_lt, mod-lt, pow-suc, sym, ap, ap₂, ◌∙◌, append_assoc, append-nil, length-drop}
use Rattle.std.proofs.Common.{drop_of_length-le, take_all, drop-drop, lt-ltb, le-ltb}
use Rattle.std.proofs.Math.Decide.{dec_le}
use Rattle.std.proofs.lemmas.List.Edits.{sets, sets-eq}
use Rattle.std.proofs.Math.Seq.{take-length}
use borrow.Rule.Slice.PartMut.{put_mid, mid_of, post_of}
use Rattle.text.specs.Text.{decimal_in}

-- The code of a digit below 16.
abbrev pub hex_digit_ascii : ℕ → ℕ
hex_digit_ascii d = cond (ltb d 10) (48 + d) (87 + d)

-- The last k digits of n in base b.
abbrev pub last_digits : ℕ → ℕ → ℕ → List ℕ
last_digits b zero n = []
last_digits b (suc k) n = last_digits b k (n / b) ++ (hex_digit_ascii (n % b) ∷ [])

-- n takes k digits in base b, and at least so many are made.
abbrev pub IsDigitCount : ℕ → ℕ → ℕ → ℕ → Type 0
IsDigitCount b width n k = (width ≤ k) × (n < b ^ k) × (width < k → b ^ (k - 1) ≤ n)

glyph_digit : (d : ℕ) → d < 10 → hex_digit_ascii d ≡ 48 + d
glyph_digit d l = rw (lt-ltb d 10 l)

power_positive : (k : ℕ) → 1 ≤ 10 ^ k
power_positive zero = omega arith
power_positive (suc k) = omega (arith, pow-suc 10 k, power_positive k)

power_more : (i d : ℕ) → 10 ^ i ≤ 10 ^ (i + d)
power_more i zero = let same : i + 0 ≡ i = omega arith in rw same (omega arith)
power_more i (suc d) =
    let next : i + suc d ≡ suc (i + d) = omega arith in
    rw next (omega (arith, power_more i d, pow-suc 10 (i + d)))

-- A number of 32 bits has at most 20 digits (and indeed 10).
pub fewest_most : (k n : ℕ) → IsDigitCount 10 1 n k → n < 2 ^ 32 → k ≤ 20
fewest_most k n f l =
    elim (dec_le k 20) [
      | yes m ↦ m
      | no m ↦
          let more : 20 + (k - 21) ≡ k - 1 = omega arith in
          let large : 10 ^ 20 ≤ 10 ^ (k - 1) = rw more at (power_more 20 (k - 21)) in
          absurd (omega (arith, large, f.2 (omega arith)))
    ]

pub digits_decimal : (most k n : ℕ) → k ≤ most → IsDigitCount 10 1 n k → last_digits 10 k n ≡ decimal_in most n
unfolding decimal_in
digits_decimal most zero n l f = absurd (omega (arith, f.0))
digits_decimal zero (suc k) n l f = absurd (omega arith)
digits_decimal (suc most) (suc zero) n l f =
    let small : n < 10 = f.1 in
    let same : n % 10 ≡ n = mod-eq_of_lt small in
    rw (lt-ltb n 10 small) (ap (λ (d : ℕ). d ∷ []) (ap hex_digit_ascii same ∙ glyph_digit n small))
digits_decimal (suc most) (suc (suc k)) n l f =
    let before : suc (suc k) - 1 ≡ suc k = omega arith in
    let least : 10 ^ suc k ≤ n = rw before at (f.2 (omega arith)) in
    let same : suc k - 1 ≡ k = omega arith in
    let tenth : IsDigitCount 10 1 (n / 10) (suc k) =
    (omega arith, omega (arith, f.1, pow-suc 10 (suc k)), λ _. rw same (omega (arith, least, pow-suc 10 k))) in
    rw (le-ltb n 10 (omega (arith, least, pow-suc 10 k, power_positive k)))
    (ap₂ ◌++◌ (digits_decimal most (suc k) (n / 10) (omega arith) tenth) (ap (λ (d : ℕ). d ∷ []) (glyph_digit (n % 10) (mod-lt n (omega arith)))))

-- Bytes copied to the part of a buffer that begins at a place are stores from that place on.
pub part_copied :
    (out part : List ℕ) (at : ℕ) →
    at + length part ≤ length out →
    put_mid at (length out - at) out (take (length part) part ++ drop (length part) (mid_of at (length out - at) out)) ≡ sets out at part
part_copied out part at l =
    let mid : mid_of at (length out - at) out ≡ drop at out = take_all (length out - at) (drop at out) (omega (arith, length-drop at out)) in
    let post : post_of at (length out - at) out ≡ [] = drop_of_length-le (drop at out) {i = length out - at} (omega (arith, length-drop at out)) in
    rw (mid, post, take-length part, sets-eq part out at l, drop-drop (length part) at out)
    (ap (λ (l : List ℕ). take at out ++ l) (append-nil (part ++ drop (at + length part) out)) ∙
    sym (append_assoc (take at out) part (drop (at + length part) out)))
