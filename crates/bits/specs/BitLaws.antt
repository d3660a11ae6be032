-- Laws of `bit`: of the operations on words, of a single digit, and of the lowest and the highest set digit.
-- Assumes nothing.
use Prim.Native.Nat.{ℕ, zero, suc, ◌+◌, ◌-◌, ◌*◌, ◌/◌, ◌%◌, ◌^◌, ◌≤◌, ◌<◌, min, max}
use Rattle.std.proofs.Common.{pow-suc, mul_comm, one-mul, div-one, arith, sym, ◌∙◌, inl, inr, pow_pos, shl_exact, lit<, ne_eqb, lt-ltb, le-ltb}
use Rattle.std.proofs.Math.Nat.{div-div-eq-div-mul}
use Rattle.std.proofs.Math.Decide.{dec_lt, ℕ_discrete}
use Rattle.std.specs.Prelude.{◌≡◌, refl, ◌⊎◌, Bool, true, false, not, ◌&&◌, ◌||◌, ltb, eqb}
use Rattle.std.proofs.Math.Path.{ap}
use Rattle.std.proofs.Math.Bool.{xor}
use Rattle.std.specs.Int.Bits.{bit_and, bit_or, bit_xor, and_step, or_step, xor_step}
use Rattle.std.proofs.lemmas.Nat.{and_mask, and_le_r, leading_top}
use Rattle.std.specs.Int.Bits
use Rattle.std.specs.Int.Count.{count_trailing_zeros, count_leading_zeros, under}
use Rattle.std.proofs.Math.Dec.{eqb-zero-suc, eqb-suc-zero, eqb-suc-suc}
use Rattle.loops.specs.Loop.{first, last}
use Rattle.loops.specs.TestLaws.{truth}
use Rattle.loops.specs.FirstLaws.{First, first_is, first_found, Last, last_is, last_found}
use Rattle.bits.specs.Bit.{bit}

-- The digit of a truth value.
abbrev digit : Bool → ℕ
digit true = 1
digit false = 0

digit_below : (b : Bool) → digit b < 2
digit_below true = omega arith
digit_below false = omega arith

digit_set : (b : Bool) → eqb (digit b) 1 ≡ b
digit_set true = refl
digit_set false = refl

-- A number is its upper digits and its lowest.
lowest_digit : (w : ℕ) → w % 2 ≡ digit (bit w zero)
unfolding bit
lowest_digit w = elim (ℕ_discrete (w % 2) 1) [ yes e ↦ rw e | no d ↦ rw (ne_eqb (w % 2) 1 d) (omega arith) ]

digits : (w : ℕ) → w ≡ w / 2 * 2 + digit (bit w zero)
digits w = omega (arith, lowest_digit w)

double : (j : ℕ) → 2 ^ suc j ≡ 2 ^ j * 2 + digit false
double j = omega (arith, pow-suc 2 j)

-- The number with the lowest digit b and the upper digits of v.
bit_low : (v : ℕ) (b : Bool) → bit (v * 2 + digit b) zero ≡ b
unfolding bit
bit_low v b =
    let low : (v * 2 + digit b) % 2 ≡ digit b = omega (arith, digit_below b) in
    rw low (digit_set b)

bit_high : (v : ℕ) (b : Bool) (i : ℕ) → bit (v * 2 + digit b) (suc i) ≡ bit v i
unfolding bit
bit_high v b i =
    let high : (v * 2 + digit b) / 2 ≡ v = omega (arith, digit_below b) in
    rw high

-- An operation on words that goes digit by digit.
module _ (op f : ℕ → ℕ → ℕ) (g : Bool → Bool → Bool)
    (step : (v w : ℕ) → op v w ≡ op (v / 2) (w / 2) * 2 + f (v % 2) (w % 2))
    (same : (a b : Bool) → f (digit a) (digit b) ≡ digit (g a b)) where
  op_digits : (v w : ℕ) → op v w ≡ op (v / 2) (w / 2) * 2 + digit (g (bit v zero) (bit w zero))
  op_digits v w = step v w ∙ rw (lowest_digit v, lowest_digit w, same (bit v zero) (bit w zero))

  bit_op : (v w i : ℕ) → bit (op v w) i ≡ g (bit v i) (bit w i)
  unfolding bit
  bit_op v w zero = ap (λ x. bit x zero) (op_digits v w) ∙ bit_low (op (v / 2) (w / 2)) (g (bit v zero) (bit w zero))
  bit_op v w (suc i) =
      ap (λ x. bit x (suc i)) (op_digits v w) ∙ bit_high (op (v / 2) (w / 2)) (g (bit v zero) (bit w zero)) i
      ∙ bit_op (v / 2) (w / 2) i

and_digit : (a b : Bool) → min (digit a) (digit b) ≡ digit (a && b)
and_digit true true = refl
and_digit true false = refl
and_digit false true = refl
and_digit false false = refl

or_digit : (a b : Bool) → max (digit a) (digit b) ≡ digit (a || b)
or_digit true true = refl
or_digit true false = refl
or_digit false true = refl
or_digit false false = refl

xor_digit : (a b : Bool) → Bits.differ (digit a) (digit b) ≡ digit (xor a b)
unfolding xor
xor_digit true true = refl
xor_digit true false = refl
xor_digit false true = refl
xor_digit false false = refl

pub bit_of_and : (v w i : ℕ) → bit (bit_and v w) i ≡ (bit v i && bit w i)
bit_of_and = bit_op bit_and min ◌&&◌ and_step and_digit

pub bit_of_or : (v w i : ℕ) → bit (bit_or v w) i ≡ (bit v i || bit w i)
bit_of_or = bit_op bit_or max ◌||◌ or_step or_digit

pub bit_of_xor : (v w i : ℕ) → bit (bit_xor v w) i ≡ xor (bit v i) (bit w i)
bit_of_xor = bit_op bit_xor Bits.differ xor xor_step xor_digit

-- The empty set, and the sets of one number.
pub bit_zero : (i : ℕ) → bit 0 i ≡ false
unfolding bit
bit_zero zero = refl
bit_zero (suc i) = bit_zero i

pub bit_power : (j i : ℕ) → bit (2 ^ j) i ≡ eqb j i
unfolding bit
bit_power zero zero = refl
bit_power zero (suc i) = bit_zero i ∙ sym (eqb-zero-suc i)
bit_power (suc j) zero = ap (λ x. bit x zero) (double j) ∙ bit_low (2 ^ j) false ∙ sym (eqb-suc-zero j)
bit_power (suc j) (suc i) = ap (λ x. bit x (suc i)) (double j) ∙ bit_high (2 ^ j) false i ∙ bit_power j i ∙ sym (eqb-suc-suc j i)

-- A word of k digits with 1 shifted up to digit i.
one_shifted : (k i : ℕ) → i < k → (1 * 2 ^ i) % 2 ^ k ≡ 2 ^ i
one_shifted k i l = shl_exact 1 i k (lit< tt) (omega arith) ∙ one-mul (2 ^ i)

pub bit_single : (k i j : ℕ) → i < k → bit ((1 * 2 ^ i) % 2 ^ k) j ≡ eqb i j
bit_single k i j l = ap (λ x. bit x j) (one_shifted k i l) ∙ bit_power i j

-- Digit i, shifted down to the end.
bit_shifted : (w i : ℕ) → bit w i ≡ eqb (w / 2 ^ i % 2) 1
unfolding bit
bit_shifted w zero = rw (div-one w)
bit_shifted w (suc i) =
    bit_shifted (w / 2) i
    ∙ ap (λ x. eqb (x % 2) 1) (div-div-eq-div-mul w 2 (2 ^ i) ∙ ap (λ x. w / x) (mul_comm 2 (2 ^ i) ∙ sym (pow-suc 2 i)))

pub bit_tested : (w i : ℕ) → eqb (bit_and (w / 2 ^ i) 1) 1 ≡ bit w i
bit_tested w i = ap (λ x. eqb x 1) (and_mask (w / 2 ^ i) 1) ∙ sym (bit_shifted w i)

-- A number below 2 ^ k has its digits below k.
half_below : (k w : ℕ) → w < 2 ^ suc k → w / 2 < 2 ^ k
half_below k w h = omega (arith, pow-suc 2 k)

pub bit_past : (k w i : ℕ) → w < 2 ^ k → k ≤ i → bit w i ≡ false
unfolding bit
bit_past zero w i h l = let e : w ≡ 0 = omega arith in rw e (bit_zero i)
bit_past (suc k) w zero h l = absurd (omega arith)
bit_past (suc k) w (suc i) h l = bit_past k (w / 2) i (half_below k w h) (omega arith)

-- It is made of them.
pub bit_ext : (k v w : ℕ) → v < 2 ^ k → w < 2 ^ k → ((i : ℕ) → i < k → bit v i ≡ bit w i) → v ≡ w
unfolding bit
bit_ext zero v w h l e = omega arith
bit_ext (suc k) v w h l e =
    let low : digit (bit v zero) ≡ digit (bit w zero) = ap digit (e zero (omega arith)) in
    let high : v / 2 ≡ w / 2 = bit_ext k (v / 2) (w / 2) (half_below k v h) (half_below k w l) (λ i m. e (suc i) (omega arith)) in
    digits v ∙ rw (high, low) (sym (digits w))

-- The complement below 2 ^ k.
not_digit : (b : Bool) → digit (not b) + digit b ≡ 1
not_digit true = refl
not_digit false = refl

complement_digits : (k w : ℕ) → w < 2 ^ suc k → (2 ^ suc k - 1) - w ≡ ((2 ^ k - 1) - w / 2) * 2 + digit (not (bit w zero))
complement_digits k w h = omega (arith, pow-suc 2 k, digits w, not_digit (bit w zero))

pub bit_complement : (k w i : ℕ) → w < 2 ^ k → i < k → bit ((2 ^ k - 1) - w) i ≡ not (bit w i)
unfolding bit
bit_complement zero w i h l = absurd (omega arith)
bit_complement (suc k) w zero h l =
    ap (λ x. bit x zero) (complement_digits k w h) ∙ bit_low ((2 ^ k - 1) - w / 2) (not (bit w zero))
bit_complement (suc k) w (suc i) h l =
    ap (λ x. bit x (suc i)) (complement_digits k w h) ∙ bit_high ((2 ^ k - 1) - w / 2) (not (bit w zero)) i
    ∙ bit_complement k (w / 2) i (half_below k w h) (omega arith)

pub bit_less : (k v w i : ℕ) → v < 2 ^ k → w < 2 ^ k → bit (bit_and v ((2 ^ k - 1) - w)) i ≡ (bit v i && not (bit w i))
bit_less k v w i h l =
    bit_of_and v ((2 ^ k - 1) - w) i
    ∙ elim (dec_lt i k) [ yes m ↦ rw (bit_complement k w i l m) | no m ↦ rw (bit_past k v i h (omega arith)) ]

-- One less has all the digits below i.
bit_ones : (i j : ℕ) → bit (2 ^ i - 1) j ≡ ltb j i
bit_ones i j =
    elim (dec_lt j i) [
      | yes l ↦ ap (λ x. bit x j) whole ∙ bit_complement i 0 j (pow_pos i) l ∙ rw (bit_zero j) (sym (lt-ltb j i l))
      | no l ↦ bit_past i (2 ^ i - 1) j (omega (arith, pow_pos i)) (omega arith) ∙ sym (le-ltb j i (omega arith))
    ]
  where
    whole : 2 ^ i - 1 ≡ (2 ^ i - 1) - 0
    whole = omega arith

pub one_above : (k i : ℕ) → i < k → 0 < (1 * 2 ^ i) % 2 ^ k
one_above k i l = omega (arith, one_shifted k i l, pow_pos i)

pub bit_below : (k i j : ℕ) → i < k → bit ((1 * 2 ^ i) % 2 ^ k - 1) j ≡ ltb j i
bit_below k i j l = ap (λ x. bit (x - 1) j) (one_shifted k i l) ∙ bit_ones i j

-- The lowest set digit.
first_here : (k w : ℕ) → bit w zero ≡ true → first (suc k) (bit w) ≡ 0
first_here k w h =
    first_found (record { within = omega arith; before = λ i l. absurd (omega arith); hit = λ _. h })

first_above : (k w : ℕ) → bit w zero ≡ false → first (suc k) (bit w) ≡ suc (first k (bit (w / 2)))
unfolding bit
first_above k w h =
    let f : First k (bit (w / 2)) (first k (bit (w / 2))) = first_is k (bit (w / 2)) in
    first_found (record {
      within = omega (arith, f.within);
      before = λ i l. below f i l;
      hit = λ l. f.hit (omega arith);
    })
  where
    below : First k (bit (w / 2)) (first k (bit (w / 2))) → (i : ℕ) → i < suc (first k (bit (w / 2))) → bit w i ≡ false
    below f zero l = h
    below f (suc i) l = f.before i (omega arith)

pub trailing_first : (k w : ℕ) → count_trailing_zeros k w ≡ first k (bit w)
unfolding count_trailing_zeros
trailing_first zero w = sym (first_found (record { within = omega arith; before = λ i l. absurd (omega arith); hit = λ l. absurd (omega arith) }))
trailing_first (suc k) w = rw lowest_digit (parity (truth (bit w zero)) (trailing_first k (w / 2)))
  where
    parity : (bit w zero ≡ true) ⊎ (bit w zero ≡ false) → count_trailing_zeros k (w / 2) ≡ first k (bit (w / 2))
        → under (digit (bit w zero)) (count_trailing_zeros k (w / 2)) ≡ first (suc k) (bit w)
    parity (inl h) e = rw h (sym (first_here k w h))
    parity (inr h) e = rw h (ap suc e ∙ sym (first_above k w h))

-- A word with no set digit is 0.
pub first_empty : (k w : ℕ) → w < 2 ^ k → k ≤ first k (bit w) → w ≡ 0
first_empty k w h l =
    bit_ext k w 0 h (omega arith) (λ i m. (first_is k (bit w)).before i (omega arith) ∙ sym (bit_zero i))

pub first_below : (k w : ℕ) → 0 < w → w < 2 ^ k → first k (bit w) < k
first_below k w h l =
    elim (dec_lt (first k (bit w)) k) [ yes m ↦ m | no m ↦ absurd (omega (arith, first_empty k w l (omega arith))) ]

-- One less clears the lowest set digit and sets those below it.
bit_upper : (w i : ℕ) → bit w (suc i) ≡ bit (w / 2) i
unfolding bit
bit_upper w i = refl

odd_less : (w : ℕ) → bit w zero ≡ true → w - 1 ≡ w / 2 * 2 + digit false
odd_less w h = omega (arith, digits w, ap digit h)

even_less : (w : ℕ) → 0 < w → bit w zero ≡ false → w - 1 ≡ (w / 2 - 1) * 2 + digit true
even_less w l h = omega (arith, digits w, ap digit h)

and_same : (b : Bool) → (b && b) ≡ (b && true)
and_same true = refl
and_same false = refl

Cleared : ℕ → ℕ → ℕ → Type 0
Cleared k w j = (bit w j && bit (w - 1) j) ≡ (bit w j && not (eqb j (first k (bit w))))

cleared_odd : (k w j : ℕ) → bit w zero ≡ true → Cleared (suc k) w j
unfolding Cleared
cleared_odd k w zero h = rw (first_here k w h, h, odd_less w h, bit_low (w / 2) false)
cleared_odd k w (suc j) h =
    rw (first_here k w h, odd_less w h, bit_high (w / 2) false j, bit_upper w j, eqb-suc-zero j) (and_same (bit (w / 2) j))

cleared_even : (k w : ℕ) → 0 < w → bit w zero ≡ false → ((j : ℕ) → Cleared k (w / 2) j) → (j : ℕ) → Cleared (suc k) w j
unfolding Cleared
cleared_even k w l h e zero = rw h
cleared_even k w l h e (suc j) =
    rw (first_above k w h, even_less w l h, bit_high (w / 2 - 1) true j, bit_upper w j, eqb-suc-suc j (first k (bit (w / 2)))) (e j)

cleared : (k w j : ℕ) → 0 < w → w < 2 ^ k → Cleared k w j
cleared zero w j h l = absurd (omega arith)
cleared (suc k) w j h l =
    elim (truth (bit w zero)) [
      | inl o ↦ cleared_odd k w j o
      | inr o ↦ cleared_even k w h o (λ i. cleared k (w / 2) i (omega (arith, digits w, ap digit o)) (half_below k w l)) j
    ]

pub bit_cleared : (k w j : ℕ) → 0 < w → w < 2 ^ k → bit (bit_and w (w - 1)) j ≡ (bit w j && not (eqb j (first k (bit w))))
unfolding Cleared
bit_cleared k w j h l = bit_of_and w (w - 1) j ∙ cleared k w j h l

-- The highest set digit.
bit_top : (j w : ℕ) → 2 ^ j ≤ w → w < 2 ^ suc j → bit w j ≡ true
unfolding bit
bit_top zero w l u = let e : w ≡ 1 = omega arith in rw e
bit_top (suc j) w l u = bit_top j (w / 2) (omega (arith, pow-suc 2 j)) (omega (arith, pow-suc 2 (suc j)))

pub leading_last : (k w : ℕ) → 0 < w → w < 2 ^ k → (count_leading_zeros k w < k) × (last k (bit w) k ≡ k - 1 - count_leading_zeros k w)
leading_last k w l u =
    let (j, e, low, high) = leading_top k w l u in (
      omega arith,
      last_found k (bit w) k (k - 1 - count_leading_zeros k w)
          (rw (← place j e)
          record {
            within = omega arith;
            hit = bit_top j w low high;
            after = λ i a b. bit_past (suc j) w i high (omega arith);
          }),
    )
  where
    place : (j : ℕ) → count_leading_zeros k w + suc j ≡ k → j ≡ k - 1 - count_leading_zeros k w
    place j e = omega arith

pub last_set : (k w : ℕ) → 0 < w → w < 2 ^ k → Last k (bit w) (last k (bit w) k)
last_set k w l u = elim (last_is k (bit w) k) [
  | inl f ↦ f
  | inr h ↦ absurd (omega (arith, bit_ext k w 0 u (omega arith) (λ i b. h.1 i b ∙ sym (bit_zero i))))
]

-- A set that lost its lowest member is a lesser number.
pub fewer : (k w r : ℕ) → 0 < w → w < 2 ^ k → r < 2 ^ k → ((j : ℕ) → bit r j ≡ (bit w j && not (eqb j (first k (bit w))))) → r < w
fewer k w r some word fits less =
    let below : bit_and w (w - 1) ≤ w - 1 = and_le_r w (w - 1) in
    let same : r ≡ bit_and w (w - 1) = bit_ext k r (bit_and w (w - 1)) fits (omega arith) (λ j _. less j ∙ sym (bit_cleared k w j some word)) in
    omega arith
