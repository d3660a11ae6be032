-- Laws of the layout: what is written is read back, what is read and written again is the same bytes, no two byte strings read as the
-- same number, and no written number begins another. Each holds for every number of bytes. Assumes nothing.
use Rattle.std.specs.Prelude.{ℕ, zero, suc, ◌+◌, ◌*◌, ◌-◌, ◌/◌, ◌%◌, ◌^◌, ◌<◌, ◌≤◌, ◌≡◌, refl, List, [], ◌∷◌, ◌++◌, length, get_or, take, drop}
use Rattle.std.proofs.Common.{pow-suc, add-one, arith, ap, get_or-drop, drop-cons}
use Rattle.std.proofs.Math.Nat.{one-le-pow}
use Rattle.std.proofs.Math.Decide.{dec_lt}
use Rattle.std.proofs.lemmas.List.{append_cancel_left}
use Rattle.std.proofs.Math.Seq.{take-length}
use borrow.Author.Tests.{lt-ltb, le-ltb, ne_eqb}
use Rattle.number.specs.Number.{Bytes, encode, Decoded, extend, decode}
use Rattle.number.specs.Number.Decoded.{number, none}

pub bytes_nil : Bytes []
bytes_nil i = omega arith

pub bytes_tail : (b : ℕ) (s : List ℕ) → Bytes (b ∷ s) → Bytes s
bytes_tail b s h i = h (suc i)

pub bytes_cons : (b : ℕ) (s : List ℕ) → b < 256 → Bytes s → Bytes (b ∷ s)
bytes_cons b s l h zero = l
bytes_cons b s l h (suc i) = h i

pub bytes_drop : (n : ℕ) (s : List ℕ) → Bytes s → Bytes (drop n s)
bytes_drop n s h i = rw get_or-drop (h (n + i))

pub bytes_append : (s t : List ℕ) → Bytes s → Bytes t → Bytes (s ++ t)
bytes_append [] t h g = g
bytes_append (b ∷ s) t h g = bytes_cons b (s ++ t) (h 0) (bytes_append s t (bytes_tail b s h) g)

-- A 00 behind another byte is refused.
pub extend_zero : (low n : ℕ) → extend low (number 0 n) ≡ none
unfolding extend
extend_zero low n = refl

-- In front of any other number the group counts.
pub extend_more : (low v n : ℕ) → 0 < v → extend low (number v n) ≡ number (low + 128 * v) (suc n)
unfolding extend
extend_more low v n h = rw (ne_eqb v 0 (omega arith))

-- One step of reading at a position: a byte below 128 is a number, one from 128 on a group in front of what follows.
module _ (k : ℕ) (s : List ℕ) (i : ℕ) (within : i < length s) where
  pub decode_one : get_or s i 0 < 128 → decode (suc k) (drop i s) ≡ number (get_or s i 0) 1
  unfolding decode
  decode_one l = rw (drop-cons s i 0 within, lt-ltb (get_or s i 0) 128 l)

  pub decode_group : 128 ≤ get_or s i 0 → decode (suc k) (drop i s) ≡ extend (get_or s i 0 - 128) (decode k (drop (i + 1) s))
  unfolding decode
  decode_group l = rw (drop-cons s i 0 within, le-ltb (get_or s i 0) 128 l, add-one)

-- What begins with a number of at most k bytes, v in n bytes: a byte below 128, or a byte from 128 on before a number above 0.
data Begins : ℕ → List ℕ → ℕ → ℕ → Type 0 where
  last : {k b : ℕ} {s : List ℕ} → b < 128 → Begins (suc k) (b ∷ s) b 1
  more : {k b v w n : ℕ} {s : List ℕ} → 128 ≤ b → 0 < v → w ≡ b - 128 + 128 * v → Begins k s v n → Begins (suc k) (b ∷ s) w (suc n)

-- The constructor as a function, whose arguments are known from the goal.
one_more :
    {k b v w n : ℕ} {s : List ℕ} →
    128 ≤ b →
    0 < v →
    w ≡ b - 128 + 128 * v →
    Begins k s v n →
    Begins (suc k) (b ∷ s) w (suc n)
one_more l p e r = more l p e r

begins_decode : {k v n : ℕ} {s : List ℕ} → Begins k s v n → decode k s ≡ number v n
unfolding decode
begins_decode (last {b = b} l) = rw (lt-ltb b 128 l)
begins_decode (more {b = b} {v} {n = n} l p e r) =
    rw (le-ltb b 128 l, begins_decode r, extend_more (b - 128) v n p, e)

begins_more :
    (k b : ℕ) (s : List ℕ) (d : Decoded) (v n : ℕ) →
    ((w m : ℕ) → d ≡ number w m → Begins k s w m) →
    128 ≤ b →
    extend (b - 128) d ≡ number v n →
    Begins (suc k) (b ∷ s) v n
unfolding extend
begins_more k b s none v n rest h e = let z : ◌≡◌ {A = ℕ} 0 1 = cc in absurd (omega arith)
begins_more k b s (number w m) v n rest h e =
    elim (dec_lt 0 w) [
      | yes p ↦ let value : v ≡ b - 128 + 128 * w = cc (extend_more (b - 128) w m p) in
          let size : n ≡ suc m = cc (extend_more (b - 128) w m p) in
          rw size (more h p value (rest w m refl))
      | no p ↦ let null : w ≡ 0 = omega arith in
          let z : ◌≡◌ {A = ℕ} 0 1 = cc (extend_zero (b - 128) m) in
          absurd (omega arith)
    ]

decode_begins : (k : ℕ) (s : List ℕ) (v n : ℕ) → decode k s ≡ number v n → Begins k s v n
unfolding decode
decode_begins zero s v n e = let z : ◌≡◌ {A = ℕ} 0 1 = cc in absurd (omega arith)
decode_begins (suc k) [] v n e = let z : ◌≡◌ {A = ℕ} 0 1 = cc in absurd (omega arith)
decode_begins (suc k) (b ∷ s) v n e =
    elim (dec_lt b 128) [
      | yes l ↦ let one : number b 1 ≡ number v n = rw (lt-ltb b 128 l) at e in
          let value : v ≡ b = cc in
          let size : n ≡ 1 = cc in
          rw (value, size) (last l)
      | no l ↦ begins_more k b s (decode k s) v n (decode_begins k s) (omega arith) (rw (le-ltb b 128 (omega arith)) at e)
    ]

-- Below 128 ^ k there is a number above 0 only where k is above 0.
more_bytes : (k v : ℕ) → 0 < v → v < 128 ^ k → 0 < k
more_bytes zero v p h = omega arith
more_bytes (suc k) v p h = omega arith

encode_begins :
    (k x : ℕ) (rest : List ℕ) →
    0 < k →
    x < 128 ^ k →
    Begins k (encode k x ++ rest) x (length (encode k x))
unfolding encode
encode_begins zero x rest p h = absurd (omega arith)
encode_begins (suc k) x rest p h =
    elim (dec_lt x 128) [
      | yes l ↦ rw (lt-ltb x 128 l) (last l)
      | no l ↦ let top : x / 128 < 128 ^ k = omega (arith, pow-suc 128 k) in
          let first : 0 < x / 128 = omega arith in
          rw (le-ltb x 128 (omega arith))
          (one_more {v = x / 128} (omega arith) first (omega arith) (encode_begins k (x / 128) rest (more_bytes k (x / 128) first top) top))
    ]

-- Reading what was written gives the number back, whatever follows.
pub decode_encode :
    (k x : ℕ) (rest : List ℕ) →
    0 < k →
    x < 128 ^ k →
    decode k (encode k x ++ rest) ≡ number x (length (encode k x))
decode_encode k x rest p h = begins_decode (encode_begins k x rest p h)

begins_encode : {k v n : ℕ} {s : List ℕ} → Bytes s → Begins k s v n → encode k v ≡ take n s
unfolding encode
begins_encode h (last {b = b} l) = rw (lt-ltb b 128 l)
begins_encode h (more {k} {b} {v} {w} {n} {s} l p e r) =
    let low : w % 128 + 128 ≡ b = omega (arith, h 0) in
    let high : w / 128 ≡ v = omega (arith, h 0) in
    rw (le-ltb w 128 (omega arith), low, high, begins_encode (bytes_tail b s h) r)

begins_bound : {k v n : ℕ} {s : List ℕ} → Bytes s → Begins k s v n → v < 128 ^ k
begins_bound h (last {k} l) = omega (arith, pow-suc 128 k, one-le-pow k 128 (omega arith))
begins_bound h (more {k} {b} {s = s} l p e r) =
    omega (arith, pow-suc 128 k, h 0, begins_bound (bytes_tail b s h) r)

begins_size : {k v n : ℕ} {s : List ℕ} → Begins k s v n → (0 < n) × (n ≤ length s) × (n ≤ k)
begins_size (last l) = omega arith
begins_size (more l p e r) = omega (arith, begins_size r)

-- What is read and written again is the same bytes.
pub encode_decode :
    (k : ℕ) (s : List ℕ) (v n : ℕ) → Bytes s → decode k s ≡ number v n → encode k v ≡ take n s
encode_decode k s v n h e = begins_encode h (decode_begins k s v n e)

pub decode_bound :
    (k : ℕ) (s : List ℕ) (v n : ℕ) → Bytes s → decode k s ≡ number v n → v < 128 ^ k
decode_bound k s v n h e = begins_bound h (decode_begins k s v n e)

pub decode_size :
    (k : ℕ) (s : List ℕ) (v n : ℕ) → decode k s ≡ number v n → (0 < n) × (n ≤ length s) × (n ≤ k)
decode_size k s v n e = begins_size (decode_begins k s v n e)

-- A number stays one where more bytes are allowed.
begins_wider : {k v n : ℕ} {s : List ℕ} → Begins k s v n → Begins (suc k) s v n
begins_wider (last l) = last l
begins_wider (more l p e r) = more l p e (begins_wider r)

pub decode_wider : (k : ℕ) (s : List ℕ) (v n : ℕ) → decode k s ≡ number v n → decode (suc k) s ≡ number v n
decode_wider k s v n e = begins_decode (begins_wider (decode_begins k s v n e))

-- A number that fits into k bytes has the same form where more are allowed.
encode_last : (k x : ℕ) → x < 128 → encode (suc k) x ≡ x ∷ []
unfolding encode
encode_last k x l = rw (lt-ltb x 128 l)

encode_more : (k x : ℕ) → 128 ≤ x → encode (suc k) x ≡ (x % 128 + 128) ∷ encode k (x / 128)
unfolding encode
encode_more k x l = rw (le-ltb x 128 l)

pub encode_wider : (k x : ℕ) → 0 < k → x < 128 ^ k → encode (suc k) x ≡ encode k x
encode_wider zero x p h = absurd (omega arith)
encode_wider (suc k) x p h =
    elim (dec_lt x 128) [
      | yes l ↦ rw (encode_last (suc k) x l, encode_last k x l)
      | no l ↦ let top : x / 128 < 128 ^ k = omega (arith, pow-suc 128 k) in
          let rest = encode_wider k (x / 128) (more_bytes k (x / 128) (omega arith) top) top in
          rw (encode_more (suc k) x (omega arith), encode_more k x (omega arith), rest)
    ]

-- Two different byte strings never read as the same number.
pub decode_injective :
    (k : ℕ) (s s' : List ℕ) (v : ℕ) →
    Bytes s →
    Bytes s' →
    decode k s ≡ number v (length s) →
    decode k s' ≡ number v (length s') →
    s ≡ s'
decode_injective k s s' v h h' e e' =
    cc (encode_decode k s v (length s) h e, encode_decode k s' v (length s') h' e', take-length s, take-length s')

-- No written number is the beginning of another.
pub encode_prefix :
    (k x y : ℕ) (r r' : List ℕ) →
    x < 128 ^ k →
    y < 128 ^ k →
    encode k x ++ r ≡ encode k y ++ r' →
    (x ≡ y) × (r ≡ r')
unfolding encode
encode_prefix zero x y r r' hx hy e = (omega arith, e)
encode_prefix (suc k) x y r r' hx hy e =
    let same : x ≡ y = cc (decode_encode (suc k) x r (omega arith) hx, decode_encode (suc k) y r' (omega arith) hy) in
    (same, append_cancel_left (encode (suc k) y) r r' (rw same at e))

pub encode_injective :
    (k x y : ℕ) → x < 128 ^ k → y < 128 ^ k → encode k x ≡ encode k y → x ≡ y
encode_injective k x y hx hy e = (encode_prefix k x y [] [] hx hy (ap (λ (l : List ℕ). l ++ []) e)).0

pub encode_bytes : (k x : ℕ) → Bytes (encode k x)
unfolding encode
encode_bytes zero x = bytes_nil
encode_bytes (suc k) x =
    elim (dec_lt x 128) [
      | yes l ↦ rw (lt-ltb x 128 l) (bytes_cons x [] (omega arith) bytes_nil)
      | no l ↦ rw (le-ltb x 128 (omega arith)) (bytes_cons (x % 128 + 128) (encode k (x / 128)) (omega arith) (encode_bytes k (x / 128)))
    ]

-- How many bytes a written number takes: one below 128, and one more than its upper groups from there on.
pub encode_size_last : (k x : ℕ) → x < 128 → length (encode (suc k) x) ≡ 1
unfolding encode
encode_size_last k x l = rw (lt-ltb x 128 l)

pub encode_size_more :
    (k x : ℕ) → 128 ≤ x → length (encode (suc k) x) ≡ suc (length (encode k (x / 128)))
unfolding encode
encode_size_more k x l = rw (le-ltb x 128 l)

pub encode_size_pos : (k x : ℕ) → 0 < length (encode (suc k) x)
encode_size_pos k x =
    elim (dec_lt x 128) [
      | yes l ↦ omega (arith, encode_size_last k x l)
      | no l ↦ omega (arith, encode_size_more k x (omega arith))
    ]

pub encode_size_most : (k x : ℕ) → length (encode k x) ≤ k
unfolding encode
encode_size_most zero x = omega arith
encode_size_most (suc k) x =
    elim (dec_lt x 128) [
      | yes l ↦ omega (arith, encode_size_last k x l)
      | no l ↦ omega (arith, encode_size_more k x (omega arith), encode_size_most k (x / 128))
    ]

-- A number below 128 ^ n takes at most n bytes, however many it may take.
pub encode_size_below : (n k x : ℕ) → 0 < n → x < 128 ^ n → length (encode k x) ≤ n
unfolding encode
encode_size_below n zero x p h = omega arith
encode_size_below zero (suc k) x p h = absurd (omega arith)
encode_size_below (suc n) (suc k) x p h =
    elim (dec_lt x 128) [
      | yes l ↦ omega (arith, encode_size_last k x l)
      | no l ↦ let top : x / 128 < 128 ^ n = omega (arith, pow-suc 128 n) in
          omega (arith, encode_size_more k x (omega arith), encode_size_below n k (x / 128) (more_bytes n (x / 128) (omega arith) top) top)
    ]
