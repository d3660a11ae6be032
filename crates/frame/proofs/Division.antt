-- Bytes divide by k exactly if they are the joined shortest forms of numbers that fit into k bytes, and then into these numbers
-- alone; and so it is with question 1, where k is `number_bytes`. Assumes nothing.
use Prim.Native.Nat.{ℕ, zero, suc, ◌^◌, ◌<◌, ◌≤◌}
use Rattle.std.proofs.Math.Nat.{one-le-pow}
use Rattle.std.proofs.Common.{arith, sym, ◌∙◌, take-append-drop}
use Rattle.std.proofs.Math.Path.{◌≡◌, refl, subst}
use Rattle.std.specs.Prelude.{◌↔◌, drop}
use mathlib.Core.List.{List, [], ◌∷◌, flat_map}
use Rattle.std.proofs.Math.Option.{Option, some, none, map}
use Rattle.std.proofs.Math.ListN.{length, length-append}
use Rattle.std.proofs.Math.Seq.{drop-append_seam}
use Rattle.number.specs.Number.{Bytes, encode, Decoded, decode}
use Rattle.number.specs.Number.Decoded.{number}
use Rattle.number.proofs.Laws.{bytes_drop, decode_encode, encode_decode, decode_bound, encode_size_pos, decode_size}
use Rattle.limits.specs.Limits.{largest, max_number, number_bytes}
use Rattle.frame.specs.Job.{bytes_by, bytes_of}
use Rattle.frame.specs.Meaning.{SmallBy, Small, DividesBy, Divides}
use Rattle.frame.specs.Questions.{front, divide_up_to, divide_by, divide, numbers}

-- ---- by any number of bytes

-- A number takes a byte at least, where it may take one.
size_pos : (k v : ℕ) → 0 < k → 0 < length (encode k v)
size_pos zero v p = absurd (omega arith)
size_pos (suc k) v p = encode_size_pos k v

module _ (k : ℕ) where
  -- One step of the division.
  pub divide_by_end : (most : ℕ) → divide_up_to k most [] ≡ some []
  unfolding divide_up_to
  divide_by_end zero = refl
  divide_by_end (suc most) = refl

  pub divide_by_number :
      (most : ℕ) (s : List ℕ) (v n : ℕ) →
      decode k s ≡ number v n →
      divide_up_to k (suc most) s ≡ map (v ∷◌) (divide_up_to k most (drop n s))
  unfolding divide_up_to front
  divide_by_number most [] v n e = absurd (omega (arith, decode_size k [] v n e))
  divide_by_number most (b ∷ s) v n e = rw e

  pub divide_by_none : (most : ℕ) (s : List ℕ) → 0 < length s → decode k s ≡ Decoded.none → divide_up_to k most s ≡ none
  unfolding divide_up_to front
  divide_by_none most [] l e = absurd (omega arith)
  divide_by_none zero (b ∷ s) l e = refl
  divide_by_none (suc most) (b ∷ s) l e = rw e

  divides_nil : DividesBy k [] []
  unfolding flat_map
  divides_nil = record { small = λ i. omega arith; joined = refl }

  pub small_by_cons : (v : ℕ) (ns : List ℕ) → v ≤ largest k → SmallBy k ns → SmallBy k (v ∷ ns)
  small_by_cons v ns l h zero = l
  small_by_cons v ns l h (suc i) = h i

  divides_cons : (s ns : List ℕ) (v n : ℕ) → Bytes s → decode k s ≡ number v n → DividesBy k (drop n s) ns → DividesBy k s (v ∷ ns)
  unfolding flat_map
  divides_cons s ns v n h e d =
      record {
        small = small_by_cons v ns (omega (arith, decode_bound k s v n h e)) d.small;
        joined = rw (d.joined, encode_decode k s v n h e) (take-append-drop n s);
      }

  -- What follows a number that was found.
  sound_rest :
      (s : List ℕ) (v n : ℕ) →
      Bytes s →
      decode k s ≡ number v n →
      (r : Option (List ℕ)) →
      ((ns : List ℕ) → r ≡ some ns → DividesBy k (drop n s) ns) →
      (ns : List ℕ) →
      map (v ∷◌) r ≡ some ns →
      DividesBy k s ns
  sound_rest s v n h e none rec ns q = let z : ◌≡◌ {A = ℕ} 0 1 = cc in absurd (omega arith)
  sound_rest s v n h e (some ms) rec ns q =
      let same : v ∷ ms ≡ ns = cc in
      subst (λ (l : List ℕ). DividesBy k s l) same (divides_cons s ms v n h e (rec ms refl))

  sound_step :
      (most b : ℕ) (s ns : List ℕ) →
      ((s' ns' : List ℕ) → Bytes s' → divide_up_to k most s' ≡ some ns' → DividesBy k s' ns') →
      Bytes (b ∷ s) →
      (r : Decoded) →
      decode k (b ∷ s) ≡ r →
      divide_up_to k (suc most) (b ∷ s) ≡ some ns →
      DividesBy k (b ∷ s) ns
  sound_step most b s ns rec h Decoded.none e q =
      let z : ◌≡◌ {A = ℕ} 0 1 = cc (divide_by_none (suc most) (b ∷ s) (omega arith) e) in absurd (omega arith)
  sound_step most b s ns rec h (number v n) e q =
      sound_rest (b ∷ s) v n h e (divide_up_to k most (drop n (b ∷ s))) (λ ms. rec (drop n (b ∷ s)) ms (bytes_drop n (b ∷ s) h)) ns
      (sym (divide_by_number most (b ∷ s) v n e) ∙ q)

  -- What the division finds are numbers whose shortest forms are the bytes.
  divide_by_sound : (most : ℕ) (s ns : List ℕ) → Bytes s → divide_up_to k most s ≡ some ns → DividesBy k s ns
  unfolding divide_up_to
  divide_by_sound zero [] ns h e = let same : [] ≡ ns = cc in subst (λ (l : List ℕ). DividesBy k [] l) same divides_nil
  divide_by_sound zero (b ∷ s) ns h e = let z : ◌≡◌ {A = ℕ} 0 1 = cc in absurd (omega arith)
  divide_by_sound (suc most) [] ns h e = let same : [] ≡ ns = cc in subst (λ (l : List ℕ). DividesBy k [] l) same divides_nil
  divide_by_sound (suc most) (b ∷ s) ns h e = sound_step most b s ns (λ s' ns'. divide_by_sound most s' ns') h (decode k (b ∷ s)) refl e

  -- Numbers that fit are found again in their joined shortest forms, if a number may take a byte at all.
  module _ (p : 0 < k) where
    pub divide_by_complete : (most : ℕ) (ns : List ℕ) → SmallBy k ns → length (bytes_by k ns) ≤ most → divide_up_to k most (bytes_by k ns) ≡ some ns
    unfolding flat_map
    divide_by_complete most [] h l = divide_by_end most
    divide_by_complete zero (v ∷ ns) h l = absurd (omega (arith, size_pos k v p, length-append (encode k v) (bytes_by k ns)))
    divide_by_complete (suc most) (v ∷ ns) h l =
        let fits : v < 128 ^ k = omega (arith, h 0, one-le-pow k 128 (omega arith)) in
        let found : decode k (bytes_by k (v ∷ ns)) ≡ number v (length (encode k v)) = decode_encode k v (bytes_by k ns) p fits in
        let rest : length (bytes_by k ns) ≤ most = omega (arith, size_pos k v p, length-append (encode k v) (bytes_by k ns)) in
        rw (divide_by_number most (bytes_by k (v ∷ ns)) v (length (encode k v)) found, drop-append_seam, divide_by_complete most ns (λ i. h (suc i)) rest)

    -- The division finds the numbers ns exactly if the bytes divide into ns.
    pub division_by : (s ns : List ℕ) → Bytes s → (divide_by k s ≡ some ns) ↔ DividesBy k s ns
    division_by s ns h = (
      divide_by_sound (length s) s ns h,
      λ d. subst (λ (l : List ℕ). divide_by k l ≡ some ns) d.joined (divide_by_complete (length (bytes_by k ns)) ns d.small (omega arith)),
    )

    -- Bytes divide in one way only.
    pub division_by_unique : (s ns ns' : List ℕ) → Bytes s → DividesBy k s ns → DividesBy k s ns' → ns ≡ ns'
    division_by_unique s ns ns' h d d' = cc ((division_by s ns h).1 d, (division_by s ns' h).1 d')

-- ---- by the bytes of a job's numbers

pub divide_end : (most : ℕ) → divide most [] ≡ some []
divide_end = divide_by_end number_bytes

pub divide_number :
    (most : ℕ) (s : List ℕ) (v n : ℕ) →
    decode number_bytes s ≡ number v n →
    divide (suc most) s ≡ map (v ∷◌) (divide most (drop n s))
divide_number = divide_by_number number_bytes

pub divide_none : (most : ℕ) (s : List ℕ) → 0 < length s → decode number_bytes s ≡ Decoded.none → divide most s ≡ none
divide_none = divide_by_none number_bytes

pub small_cons : (v : ℕ) (ns : List ℕ) → v ≤ max_number → Small ns → Small (v ∷ ns)
small_cons = small_by_cons number_bytes

pub divide_complete : (most : ℕ) (ns : List ℕ) → Small ns → length (bytes_of ns) ≤ most → divide most (bytes_of ns) ≡ some ns
divide_complete = divide_by_complete number_bytes (omega arith)

-- Question 1 is answered "yes", with the numbers ns, exactly if the frame divides into ns.
pub division : (s ns : List ℕ) → Bytes s → (numbers s ≡ some ns) ↔ Divides s ns
division = division_by number_bytes (omega arith)

-- It divides in one way only.
pub division_unique : (s ns ns' : List ℕ) → Bytes s → Divides s ns → Divides s ns' → ns ≡ ns'
division_unique = division_by_unique number_bytes (omega arith)
