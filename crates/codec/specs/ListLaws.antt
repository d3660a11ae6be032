-- Laws of the first n numbers of a list: one number more, the bytes they take; and of numbers read into a list. Assumes nothing.
use Rattle.std.specs.Prelude.{ℕ, zero, suc, ◌+◌, ◌-◌, ◌*◌, ◌<◌, ◌≤◌, ◌≡◌, length, get_or, set, take, drop}
use Rattle.std.proofs.Math.Decide.{dec_le}
use Rattle.std.proofs.Common.{add-one, arith, sym, ap, ◌∙◌, length-append}
use mathlib.Core.List.{List, [], ◌∷◌, ◌++◌, flat_map, append-nil}
use Rattle.std.proofs.Math.ListN.{get_or-append}
use Rattle.std.proofs.lemmas.List.Edits.{sets, sets-eq}
use Rattle.loops.specs.Loop.{scan, gather}
use Rattle.loops.specs.ScanLaws.{scan_turn}
use Rattle.loops.specs.GatherLaws.{gather_same, length_tabulate, tabulate_get_d}
use Rattle.number.specs.Number.{encode}
use Rattle.number.proofs.Laws.{encode_size_most}
use Rattle.limits.specs.Limits.{number_bytes}
use Rattle.frame.specs.Job.{bytes_of}
use Rattle.frame.specs.Meaning.{Divides}
use Rattle.frame.proofs.RoundTrip.{flat_map_append}
use Rattle.frame.proofs.AnswerSize.{bytes_most}
use Rattle.leb128.specs.declared.Number.{Number}
use Rattle.codec.specs.Numbers.{taken_at, numbers_at, Loaded, loaded_at, load}
use Rattle.codec.specs.NumberLaws.{next_number}

-- A gathered list grows from turn to turn.
pub gather_within :
    {A B : Type 0} (g : List A → List B) (f : ℕ → List A) →
    ((e : ℕ) → length (g (gather e f)) ≤ length (g (gather (e + 1) f))) →
    (e n : ℕ) → e ≤ n → length (g (gather e f)) ≤ length (g (gather n f))
gather_within g f more e zero l =
    let none : e ≡ 0 = omega arith in
    rw none (omega arith)
gather_within g f more e (suc n) l =
    elim (dec_le e n) [
      | yes k ↦ omega (arith, gather_within g f more e n k, rw add-one at (more n))
      | no k ↦ let all : e ≡ suc n = omega arith in rw all (omega arith)
    ]

module _ (xs : List ℕ) where
  -- One number more.
  pub numbers_more : (n : ℕ) → numbers_at (n + 1) xs ≡ numbers_at n xs ++ (get_or xs n 0 ∷ [])
  unfolding gather
  numbers_more n = rw (add-one n)

  pub bytes_more : (n : ℕ) → bytes_of (numbers_at (n + 1) xs) ≡ bytes_of (numbers_at n xs) ++ encode number_bytes (get_or xs n 0)
  unfolding flat_map
  bytes_more n = rw (
    numbers_more n,
    flat_map_append (encode number_bytes) (numbers_at n xs) (get_or xs n 0 ∷ []),
    append-nil (encode number_bytes (get_or xs n 0)),
  )

  pub size_more : (n : ℕ) → length (bytes_of (numbers_at (n + 1) xs)) ≡ length (bytes_of (numbers_at n xs)) + length (encode number_bytes (get_or xs n 0))
  size_more n = ap length (bytes_more n) ∙ length-append (bytes_of (numbers_at n xs)) (encode number_bytes (get_or xs n 0))

  pub size_within : (n m : ℕ) → n ≤ m → length (bytes_of (numbers_at n xs)) ≤ length (bytes_of (numbers_at m xs))
  size_within = gather_within bytes_of (λ i. get_or xs i 0 ∷ []) (λ n. omega (arith, size_more n))

  -- No number takes more bytes than it may.
  pub size_short : (n : ℕ) → length (bytes_of (numbers_at n xs)) ≤ number_bytes * n
  size_short n =
      let ns = numbers_at n xs in
      omega (arith, bytes_most number_bytes ns (λ i. encode_size_most number_bytes (get_or ns i 0)), length_tabulate (λ i. get_or xs i 0) n)

-- A list put over the front of another is its first numbers.
pub numbers_put : (xs l : List ℕ) → length xs ≤ length l → numbers_at (length xs) (sets l 0 xs) ≡ xs
numbers_put xs l h =
    gather_same (length xs) (λ i. get_or (sets l 0 xs) i 0 ∷ []) (λ i. get_or xs i 0 ∷ [])
    (λ i k. ap (λ (x : ℕ). x ∷ []) (rw (sets-eq xs l 0 (omega arith)) (get_or-append xs (drop (0 + length xs) l) 0 i k)))
    ∙ tabulate_get_d xs 0

-- A turn of the reader.
pub number_turn :
    (s : List ℕ) (n i : ℕ) (l whole : Loaded) → scan (load s) (n - i) i l ≡ whole → i < n
    → (t : Number) → t ≡ taken_at s l.next
    → scan (load s) (n - (i + 1)) (i + 1) (loaded_at t.next (set l.values i t.value)) ≡ whole
unfolding load
number_turn s n i l whole q k t p = rw p (sym (scan_turn (load s) n i l k) ∙ q)

-- Where a part of a frame divides, its numbers are read.
pub load_numbers :
    (s : List ℕ) (n i at : ℕ) (ns xs : List ℕ) → at ≤ length s → Divides (drop at s) ns → n ≤ length ns
    → scan (load s) n i (loaded_at at xs) ≡ loaded_at (at + length (bytes_of (take n ns))) (sets xs i (take n ns))
unfolding scan flat_map load
load_numbers s zero i at ns xs w d l = ap (λ (p : ℕ). loaded_at p xs) (omega arith)
load_numbers s (suc n) i at [] xs w d l = absurd (omega arith)
load_numbers s (suc n) i at (v ∷ ns) xs w d l =
    let k = next_number s ns v at w d in
    rw k.here
    (load_numbers s n (suc i) k.next ns (set xs i v) k.within k.rest (omega arith)
    ∙ ap (λ (p : ℕ). loaded_at p (sets (set xs i v) (suc i) (take n ns))) (simp length-append (omega (arith, k.size))))
