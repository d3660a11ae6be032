-- Laws of reading numbers: what the number at a position is, and where a frame that divides has its numbers. Assumes nothing.
use Rattle.std.specs.Prelude.{ℕ, zero, suc, ◌+◌, ◌-◌, ◌<◌, ◌≤◌, ◌≡◌, refl, Some, None, length, drop, take}
use Rattle.std.proofs.Common.{arith, sym, ap, ◌∙◌, length-drop, length-append, take-append-drop, drop-drop, get_or-drop}
use mathlib.Core.List.{List, [], ◌∷◌, ◌++◌, flat_map}
use Rattle.std.proofs.Math.Seq.{drop-append_seam}
use Rattle.loops.specs.Loop.{scan}
use Rattle.number.specs.Number.{decode, encode}
use Rattle.leb128.specs.Positions.{read_at, located_value, located_refused, Stands}
use Rattle.leb128.specs.declared.Number.{Number}
use Rattle.number.proofs.Laws.{decode_encode, encode_size_pos}
use Rattle.limits.specs.Limits.{number_bytes}
use Rattle.frame.specs.Job.{bytes_of}
use Rattle.codec.specs.Numbers.{taken, taken_at, Divided, step, skipped}
use Rattle.frame.specs.Meaning.{Divides}
use Rattle.frame.proofs.RoundTrip.{flat_map_append}

-- What the reader of numbers says, in terms of what stands there.
pub taken_value : (s : List ℕ) (at : ℕ) (k : Number) → read_at number_bytes s at ≡ Some k → taken_at s at ≡ k
unfolding taken
taken_value s at k e =
    let (n, d, there) = located_value at (decode number_bytes (drop at s)) k e in
    ap (taken at) d ∙ ap (λ (p : ℕ). record { value = k.value; next = p }) (sym there)

pub taken_refused : (s : List ℕ) (at : ℕ) → read_at number_bytes s at ≡ None → taken_at s at ≡ record { value = 0; next = at }
unfolding taken
taken_refused s at e = rw (located_refused at (decode number_bytes (drop at s)) e)

-- Where the rest of a frame divides, its first number is what stands there, and what follows divides too.
pub record Next (s ns : List ℕ) (v at : ℕ) : Type 0 where
  pub next : ℕ
  pub size : next ≡ at + length (encode number_bytes v)
  pub within : next ≤ length s
  pub here : taken_at s at ≡ record { value = v; next = next }
  pub rest : Divides (drop next s) ns

pub next_number : (s ns : List ℕ) (v at : ℕ) → at ≤ length s → Divides (drop at s) (v ∷ ns) → Next s ns v at
unfolding flat_map taken
next_number s ns v at l d =
    let size : ℕ = length (encode number_bytes v) in
    let whole : encode number_bytes v ++ bytes_of ns ≡ drop at s = d.joined in
    record {
      next = at + size;
      size = refl;
      within = omega (arith, length-drop at s, ap length whole, length-append (encode number_bytes v) (bytes_of ns));
      here =
          ap (λ (t : List ℕ). taken at (decode number_bytes t)) (sym whole) ∙
          ap (taken at) (decode_encode number_bytes v (bytes_of ns) (omega arith) (omega (arith, d.small 0)));
      rest =
          record {
            small = λ i. d.small (suc i);
            joined = sym (drop-append_seam (encode number_bytes v) (bytes_of ns)) ∙ ap (drop size) whole ∙
                drop-drop size at s;
          };
    }

-- Where numbers are left, one stands, and behind it the others are left.
module _ (s : List ℕ) (at n : ℕ) where
  pub divided_stands : Divided s at n → 0 < n → Stands number_bytes s at
  divided_stands d l e = first d.ns (omega (arith, d.enough)) d.rest
    where
      first : (ns : List ℕ) → 0 < length ns → Divides (drop at s) ns → ⊥
      first [] h r = omega arith
      first (v ∷ ns) h r =
          let one = next_number s ns v at d.within r in
          let still : one.next ≡ at = ap (λ (t : Number). t.next) (sym one.here ∙ taken_refused s at e) in
          omega (arith, still, one.size, encode_size_pos (number_bytes - 1) v)

  pub divided_next : Divided s at n → (k : ℕ) (m : Number) → k < n → read_at number_bytes s at ≡ Some m → Divided s m.next k
  divided_next d k m l e = first d.ns (omega (arith, d.enough)) d.rest
    where
      first : (ns : List ℕ) → k < length ns → Divides (drop at s) ns → Divided s m.next k
      first [] h r = absurd (omega arith)
      first (w ∷ ns) h r =
          let one = next_number s ns w at d.within r in
          let there : m.next ≡ one.next = ap (λ (t : Number). t.next) (sym (taken_value s at m e) ∙ one.here) in
          record { ns = ns; enough = omega arith; within = omega (arith, there, one.within); rest = rw there one.rest }

-- A frame's bytes are those of its first i numbers, and then those of the others.
pub parts_join : (s ns : List ℕ) (i : ℕ) → Divides s ns → bytes_of (take i ns) ++ bytes_of (drop i ns) ≡ s
parts_join s ns i d =
    sym (flat_map_append (encode number_bytes) (take i ns) (drop i ns)) ∙ ap bytes_of (take-append-drop i ns) ∙ d.joined

pub drop_divides : (s ns : List ℕ) (i : ℕ) → Divides s ns → Divides (drop (length (bytes_of (take i ns))) s) (drop i ns)
drop_divides s ns i d =
    record {
      small = λ j. rw get_or-drop (d.small (i + j));
      joined =
          sym (drop-append_seam (bytes_of (take i ns)) (bytes_of (drop i ns))) ∙
          ap (drop (length (bytes_of (take i ns)))) (parts_join s ns i d);
    }

skip_from :
    (s : List ℕ) (n i at : ℕ) (ns : List ℕ) →
    at ≤ length s →
    Divides (drop at s) ns →
    n ≤ length ns →
    scan (step s) n i at ≡ at + length (bytes_of (take n ns))
unfolding scan flat_map
skip_from s zero i at ns w d l = omega arith
skip_from s (suc n) i at [] w d l = absurd (omega arith)
skip_from s (suc n) i at (v ∷ ns) w d l =
    let k = next_number s ns v at w d in
    let here : (taken_at s at).next ≡ k.next = ap (λ t. t.next) k.here in
    rw here (skip_from s n (suc i) k.next ns k.within k.rest (omega arith) ∙ simp length-append (omega (arith, k.size)))

-- Where the numbers of a frame end.
pub skip_numbers :
    (s ns : List ℕ) (i n : ℕ) →
    Divides s ns →
    i + n ≤ length ns →
    skipped s n (length (bytes_of (take i ns))) ≡ length (bytes_of (take i ns)) + length (bytes_of (take n (drop i ns)))
skip_numbers s ns i n d l =
    skip_from s n 0 (length (bytes_of (take i ns))) (drop i ns)
    (omega (arith, length-append (bytes_of (take i ns)) (bytes_of (drop i ns)), ap length (parts_join s ns i d))) (drop_divides s ns i d)
    (omega (arith, length-drop i ns))
