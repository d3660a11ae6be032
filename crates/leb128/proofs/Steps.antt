-- One step of the model of reading, in the shape of the code's own tests: a number of bytes that is 0 or not, a position in the
-- slice or past it, a byte below 128 or not. Assumes nothing.
use Prim.Native.Nat.{ℕ, zero, suc, ◌+◌, ◌*◌, ◌-◌, ◌^◌, ◌<◌, ◌≤◌}
use native.Mathlib.Decide.{dec_lt}
use native.Mathlib.Omega.{arith}
use mathlib.Core.Path.{◌≡◌, refl, ap, ◌∙◌}
use mathlib.Core.List.{List}
use lib.ListN.{length, drop, get_or, drop_of_length-le}
use Rattle.number.specs.Number.{Bytes, extend, decode}
use Rattle.leb128.specs.Positions.{located, read_at, Stands, located_value, located_refused}
use Rattle.number.specs.Number.Decoded.{number}
use Rattle.std.specs.Prelude.{Some, None}
use Rattle.leb128.specs.declared.Number.{Number}
use Rattle.std.specs.Prelude.{Option, cond, eqb}
use Rattle.std.proofs.Common.{sym}
use Rattle.std.proofs.Math.Nat.{mul-le-mul_left}
use Rattle.std.proofs.lemmas.Bool.{eq-eqb, ne_eqb}
use Rattle.number.proofs.Laws.{bytes_drop, decode_bound, extend_zero, extend_more, decode_one, decode_group}

-- A number may take a byte.
pub some_byte : (k : ℕ) → suc k ≡ 0 → ⊥
some_byte k e = omega (arith, e)

pub read_none : (k : ℕ) (s : List ℕ) (at : ℕ) → k ≡ 0 → read_at k s at ≡ None
unfolding decode located
read_none k s at e = rw e

pub read_end : (k : ℕ) (s : List ℕ) (at : ℕ) → length s ≤ at → read_at k s at ≡ None
unfolding decode located
read_end zero s at l = refl
read_end (suc k) s at l = rw (drop_of_length-le s l)

pub read_last :
    (k : ℕ) (s : List ℕ) (at : ℕ) →
    (k ≡ 0 → ⊥) →
    at < length s →
    get_or s at 0 < 128 →
    read_at k s at ≡ Some (record { value = get_or s at 0; next = at + 1 })
unfolding located
read_last zero s at some within l = absurd (some refl)
read_last (suc k) s at some within l = rw (decode_one k s at within l)

-- The bytes behind the first: the number of them is one less, and the position one further.
read_rest :
    (k : ℕ) (s : List ℕ) (at : ℕ) →
    (k ≡ 0 → ⊥) →
    at < length s →
    128 ≤ get_or s at 0 →
    decode k (drop at s) ≡ extend (get_or s at 0 - 128) (decode (k - 1) (drop (at + 1) s))
read_rest zero s at some within l = absurd (some refl)
read_rest (suc k) s at some within l =
    let less : suc k - 1 ≡ k = omega arith in
    rw less (decode_group k s at within l)

module _ (k : ℕ) (s : List ℕ) (at : ℕ) (some : k ≡ 0 → ⊥) (within : at < length s) (more : 128 ≤ get_or s at 0) where
  pub read_refused : read_at (k - 1) s (at + 1) ≡ None → read_at k s at ≡ None
  unfolding located extend
  read_refused e = rw (read_rest k s at some within more, located_refused (at + 1) (decode (k - 1) (drop (at + 1) s)) e)

  pub read_padded : (r : Number) → read_at (k - 1) s (at + 1) ≡ Some r → r.value ≡ 0 → read_at k s at ≡ None
  unfolding located
  read_padded r e null =
      let p = located_value (at + 1) (decode (k - 1) (drop (at + 1) s)) r e in
      let d : decode (k - 1) (drop (at + 1) s) ≡ number 0 p.0 = p.1 ∙ ap (λ (w : ℕ). number w p.0) null in
      rw (read_rest k s at some within more, d, extend_zero)

  pub read_value :
      (r : Number) →
      read_at (k - 1) s (at + 1) ≡ Some r →
      (r.value ≡ 0 → ⊥) →
      read_at k s at ≡ Some (record { value = get_or s at 0 - 128 + 128 * r.value; next = r.next })
  unfolding located
  read_value r e pos =
      let p = located_value (at + 1) (decode (k - 1) (drop (at + 1) s)) r e in
      rw (read_rest k s at some within more, p.1, extend_more (get_or s at 0 - 128) r.value p.0 (omega arith))
      (ap (λ (n : ℕ). Some (record { value = get_or s at 0 - 128 + 128 * r.value; next = n })) (omega arith))

-- A number that was read is below 128 to the number of bytes that were allowed.
pub read_bound : (k : ℕ) (s : List ℕ) (at : ℕ) (r : Number) → Bytes s → read_at k s at ≡ Some r → r.value < 128 ^ k
read_bound k s at r h e =
    let p = located_value at (decode k (drop at s)) r e in
    decode_bound k (drop at s) r.value p.0 (bytes_drop at s h) p.1

-- What is read where bytes from 128 on have been passed whose groups make v, when the next group counts w times and o is read behind them:
-- no 0, for its last byte would be a 00 behind another byte.
unfoldable pub behind : ℕ → ℕ → Option Number → Option Number
behind v w None = None
behind v w (Some n) = cond (eqb n.value 0) None (Some (record { value = v + w * n.value; next = n.next }))

behind_none : (v w : ℕ) → behind v w None ≡ None
unfolding behind
behind_none v w = refl

-- Where the rest is refused, all is.
pub none_behind : (v w : ℕ) (o r : Option Number) → r ≡ behind v w o → o ≡ None → r ≡ None
none_behind v w o r e z = e ∙ ap (behind v w) z ∙ behind_none v w

behind_padded : (v w : ℕ) (n : Number) → n.value ≡ 0 → behind v w (Some n) ≡ None
unfolding behind
behind_padded v w n e = rw (eq-eqb n.value 0 e)

behind_value : (v w : ℕ) (n : Number) → (n.value ≡ 0 → ⊥) → behind v w (Some n) ≡ Some (record { value = v + w * n.value; next = n.next })
unfolding behind
behind_value v w n some = rw (ne_eqb n.value 0 some)

-- A byte from 128 on brings its group, and 128 times its weight too much.
pub without_mark : (v w b : ℕ) → 128 ≤ b → v + w * b - w * 128 ≡ v + w * (b - 128)
without_mark v w b more =
    let e : b - 128 + 128 ≡ b = omega arith in
    let d : w * (b - 128 + 128) ≡ w * (b - 128) + w * 128 = omega arith in
    let f : w * b ≡ w * (b - 128) + w * 128 = rw e at d in
    omega arith

-- A byte from 128 on is passed, the first or one behind others.
module _ (m n : ℕ) (s : List ℕ) (at : ℕ) (left : m ≡ n + 1) (within : at < length s) (more : 128 ≤ get_or s at 0) where
  passed_by : (o : Option Number) → read_at (m - 1) s (at + 1) ≡ o → read_at m s at ≡ behind (get_or s at 0 - 128) 128 o
  passed_by None e = rw (behind_none (get_or s at 0 - 128) 128) (read_refused m s at (λ z. omega (arith, z)) within more e)
  passed_by (Some r) e =
      elim (dec_lt 0 r.value) [
        | no z ↦
            rw (behind_padded (get_or s at 0 - 128) 128 r (omega arith)) (read_padded m s at (λ z. omega (arith, z)) within more r e (omega arith))
        | yes p ↦
            rw (behind_value (get_or s at 0 - 128) 128 r (λ z. omega (arith, z)))
            (read_value m s at (λ z. omega (arith, z)) within more r e (λ z. omega (arith, z)))
      ]

  pub passed_first : read_at m s at ≡ behind (get_or s at 0 - 128) 128 (read_at n s (at + 1))
  passed_first = let e : m - 1 ≡ n = omega arith in passed_by (read_at n s (at + 1)) (ap (λ (x : ℕ). read_at x s (at + 1)) e)

  module _ (v w : ℕ) where
    further_by :
        (o : Option Number) → behind v w (behind (get_or s at 0 - 128) 128 o) ≡ behind (v + w * (get_or s at 0 - 128)) (w * 128) o
    further_by None = rw (behind_none (get_or s at 0 - 128) 128, behind_none v w, behind_none (v + w * (get_or s at 0 - 128)) (w * 128))
    further_by (Some r) =
        elim (dec_lt 0 r.value) [
          | no z ↦
              rw (behind_padded (get_or s at 0 - 128) 128 r (omega arith), behind_none v w)
              (sym (behind_padded (v + w * (get_or s at 0 - 128)) (w * 128) r (omega arith)))
          | yes p ↦
              rw (
                behind_value (get_or s at 0 - 128) 128 r (λ z. omega (arith, z)),
                behind_value v w (record { value = get_or s at 0 - 128 + 128 * r.value; next = r.next }) (λ z. omega (arith, z)),
                behind_value (v + w * (get_or s at 0 - 128)) (w * 128) r (λ z. omega (arith, z)),
              )
              (ap (λ (x : ℕ). Some (record { value = x; next = r.next })) (omega arith))
        ]

    pub further : behind v w (read_at m s at) ≡ behind (v + w * get_or s at 0 - w * 128) (w * 128) (read_at n s (at + 1))
    further = rw (without_mark v w (get_or s at 0) more, passed_first) (further_by (read_at n s (at + 1)))

-- A byte below 128 ends the number, and is not 0.
module _ (m : ℕ) (s : List ℕ) (at v w : ℕ) (some : m ≡ 0 → ⊥) (within : at < length s) (ends : get_or s at 0 < 128) where
  pub ends_padded : get_or s at 0 ≡ 0 → behind v w (read_at m s at) ≡ None
  ends_padded e = rw (read_last m s at some within ends) (behind_padded v w _ e)

  pub ends_value : (get_or s at 0 ≡ 0 → ⊥) → behind v w (read_at m s at) ≡ Some (record { value = v + w * get_or s at 0; next = at + 1 })
  ends_value e = rw (read_last m s at some within ends) (behind_value v w _ e)

-- The next group counts 128 ^ k times, and that is little while a byte of four is left; the groups passed stay below it.
pub weight_small : (k : ℕ) → k < 4 → 128 ^ k ≤ 2097152
weight_small zero l = omega arith
weight_small (suc zero) l = omega arith
weight_small (suc (suc zero)) l = omega arith
weight_small (suc (suc (suc zero))) l = omega arith
weight_small (suc (suc (suc (suc k)))) l = absurd (omega arith)

group_below : (v w g : ℕ) → v < w → g < 128 → v + w * g < w * 128
group_below v w g l h = let m : w * g ≤ w * 127 = mul-le-mul_left w (omega arith) in omega arith

-- So do they with a byte more, and a number of four bytes fits, with a byte from 128 on too.
pub passed_below : (v w b : ℕ) → v < w → 128 ≤ b → b < 256 → v + w * b - w * 128 < w * 128
passed_below v w b l more h = rw (without_mark v w b more) (group_below v w (b - 128) l (omega arith))

pub byte_fits : (k v w b : ℕ) → w ≡ 128 ^ k → v < w → b < 256 → k < 4 → v + w * b < 536870912
byte_fits k v w b e l h few =
    elim (dec_lt b 128) [
      | yes small ↦ omega (arith, e, weight_small k few, group_below v w b l small)
      | no more ↦ omega (arith, e, weight_small k few, without_mark v w b (omega arith), group_below v w (b - 128) l (omega arith))
    ]

-- The mark of a byte from 128 on is in what has been added up.
pub mark_within : (v w b : ℕ) → 128 ≤ b → w * 128 ≤ v + w * b
mark_within v w b more = omega (arith, mul-le-mul_left w more)

-- So what has been added up tells whether the byte is below 128.
pub unmarked : (v w b : ℕ) → v + w * b < w * 128 → b < 128
unmarked v w b l =
    elim (dec_lt b 128) [
      | yes small ↦ small
      | no more ↦ absurd (omega (arith, mark_within v w b (omega arith)))
    ]

pub marked : (v w b : ℕ) → v < w → w * 128 ≤ v + w * b → 128 ≤ b
marked v w b l m =
    elim (dec_lt b 128) [
      | yes small ↦ absurd (omega (arith, group_below v w b l small))
      | no more ↦ omega arith
    ]

-- Where a number is known to stand, some number stands behind the bytes passed, within the slice; a last byte ends it, and is 0 at the front only.
module _ (k : ℕ) (s : List ℕ) (at : ℕ) (stands : Stands k s at) where
  pub known_some : k ≡ 0 → ⊥
  known_some e = stands (read_none k s at e)

  pub known_within : at < length s
  known_within =
      elim (dec_lt at (length s)) [
        | yes l ↦ l
        | no l ↦ absurd (stands (read_end k s at (omega arith)))
      ]

  module _ (more : 128 ≤ get_or s at 0) where
    pub known_rest : Stands (k - 1) s (at + 1)
    known_rest e = stands (read_refused k s at known_some known_within more e)

    pub known_value :
        (r : Number) →
        read_at (k - 1) s (at + 1) ≡ Some r →
        read_at k s at ≡ Some (record { value = get_or s at 0 - 128 + 128 * r.value; next = r.next })
    known_value r e = read_value k s at known_some known_within more r e (λ z. stands (read_padded k s at known_some known_within more r e z))

  pub known_last : k ≡ 1 → get_or s at 0 < 128
  known_last one =
      elim (dec_lt (get_or s at 0) 128) [
        | yes l ↦ l
        | no l ↦ absurd (known_rest (omega arith) (read_none (k - 1) s (at + 1) (omega arith)))
      ]
