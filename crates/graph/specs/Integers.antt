-- Order and sum of integers: of natural numbers it is theirs; a ≤ b exactly when some natural number added to a gives b; hence
-- the order is transitive and sums keep it.
-- Assumes nothing.
use Rattle.std.specs.Prelude.{ℕ, suc, ◌+◌, ◌-◌, ◌≤◌, ◌<◌, ◌≡◌, ◌↔◌, ltb, ℤ, pos, negsuc, neg_ℤ, ◌+ℤ◌, ◌≤ℤ◌}
use Rattle.std.proofs.Common.{arith, sym, ap, ◌∙◌, subst, leb→le, le→leb, ltb-true, ltb-false}
use Rattle.std.proofs.Math.IntN.{+ℤ_assoc, +ℤ_comm, +ℤ-neg_ℤ_cancel}
use Rattle.std.specs.Int.Signed.{le_z_yes}
use Rattle.loops.specs.TestLaws.{cond_both}

pub pos_le : {m n : ℕ} → m ≤ n → pos m ≤ℤ pos n
pos_le {m} {n} h = le_z_yes (le→leb m n h)

pub le_pos : {m n : ℕ} → pos m ≤ℤ pos n → m ≤ n
le_pos {m} {n} h = leb→le m n h.le

-- The natural number that leads from a up to b.
gap : (a b : ℤ) → a ≤ℤ b → (n : ℕ) × (a +ℤ pos n ≡ b)
gap (pos a) (pos b) h = (b - a, ap pos (rest (le_pos h)))
  where
    rest : a ≤ b → a + (b - a) ≡ b
    rest k = omega arith
gap (pos a) (negsuc b) h = absurd h.le
gap (negsuc a) (pos b) h =
    (b + suc a, cond_both (λ z. z ≡ pos b) (ltb (b + suc a) (suc a)) _ _ (λ t. absurd (short (ltb-true (b + suc a) (suc a) t))) (λ t. ap pos rest))
  where
    short : b + suc a < suc a → ⊥
    short k = omega arith

    rest : b + suc a - suc a ≡ b
    rest = omega arith
gap (negsuc a) (negsuc b) h = (
  a - b,
  cond_both (λ z. z ≡ negsuc b) (ltb (a - b) (suc a)) _ _ (λ t. ap negsuc (rest (leb→le b a h.le)))
      (λ t. absurd (short (ltb-false (a - b) (suc a) t))),
)
  where
    short : suc a ≤ a - b → ⊥
    short k = omega arith

    rest : b ≤ a → suc a - suc (a - b) ≡ b
    rest k = omega arith

above : (a : ℤ) (n : ℕ) → a ≤ℤ (a +ℤ pos n)
above (pos a) n = pos_le (omega arith)
above (negsuc a) n =
    cond_both (λ z. negsuc a ≤ℤ z) (ltb n (suc a)) _ _ (λ t. le_z_yes (le→leb (suc a - suc n) a (omega arith))) (λ t. le_z_yes tt)

pub ≤ℤ_trans : {a b c : ℤ} → a ≤ℤ b → b ≤ℤ c → a ≤ℤ c
≤ℤ_trans {a} {b} {c} h k =
    let (m, p) = gap a b h in
    let (n, q) = gap b c k in
    subst (λ z. a ≤ℤ z) (sym (+ℤ_assoc a (pos m) (pos n)) ∙ ap (λ z. z +ℤ pos n) p ∙ q) (above a (m + n))

-- The last two summands change places.
pub +ℤ_swap : (a b c : ℤ) → a +ℤ b +ℤ c ≡ a +ℤ c +ℤ b
+ℤ_swap a b c = +ℤ_assoc a b c ∙ ap (λ z. a +ℤ z) (+ℤ_comm b c) ∙ sym (+ℤ_assoc a c b)

pub +ℤ_mono : {a b : ℤ} (c : ℤ) → a ≤ℤ b → (a +ℤ c) ≤ℤ (b +ℤ c)
+ℤ_mono {a} {b} c h =
    let (n, p) = gap a b h in
    subst (λ z. (a +ℤ c) ≤ℤ z) (+ℤ_swap a c (pos n) ∙ ap (λ z. z +ℤ c) p) (above (a +ℤ c) n)

pub +ℤ_cancel : (a b c : ℤ) → (a +ℤ c) ≤ℤ (b +ℤ c) → a ≤ℤ b
+ℤ_cancel a b c h = rw (+ℤ-neg_ℤ_cancel a c, +ℤ-neg_ℤ_cancel b c) at (+ℤ_mono (neg_ℤ c) h)

-- A total x becomes y when a is taken off and b put on: x ≤ y exactly when a ≤ b.
pub exchange : {x y a b : ℤ} → y +ℤ a ≡ x +ℤ b → (x ≤ℤ y) ↔ (a ≤ℤ b)
exchange {x} {y} {a} {b} e = (down, up)
  where
    down : x ≤ℤ y → a ≤ℤ b
    down h = +ℤ_cancel a b x (rw (e, +ℤ_comm x a, +ℤ_comm x b) at (+ℤ_mono a h))

    up : a ≤ℤ b → x ≤ℤ y
    up h = +ℤ_cancel x y a (rw (+ℤ_comm a x, +ℤ_comm b x, ← e) at (+ℤ_mono x h))
