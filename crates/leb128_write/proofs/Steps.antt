-- One step of the layout, in the shape of the code's own tests: a number of bytes that is 0 or not, a number below 128 or not.
-- Assumes nothing.
use Prim.Native.Nat.{ℕ, zero, suc, ◌+◌, ◌-◌, ◌/◌, ◌%◌, ◌<◌, ◌≤◌}
use native.Mathlib.Omega.{arith}
use mathlib.Core.Path.{◌≡◌, refl, ap, ◌∙◌}
use mathlib.Core.List.{[], ◌∷◌}
use borrow.Author.Tests.{lt-ltb, le-ltb}
use Rattle.number.specs.Number.{encode}

pub encode_none : (k x : ℕ) → k ≡ 0 → encode k x ≡ []
unfolding encode
encode_none k x e = rw e

pub encode_last : (k x : ℕ) → (k ≡ 0 → ⊥) → x < 128 → encode k x ≡ x ∷ []
unfolding encode
encode_last zero x some l = absurd (some refl)
encode_last (suc k) x some l = rw (lt-ltb x 128 l)

pub encode_more :
    (k x : ℕ) → (k ≡ 0 → ⊥) → 128 ≤ x → encode k x ≡ (x % 128 + 128) ∷ encode (k - 1) (x / 128)
unfolding encode
encode_more zero x some l = absurd (some refl)
encode_more (suc k) x some l =
    let less : suc k - 1 ≡ k = omega arith in
    rw (le-ltb x 128 l, less)

-- The same where the number of bytes that are left is counted from the other end.
pub encode_further :
    (k n x : ℕ) → k ≡ n + 1 → 128 ≤ x → encode k x ≡ (x % 128 + 128) ∷ encode n (x / 128)
encode_further k n x e l =
    let less : k - 1 ≡ n = omega arith in
    encode_more k x (λ z. omega (arith, z)) l ∙ ap (λ (m : ℕ). (x % 128 + 128) ∷ encode m (x / 128)) less
