-- Laws of `gather` and `tabulate`: what they hold, in which order, at which place; the sum over what is gathered; a list is
-- tabulated from its own elements. Assumes nothing.
use Prim.Native.Nat.{ℕ, zero, suc, ◌<◌}
use Rattle.std.proofs.Math.Decide.{ℕ_discrete, dec_lt}
use native.Mathlib.Omega.{arith}
use Rattle.std.specs.Prelude.{◌≡◌, ◌⊎◌, length, get_or}
use Rattle.std.proofs.Math.Path.{refl, ap, ap₂}
use Rattle.std.proofs.Common.{◌∙◌, inl, inr, ext_get_or}
use mathlib.Core.List.Memᴰ
use mathlib.Core.List.{List, [], ◌∷◌, ◌++◌, Memᴰ}
use Rattle.std.proofs.Math.ListN.{length-append, get_or-append}
use Rattle.std.proofs.Math.Seq.{get_or_at}
use Rattle.loops.specs.Below.{sum}
use Rattle.loops.specs.Loop.{gather, tabulate}
use Rattle.loops.specs.SumLaws.{sum_over, sum_over_append}
use Rattle.loops.specs.Ordered.{Ordered, ordered_append}

module _ {A : Type 0} where
  pub gather_has : (n : ℕ) (f : ℕ → List A) (i : ℕ) {x : A} → i < n → Memᴰ x (f i) → Memᴰ x (gather n f)
  unfolding gather
  gather_has zero f i h m = absurd (omega arith)
  gather_has (suc n) f i {x} h m = elim (ℕ_discrete i n) [
    | yes q ↦ Memᴰ.append_right (gather n f) (rw q at m)
    | no q ↦ Memᴰ.append_left (f n) (gather_has n f i (omega arith) m)
  ]

  pub gather_from : (n : ℕ) (f : ℕ → List A) {x : A} → Memᴰ x (gather n f) → (i : ℕ) × (i < n) × Memᴰ x (f i)
  unfolding gather
  gather_from zero f m = absurd (Memᴰ.not-nil m)
  gather_from (suc n) f {x} m = of (λ l. gather_from n f l) (Memᴰ.append_cases (gather n f) m)
    where
      of :
          (Memᴰ x (gather n f) → (i : ℕ) × (i < n) × Memᴰ x (f i))
          → Memᴰ x (gather n f) ⊎ Memᴰ x (f n) → (i : ℕ) × (i < suc n) × Memᴰ x (f i)
      of before (inl l) =
          let r = before l in
          (r.0, omega (arith, r.1), r.2)
      of before (inr r) = (n, omega arith, r)

  pub gather_ordered :
      (R : A → A → Type 0) (n : ℕ) (f : ℕ → List A) → ((i : ℕ) → i < n → Ordered R (f i))
      → ((i j : ℕ) (x y : A) → i < j → j < n → Memᴰ x (f i) → Memᴰ y (f j) → R x y) → Ordered R (gather n f)
  unfolding gather
  gather_ordered R zero f each across = tt
  gather_ordered R (suc n) f each across =
      ordered_append R (gather n f) (f n)
      (gather_ordered R n f (λ i h. each i (omega arith)) (λ i j x y l h m m'. across i j x y l (omega arith) m m'))
      (each n (omega arith))
      λ x y m m'.
      let r = gather_from n f m in
      across r.0 n x y r.1 (omega arith) r.2 m'

  -- Equal parts make equal lists.
  pub gather_same : (n : ℕ) (f g : ℕ → List A) → ((i : ℕ) → i < n → f i ≡ g i) → gather n f ≡ gather n g
  unfolding gather
  gather_same zero f g h = refl
  gather_same (suc n) f g h = ap₂ ◌++◌ (gather_same n f g (λ i l. h i (omega arith))) (h n (omega arith))

  pub gather_sum : (n : ℕ) (g : ℕ → List A) (f : A → ℕ) → sum_over f (gather n g) ≡ sum n (λ i. sum_over f (g i))
  unfolding gather sum sum_over
  gather_sum zero g f = refl
  gather_sum (suc n) g f = omega (arith, sum_over_append f (gather n g) (g n), gather_sum n g f)

module _ {A : Type 0} (f : ℕ → A) where
  pub length_tabulate : (n : ℕ) → length (tabulate n f) ≡ n
  unfolding gather
  length_tabulate zero = refl
  length_tabulate (suc n) = simp length-append (omega (arith, length_tabulate n))

  pub get_d_tabulate : (n i : ℕ) (d : A) → i < n → get_or (tabulate n f) i d ≡ f i
  unfolding gather
  get_d_tabulate zero i d l = absurd (omega arith)
  get_d_tabulate (suc n) i d l =
      elim (dec_lt i n) [
        | yes k ↦ get_or-append (tabulate n f) (f n ∷ []) d i (omega (arith, length_tabulate n)) ∙ get_d_tabulate n i d k
        | no k ↦ let same : n ≡ i = omega arith in
            get_or_at (tabulate n f) (f n) [] d i (length_tabulate n ∙ same) ∙ ap f same
      ]

-- A list is tabulated from its own elements.
pub tabulate_get_d : {A : Type 0} (xs : List A) (d : A) → tabulate (length xs) (λ i. get_or xs i d) ≡ xs
tabulate_get_d xs d =
    ext_get_or d (tabulate (length xs) (λ i. get_or xs i d)) xs (length_tabulate (λ i. get_or xs i d) (length xs))
    λ i l. get_d_tabulate (λ i. get_or xs i d) (length xs) i d (omega (arith, length_tabulate (λ i. get_or xs i d) (length xs)))
