-- Sums of any kind over the numbers below a bound: with equal summands, and with one summand changed. Assumes nothing.
use Prim.Native.Nat.{ℕ, zero, suc, ◌<◌}
use Rattle.std.proofs.Common.{arith, ap, ◌∙◌}
use Rattle.std.proofs.Math.Decide.{ℕ_discrete}
use Rattle.std.specs.Prelude.{◌≡◌, ◌≢◌, ◌⊎◌}
use Rattle.std.proofs.Math.Path.{refl, ap₂}
use Rattle.std.proofs.Math.Logic.{inl, inr}

-- A number below suc m is m or below m.
pub last_or_below : {m i : ℕ} → i < suc m → (i ≡ m) ⊎ (i < m)
last_or_below {m} {i} h = elim (ℕ_discrete i m) [ yes e ↦ inl e | no d ↦ inr (omega arith) ]

module _ {A : Type 0} (◌⊕◌ : A → A → A) (z : A) where
  infixl 60 ◌⊕◌
  unfoldable pub fold : ℕ → (ℕ → A) → A
  fold zero f = z
  fold (suc m) f = fold m f ⊕ f m

  pub fold_same : (m : ℕ) (f g : ℕ → A) → ((i : ℕ) → i < m → f i ≡ g i) → fold m f ≡ fold m g
  unfolding fold
  fold_same zero f g h = refl
  fold_same (suc m) f g h = ap₂ ◌⊕◌ (fold_same m f g (λ i k. h i (omega arith))) (h m (omega arith))

  -- The last two summands may change places.
  pub fold_change :
      ((a b c : A) → (a ⊕ b) ⊕ c ≡ (a ⊕ c) ⊕ b) →
      (m : ℕ) (f g : ℕ → A) (i : ℕ) →
      i < m →
      ((j : ℕ) → j < m → j ≢ i → f j ≡ g j) →
      fold m f ⊕ g i ≡ fold m g ⊕ f i
  unfolding fold
  fold_change swap zero f g i k h = absurd (omega arith)
  fold_change swap (suc m) f g i k h = elim (last_or_below k) [ inl e ↦ at_last e | inr l ↦ before l (fold_change swap m f g i l (λ j b. h j (omega arith))) ]
    where
      at_last : i ≡ m → (fold m f ⊕ f m) ⊕ g i ≡ (fold m g ⊕ g m) ⊕ f i
      at_last e = rw (e, fold_same m f g (λ j b. h j (omega arith) (omega arith))) (swap (fold m g) (f m) (g m))

      before : i < m → fold m f ⊕ g i ≡ fold m g ⊕ f i → (fold m f ⊕ f m) ⊕ g i ≡ (fold m g ⊕ g m) ⊕ f i
      before l e = rw (h m (omega arith) (omega arith)) (swap (fold m f) (g m) (g i) ∙ ap (λ x. x ⊕ g m) e ∙ swap (fold m g) (f i) (g m))
