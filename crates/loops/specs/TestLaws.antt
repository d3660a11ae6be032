-- Laws of tests: a truth value is one of two, what "and", "or" and "exclusive or" mean, what a choice comes to, and a test of
-- all numbers below a bound holds if it holds of each. Assumes nothing.
use Rattle.std.specs.Prelude.{ℕ, zero, suc, ◌+◌, ◌<◌, ◌≡◌, refl, ◌↔◌, ◌≢◌, ◌⊎◌, Bool, true, false, cond, not, ◌&&◌, ◌||◌}
use Rattle.std.proofs.Math.Decide.{dec_lt}
use Rattle.std.proofs.Common.{add-one, arith, subst, sym, inl, inr}
use Rattle.std.proofs.Math.Bool.{xor}
use Rattle.loops.specs.Below.{choose, all_below}

pub truth : (b : Bool) → (b ≡ true) ⊎ (b ≡ false)
truth true = inl refl
truth false = inr refl

pub clash {ℓ} : {X : Type ℓ} {b : Bool} → b ≡ true → b ≡ false → X
clash p q = let z : ◌≡◌ {A = ℕ} 0 1 = cc in absurd (omega arith)

pub and_first : (a b : Bool) → (a && b) ≡ true → a ≡ true
and_first true b h = refl
and_first false b h = h

pub and_second : (a b : Bool) → (a && b) ≡ true → b ≡ true
and_second true b h = h
and_second false b h = clash h refl

pub and_both : (a b : Bool) → a ≡ true → b ≡ true → (a && b) ≡ true
and_both a b p q = rw (p, q)

pub and_miss : (a b : Bool) → (a && b) ≡ false → a ≡ true → b ≡ false
and_miss true b h p = h
and_miss false b h p = clash p refl

-- Tests that pass together are the same.
pub same_test : (a b : Bool) → (a ≡ true → b ≡ true) → (b ≡ true → a ≡ true) → a ≡ b
same_test true b f g = sym (f refl)
same_test false true f g = g refl
same_test false false f g = refl

pub or_either : (a b : Bool) → (a || b) ≡ true → (a ≡ true) ⊎ (b ≡ true)
or_either true b h = inl refl
or_either false b h = inr h

pub or_neither : (a b : Bool) → (a || b) ≡ false → (a ≡ false) × (b ≡ false)
or_neither true b h = clash refl h
or_neither false b h = (refl, h)

-- "Not a, or b": if a, then b.
pub or_means : (a b : Bool) → ((not a || b) ≡ true) ↔ (a ≡ true → b ≡ true)
or_means true b = (λ h _. h, λ h. h refl)
or_means false b = (λ h p. clash p refl, λ h. refl)

pub xor_means : (a b : Bool) → (xor a b ≡ true) ↔ (a ≢ b)
unfolding xor
xor_means true true = (λ h p. clash h refl, λ d. absurd (d refl))
xor_means true false = (λ h p. clash refl p, λ d. refl)
xor_means false true = (λ h p. clash p refl, λ d. refl)
xor_means false false = (λ h p. clash h refl, λ d. absurd (d refl))

-- Of a choice, what holds of both sides.
pub cond_both : {A : Type 0} (P : A → Type 0) (b : Bool) (x y : A) → (b ≡ true → P x) → (b ≡ false → P y) → P (cond b x y)
cond_both P true x y f g = f refl
cond_both P false x y f g = g refl

pub choose_both : {A : Type 0} (P : A → Type 0) (b : Bool) (x y : Unit {0} → A) → (b ≡ true → P (x tt)) → (b ≡ false → P (y tt)) → P (choose b x y)
choose_both P true x y f g = f refl
choose_both P false x y f g = g refl

pub all_at : (n : ℕ) (p : ℕ → Bool) → all_below n p ≡ true → (i : ℕ) → i < n → p i ≡ true
unfolding all_below
all_at zero p h i l = absurd (omega arith)
all_at (suc n) p h i l =
    elim (dec_lt i n) [
      | yes k ↦ all_at n p (and_first (all_below n p) (p n) h) i k
      | no k ↦ let same : n ≡ i = omega arith in subst (λ (j : ℕ). p j ≡ true) same (and_second (all_below n p) (p n) h)
    ]

pub all_of : (n : ℕ) (p : ℕ → Bool) → ((i : ℕ) → i < n → p i ≡ true) → all_below n p ≡ true
unfolding all_below
all_of zero p h = refl
all_of (suc n) p h = and_both (all_below n p) (p n) (all_of n p (λ i l. h i (omega arith))) (h n (omega arith))

-- One number of which it does not hold is enough.
pub all_miss : (n : ℕ) (p : ℕ → Bool) (i : ℕ) → i < n → p i ≡ false → all_below n p ≡ false
all_miss n p i l q = missed (truth (all_below n p))
  where
    missed : (all_below n p ≡ true) ⊎ (all_below n p ≡ false) → all_below n p ≡ false
    missed (inl h) = clash (all_at n p h i l) q
    missed (inr h) = h

-- A loop that has passed i numbers passes one more.
pub all_more : (i : ℕ) (p : ℕ → Bool) → all_below i p ≡ true → p i ≡ true → all_below (i + 1) p ≡ true
unfolding all_below
all_more i p h q = rw add-one (and_both (all_below i p) (p i) h q)

pub all_same :
    (n : ℕ) (p q : ℕ → Bool) → ((i : ℕ) → i < n → p i ≡ q i) → all_below n p ≡ all_below n q
unfolding all_below
all_same zero p q h = refl
all_same (suc n) p q h = rw (all_same n p q (λ i l. h i (omega arith)), h n (omega arith))

-- One number more.
pub all_next : (k : ℕ) (p : ℕ → Bool) (h b : Bool) → h ≡ all_below k p → b ≡ p k → (h && b) ≡ all_below (k + 1) p
unfolding all_below
all_next k p h b e q = rw (add-one, e, q)
