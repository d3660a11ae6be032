-- Laws of `sum`: sums of equal, greater, added and changed terms, and a sum over the elements of a list.
-- Assumes nothing.
use Rattle.std.specs.Prelude.{ℕ, zero, suc, ◌+◌, ◌*◌, ◌≤◌, ◌<◌, ◌≡◌, ◌≢◌, length, get_or}
use Rattle.std.proofs.Math.Path.{refl}
use Rattle.std.proofs.Common.{sym, ap, ◌∙◌, add-one}
use mathlib.Core.List.{List, [], ◌∷◌, ◌++◌, Memᴰ}
use Rattle.std.proofs.Math.Nat.{suc-mul}
use native.Mathlib.Omega.{arith}
use Rattle.std.proofs.Math.Decide.{ℕ_discrete}
use Rattle.loops.specs.Below.{sum}
use Rattle.loops.specs.Loop.{put}
use Rattle.loops.specs.PutLaws.{put_same, put_other}
use Rattle.loops.specs.FoldLaws.{fold, fold_same, fold_change}

sum_fold : (n : ℕ) (f : ℕ → ℕ) → sum n f ≡ fold ◌+◌ 0 n f
unfolding sum fold
sum_fold zero f = refl
sum_fold (suc n) f = ap (λ k. k + f n) (sum_fold n f)

pub sum_same : (n : ℕ) (f g : ℕ → ℕ) → ((i : ℕ) → i < n → f i ≡ g i) → sum n f ≡ sum n g
sum_same n f g same = sum_fold n f ∙ fold_same ◌+◌ 0 n f g same ∙ sym (sum_fold n g)

pub sum_le : (n : ℕ) (f g : ℕ → ℕ) → ((i : ℕ) → i < n → f i ≤ g i) → sum n f ≤ sum n g
unfolding sum
sum_le zero f g le = omega arith
sum_le (suc n) f g le = omega (arith, sum_le n f g (λ i h. le i (omega arith)), le n (omega arith))

pub sum_zero : (n : ℕ) (f : ℕ → ℕ) → ((i : ℕ) → i < n → f i ≡ 0) → sum n f ≡ 0
unfolding sum
sum_zero zero f none = refl
sum_zero (suc n) f none = omega (arith, sum_zero n f (λ i h. none i (omega arith)), none n (omega arith))

pub sum_plus : (n : ℕ) (f g : ℕ → ℕ) → sum n (λ i. f i + g i) ≡ sum n f + sum n g
unfolding sum
sum_plus zero f g = omega arith
sum_plus (suc n) f g = omega (arith, sum_plus n f g)

-- The first term taken out.
pub sum_front : (n : ℕ) (f : ℕ → ℕ) → sum (suc n) f ≡ f 0 + sum n (λ i. f (suc i))
unfolding sum
sum_front zero f = omega arith
sum_front (suc n) f = omega (arith, sum_front n f)

-- Equal sums of terms of which none is greater than its counterpart: equal terms.
pub sum_squeeze :
    (n : ℕ) (f g : ℕ → ℕ) → ((i : ℕ) → i < n → f i ≤ g i) → sum n g ≤ sum n f → (i : ℕ) → i < n → f i ≡ g i
unfolding sum
sum_squeeze zero f g le total i h = absurd (omega arith)
sum_squeeze (suc n) f g le total i h =
    let below : sum n f ≤ sum n g = sum_le n f g (λ j l. le j (omega arith)) in
    elim (ℕ_discrete i n) [
      | yes q ↦ rw q (omega (arith, le n (omega arith)))
      | no q ↦ sum_squeeze n f g (λ j l. le j (omega arith)) (omega (arith, le n (omega arith))) i (omega arith)
    ]

-- One changed term.
pub sum_change : (n : ℕ) (f g : ℕ → ℕ) (i : ℕ) → i < n → ((j : ℕ) → j < n → j ≢ i → f j ≡ g j) → sum n f + g i ≡ sum n g + f i
sum_change n f g i h same = rw (sum_fold n f, sum_fold n g) (fold_change ◌+◌ 0 (λ a b c. omega arith) n f g i h same)

pub sum_put : (n : ℕ) (f : ℕ → ℕ) (i x : ℕ) → i < n → sum n (put f i x) + f i ≡ sum n f + x
sum_put n f i x h = rw (put_same f i x) at (sum_change n (put f i x) f i h (λ j l d. put_other f i x j d))

-- The sum of f over the elements of a list.
unfoldable pub sum_over : {A : Type 0} → (A → ℕ) → List A → ℕ
sum_over f [] = 0
sum_over f (x ∷ xs) = f x + sum_over f xs

module _ {A : Type 0} (f : A → ℕ) where
  pub sum_over_lem : (x : A) (xs : List A) → sum (length xs) (λ k. f (get_or xs k x)) ≡ sum_over f xs
  unfolding sum sum_over
  sum_over_lem x [] = refl
  sum_over_lem x (y ∷ xs) = omega (arith, sum_front (length xs) (λ k. f (get_or (y ∷ xs) k x)), sum_over_lem x xs)

  pub sum_over_append : (xs ys : List A) → sum_over f (xs ++ ys) ≡ sum_over f xs + sum_over f ys
  unfolding sum_over
  sum_over_append [] ys = omega arith
  sum_over_append (x ∷ xs) ys = omega (arith, sum_over_append xs ys)

  pub sum_over_same : (g : A → ℕ) (xs : List A) → ((x : A) → Memᴰ x xs → f x ≡ g x) → sum_over f xs ≡ sum_over g xs
  unfolding sum_over
  sum_over_same g [] same = refl
  sum_over_same g (x ∷ xs) same =
      omega (arith, same x (Memᴰ.head refl), sum_over_same g xs (λ y m. same y (Memᴰ.tail m)))

  -- At most so many terms of at most so much.
  pub sum_over_most : (xs : List A) (b : ℕ) → ((x : A) → Memᴰ x xs → f x ≤ b) → sum_over f xs ≤ length xs * b
  unfolding sum_over
  sum_over_most [] b most = omega arith
  sum_over_most (x ∷ xs) b most =
      omega (
        arith,
        most x (Memᴰ.head refl),
        sum_over_most xs b (λ y m. most y (Memᴰ.tail m)),
        suc-mul (length xs) b,
      )

-- One number more.
pub sum_more : (f : ℕ → ℕ) (e : ℕ) → sum (e + 1) f ≡ sum e f + f e
unfolding sum
sum_more f e = rw add-one
