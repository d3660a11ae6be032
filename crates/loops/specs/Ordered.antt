-- Lists in order: each element stands in the relation R to all behind it. Their laws; two with the same elements are
-- equal. Assumes nothing.
use Rattle.std.specs.Prelude.{ℕ, zero, suc, ◌<◌, ◌≡◌, refl, ◌⊎◌, length, get_or}
use Rattle.std.proofs.Common.{ap₂, sym, ◌∙◌, inl, inr, arith}
use mathlib.Core.List.Memᴰ
use mathlib.Core.List.{List, [], ◌∷◌, ◌++◌, Memᴰ}

module _ {A : Type 0} where
  -- What stands at a place is a member, and each member stands at a place.
  pub get_d_member : (x : A) (xs : List A) (k : ℕ) → k < length xs → Memᴰ (get_or xs k x) xs
  get_d_member x [] k h = absurd (omega arith)
  get_d_member x (y ∷ xs) zero h = Memᴰ.head refl
  get_d_member x (y ∷ xs) (suc k) h = Memᴰ.tail (get_d_member x xs k (omega arith))

  pub member_place : (x : A) {e : A} {xs : List A} → Memᴰ e xs → (k : ℕ) × (k < length xs) × (get_or xs k x ≡ e)
  member_place x (Memᴰ.head q) = (0, omega arith, sym q)
  member_place x (Memᴰ.tail m) =
      let r = member_place x m in
      (suc r.0, omega (arith, r.1), r.2)

  abbrev pub Ordered : (A → A → Type 0) → List A → Type 0
  Ordered R [] = Unit {0}
  Ordered R (x ∷ xs) = ((y : A) → Memᴰ y xs → R x y) × Ordered R xs

  pub ordered_append :
      (R : A → A → Type 0) (xs ys : List A) → Ordered R xs → Ordered R ys
      → ((x y : A) → Memᴰ x xs → Memᴰ y ys → R x y) → Ordered R (xs ++ ys)
  ordered_append R [] ys ox oy across = oy
  ordered_append R (x ∷ xs) ys ox oy across = (
    λ y m. elim (Memᴰ.append_cases xs m) [ inl l ↦ ox.0 y l | inr r ↦ across x y (Memᴰ.head refl) r ],
    ordered_append R xs ys ox.1 oy (λ a b m n. across a b (Memᴰ.tail m) n),
  )

  pub ordered_at :
      (R : A → A → Type 0) (x : A) (xs : List A) (i j : ℕ) → Ordered R xs → i < j → j < length xs
      → R (get_or xs i x) (get_or xs j x)
  ordered_at R x [] i j o h l = absurd (omega arith)
  ordered_at R x (y ∷ xs) i zero o h l = absurd (omega arith)
  ordered_at R x (y ∷ xs) zero (suc j) o h l = o.0 (get_or xs j x) (get_d_member x xs j (omega arith))
  ordered_at R x (y ∷ xs) (suc i) (suc j) o h l = ordered_at R x xs i j o.1 (omega arith) (omega arith)

  -- A relation in which no two elements stand both ways orders a set of elements in one way only.
  module _ (R : A → A → Type 0) (one_way : (x y : A) → R x y → R y x → ⊥) where
    first_same :
        (x y : A) (xs ys : List A) → Ordered R (x ∷ xs) → Ordered R (y ∷ ys) → Memᴰ x (y ∷ ys)
        → Memᴰ y (x ∷ xs) → x ≡ y
    first_same x y xs ys ox oy mx my = of (Memᴰ.cases_cons mx) (Memᴰ.cases_cons my)
      where
        of : (x ≡ y) ⊎ Memᴰ x ys → (y ≡ x) ⊎ Memᴰ y xs → x ≡ y
        of (inl q) r = q
        of (inr m) (inl q) = sym q
        of (inr m) (inr n) = absurd (one_way x y (ox.0 y n) (oy.0 x m))

    rest_has :
        (x y : A) (xs ys : List A) → Ordered R (x ∷ xs) → x ≡ y
        → ((e : A) → Memᴰ e (x ∷ xs) → Memᴰ e (y ∷ ys)) → (e : A) → Memᴰ e xs → Memᴰ e ys
    rest_has x y xs ys ox same into e m = of (Memᴰ.cases_cons (into e (Memᴰ.tail m)))
      where
        of : (e ≡ y) ⊎ Memᴰ e ys → Memᴰ e ys
        of (inl q) =
            let r : R x x = rw (q ∙ sym same) at (ox.0 e m) in
            absurd (one_way x x r r)
        of (inr n) = n

    pub ordered_unique :
        (xs ys : List A) → Ordered R xs → Ordered R ys → ((e : A) → Memᴰ e xs → Memᴰ e ys)
        → ((e : A) → Memᴰ e ys → Memᴰ e xs) → xs ≡ ys
    ordered_unique [] [] ox oy to from = refl
    ordered_unique [] (y ∷ ys) ox oy to from = absurd (Memᴰ.not-nil (from y (Memᴰ.head refl)))
    ordered_unique (x ∷ xs) [] ox oy to from = absurd (Memᴰ.not-nil (to x (Memᴰ.head refl)))
    ordered_unique (x ∷ xs) (y ∷ ys) ox oy to from =
        let same : x ≡ y = first_same x y xs ys ox oy (to x (Memᴰ.head refl)) (from y (Memᴰ.head refl)) in
        ap₂ {C = List A} ◌∷◌ same
        (ordered_unique xs ys ox.1 oy.1 (rest_has x y xs ys ox same to) (rest_has y x ys xs oy (sym same) from))
