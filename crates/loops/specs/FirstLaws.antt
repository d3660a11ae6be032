-- What `first` means: it is at most the bound, nothing before it is a hit, and it is a hit if it is below the bound;
-- only one number has these properties. Assumes nothing.
use Rattle.std.specs.Prelude.{ℕ, zero, suc, ◌≤◌, ◌<◌, ◌≡◌, refl, ◌⊎◌, Bool, true, false, cond, ltb}
use Rattle.std.proofs.Math.Decide.{dec_lt, ℕ_discrete}
use Rattle.std.proofs.Common.{arith, sym, ◌∙◌, inl, inr, ltb-true, lt-ltb, le-ltb}
use Rattle.loops.specs.Loop.{first, last}
use Rattle.loops.specs.TestLaws.{truth, clash}

-- r is the lowest number below n of which p holds; n if there is none.
pub record First (n : ℕ) (p : ℕ → Bool) (r : ℕ) : Type 0 where
  pub within : r ≤ n
  pub before : (i : ℕ) → i < r → p i ≡ false
  pub hit : r < n → p r ≡ true

first_once : {n : ℕ} {p : ℕ → Bool} {r s : ℕ} → First n p r → First n p s → r < s → ⊥
first_once {r = r} f g l = clash (f.hit (omega (arith, g.within))) (g.before r l)

pub first_unique : {n : ℕ} {p : ℕ → Bool} {r s : ℕ} → First n p r → First n p s → r ≡ s
first_unique {r = r} {s} f g =
    elim (dec_lt r s) [
      | yes l ↦ absurd (first_once f g l)
      | no h ↦ elim (dec_lt s r) [ yes l ↦ absurd (first_once g f l) | no k ↦ omega arith ]
    ]

-- A hit below n stays the first; else n itself is tried.
module _ (n : ℕ) (p : ℕ → Bool) {r : ℕ} (f : First n p r) where
  first_kept : r < n → First (suc n) p r
  first_kept l = record { within = omega arith; before = f.before; hit = λ _. f.hit l }

  first_tried : n ≤ r → p n ≡ true → First (suc n) p n
  first_tried l h = record { within = omega arith; before = λ i k. f.before i (omega arith); hit = λ _. h }

  first_missed : n ≤ r → p n ≡ false → First (suc n) p (suc n)
  first_missed l h = record {
    within = omega arith;
    before = λ i k. elim (ℕ_discrete i n) [ yes e ↦ rw e h | no d ↦ f.before i (omega arith) ];
    hit = λ k. absurd (omega arith);
  }

pub first_is : (n : ℕ) (p : ℕ → Bool) → First n p (first n p)
unfolding first
first_is zero p = record { within = omega arith; before = λ i l. absurd (omega arith); hit = λ l. absurd (omega arith) }
first_is (suc n) p =
    elim (dec_lt (first n p) n) [
      | yes l ↦ rw (lt-ltb (first n p) n l) (first_kept n p (first_is n p) l)
      | no h ↦ let l : n ≤ first n p = omega arith in rw (le-ltb (first n p) n l) (tried l (truth (p n)) (first_is n p))
    ]
  where
    tried : n ≤ first n p → (p n ≡ true) ⊎ (p n ≡ false) → First n p (first n p) → First (suc n) p (cond (p n) n (suc n))
    tried l (inl h) f = rw h (first_tried n p f l h)
    tried l (inr h) f = rw h (first_missed n p f l h)

-- The first is found by what it means.
pub first_found : {n : ℕ} {p : ℕ → Bool} {r : ℕ} → First n p r → first n p ≡ r
first_found {n} {p} f = first_unique (first_is n p) f

-- Only what p says below n counts.
pub first_same : (n : ℕ) (p q : ℕ → Bool) → ((i : ℕ) → i < n → p i ≡ q i) → first n p ≡ first n q
first_same n p q e =
    let g : First n q (first n q) = first_is n q in
    first_found (record {
      within = g.within;
      before = λ i l. e i (omega (arith, g.within)) ∙ g.before i l;
      hit = λ l. e (first n q) l ∙ g.hit l;
    })

-- The test that p holds of some number below n.
pub some_of : (n : ℕ) (p : ℕ → Bool) (i : ℕ) → i < n → p i ≡ true → ltb (first n p) n ≡ true
some_of n p i l h = elim (dec_lt (first n p) n) [
  | yes k ↦ lt-ltb (first n p) n k
  | no k ↦ clash h ((first_is n p).before i (omega arith))
]

pub some_at : (n : ℕ) (p : ℕ → Bool) → ltb (first n p) n ≡ true → (i : ℕ) × (i < n) × (p i ≡ true)
some_at n p h =
    let l : first n p < n = ltb-true (first n p) n h in
    (first n p, l, (first_is n p).hit l)

-- It holds of some number below n, or of none.
pub member_or_none : (n : ℕ) (p : ℕ → Bool) → ((i : ℕ) × (i < n) × (p i ≡ true)) ⊎ ((i : ℕ) → i < n → p i ≡ false)
member_or_none n p =
    let f : First n p (first n p) = first_is n p in
    elim (dec_lt (first n p) n) [
      | yes h ↦ inl (first n p, h, f.hit h)
      | no h ↦ inr (λ i l. f.before i (omega arith))
    ]

-- ---- the highest

-- r is the highest number below n of which p holds.
pub record Last (n : ℕ) (p : ℕ → Bool) (r : ℕ) : Type 0 where
  pub within : r < n
  pub hit : p r ≡ true
  pub after : (i : ℕ) → r < i → i < n → p i ≡ false

-- It is the highest, or p holds of none.
pub last_is :
    (n : ℕ) (p : ℕ → Bool) (none : ℕ)
    → Last n p (last n p none) ⊎ ((last n p none ≡ none) × ((i : ℕ) → i < n → p i ≡ false))
unfolding last
last_is zero p none = inr (refl, λ i l. absurd (omega arith))
last_is (suc n) p none = tried (truth (p n)) (last_is n p none)
  where
    tried :
        (p n ≡ true) ⊎ (p n ≡ false) → Last n p (last n p none) ⊎ ((last n p none ≡ none) × ((i : ℕ) → i < n → p i ≡ false))
        → Last (suc n) p (cond (p n) n (last n p none)) ⊎ ((cond (p n) n (last n p none) ≡ none) × ((i : ℕ) → i < suc n → p i ≡ false))
    tried (inl h) f = rw h (inl (record { within = omega arith; hit = h; after = λ i a b. absurd (omega arith) }))
    tried (inr h) (inl f) =
        rw h (inl (record {
          within = omega (arith, f.within);
          hit = f.hit;
          after = λ i a b. elim (ℕ_discrete i n) [ yes e ↦ rw e h | no d ↦ f.after i a (omega arith) ];
        }))
    tried (inr h) (inr f) =
        rw h (inr (f.0, λ i l. elim (ℕ_discrete i n) [ yes e ↦ rw e h | no d ↦ f.1 i (omega arith) ]))

-- Only what p says below n counts.
pub last_same : (n : ℕ) (p q : ℕ → Bool) (none : ℕ) → ((i : ℕ) → i < n → p i ≡ q i) → last n p none ≡ last n q none
unfolding last
last_same zero p q none e = refl
last_same (suc n) p q none e = rw (e n (omega arith), last_same n p q none (λ i l. e i (omega arith)))

-- It is found by what it means.
pub last_found : (n : ℕ) (p : ℕ → Bool) (none r : ℕ) → Last n p r → last n p none ≡ r
unfolding last
last_found zero p none r f = absurd (omega (arith, f.within))
last_found (suc n) p none r f = elim (ℕ_discrete r n) [
  | yes e ↦ rw (rw e at f.hit) (sym e)
  | no d ↦
      rw (f.after n (omega (arith, f.within)) (omega arith))
      (last_found n p none r (record { within = omega (arith, f.within); hit = f.hit; after = λ i a b. f.after i a (omega arith) }))
]

pub last_none : (n : ℕ) (p : ℕ → Bool) (none : ℕ) → ((i : ℕ) → i < n → p i ≡ false) → last n p none ≡ none
unfolding last
last_none zero p none h = refl
last_none (suc n) p none h = rw (h n (omega arith)) (last_none n p none (λ i l. h i (omega arith)))
