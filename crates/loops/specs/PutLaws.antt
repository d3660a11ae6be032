-- Laws of `put`: the function has the new value at its place, and the old values elsewhere. Assumes nothing.
use Rattle.std.specs.Prelude.{ℕ, ◌<◌, ◌≡◌, refl, ◌≢◌, ◌⊎◌, Bool, true, false, cond, List, length, get_or, set}
use Rattle.std.proofs.Math.Decide.{ℕ_discrete}
use Rattle.std.proofs.Common.{sym, ap, ◌∙◌, inl, inr, get_or-set_same, get_or-set_other, eq-eqb, ne_eqb}
use Rattle.std.proofs.Math.Path.{fun_ext}
use Rattle.loops.specs.Loop.{put}
use Rattle.loops.specs.TestLaws.{clash}

pub put_same : {A : Type 0} (f : ℕ → A) (i : ℕ) (x : A) → put f i x i ≡ x
put_same f i x = ap (λ b. cond b x (f i)) (eq-eqb i i refl)

pub put_other : {A : Type 0} (f : ℕ → A) (i : ℕ) (x : A) (j : ℕ) → j ≢ i → put f i x j ≡ f j
put_other f i x j h = ap (λ b. cond b x (f j)) (ne_eqb i j (λ e. h (sym e)))

-- A set with one more member has its old members, and only that one besides.
pub put_kept : (S : ℕ → Bool) (i j : ℕ) → S j ≡ true → put S i true j ≡ true
put_kept S i j h = elim (ℕ_discrete j i) [ yes e ↦ rw e (put_same S i true) | no d ↦ put_other S i true j d ∙ h ]

pub put_split : (S : ℕ → Bool) (i j : ℕ) → put S i true j ≡ true → (j ≡ i) ⊎ (S j ≡ true)
put_split S i j h = elim (ℕ_discrete j i) [ yes e ↦ inl e | no d ↦ inr (sym (put_other S i true j d) ∙ h) ]

-- One with a member less has none but old members.
pub put_less : (S : ℕ → Bool) (i j : ℕ) → put S i false j ≡ true → (j ≢ i) × (S j ≡ true)
put_less S i j h = elim (ℕ_discrete j i) [
  | yes e ↦ clash (rw e at h) (put_same S i false)
  | no d ↦ (d, sym (put_other S i false j d) ∙ h)
]

-- The value that is there already.
pub put_own : {A : Type 0} (f : ℕ → A) (i : ℕ) (x : A) → f i ≡ x → put f i x ≡ f
put_own {A} f i x h = fun_ext λ j. elim (ℕ_discrete j i) [ yes q ↦ rw (q, put_same f i x) (sym h) | no q ↦ put_other f i x j q ]

-- Of two values put at one place the second stays.
pub put_twice : {A : Type 0} (f : ℕ → A) (i : ℕ) (x y : A) → put (put f i x) i y ≡ put f i y
put_twice {A} f i x y = fun_ext at_j
  where
    at_j : (j : ℕ) → put (put f i x) i y j ≡ put f i y j
    at_j j =
        elim (ℕ_discrete j i) [
          | yes q ↦ rw (q, put_same (put f i x) i y, put_same f i y)
          | no q ↦ put_other (put f i x) i y j q ∙ put_other f i x j q ∙ sym (put_other f i y j q)
        ]

-- Values put at two places, in either order.
pub put_swap : {A : Type 0} (f : ℕ → A) (i j : ℕ) (x y : A) → i ≢ j → put (put f i x) j y ≡ put (put f j y) i x
put_swap {A} f i j x y d = fun_ext at_k
  where
    at_k : (k : ℕ) → put (put f i x) j y k ≡ put (put f j y) i x k
    at_k k =
        elim (ℕ_discrete k j) [
          | yes q ↦ rw q (put_same (put f i x) j y ∙ sym (put_other (put f j y) i x j (λ e. d (sym e)) ∙ put_same f j y))
          | no q ↦
              elim (ℕ_discrete k i) [
                | yes r ↦ rw r (put_other (put f i x) j y i d ∙ put_same f i x ∙ sym (put_same (put f j y) i x))
                | no r ↦
                    put_other (put f i x) j y k q ∙ put_other f i x k r
                    ∙ sym (put_other (put f j y) i x k r ∙ put_other f j y k q)
              ]
        ]

-- A number written into a list is a value put.
pub set_put : (l : List ℕ) (i x : ℕ) → i < length l → ◌≡◌ {A = ℕ → ℕ} (λ j. get_or (set l i x) j 0) (put (λ j. get_or l j 0) i x)
set_put l i x h =
    fun_ext λ j. elim (ℕ_discrete j i) [
      | yes e ↦ rw e (get_or-set_same l i x 0 h ∙ sym (put_same (λ j. get_or l j 0) i x))
      | no d ↦ get_or-set_other l i j x 0 d ∙ sym (put_other (λ j. get_or l j 0) i x j d)
    ]
