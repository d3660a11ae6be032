-- The matching that slots hold: at each slot's non-tree rank its tree rank, and none elsewhere. Assumes nothing.
use Rattle.std.specs.Prelude.{ℕ, zero, suc, ◌<◌, ◌≡◌, refl, ◌≢◌, false, eqb, ltb}
use Rattle.std.proofs.Math.Decide.{ℕ_discrete}
use Rattle.std.proofs.Common.{arith, sym, ◌∙◌, inl, inr, eq-eqb, ne_eqb, eqb-true, ltb-true}
use Rattle.loops.specs.Loop.{put, first}
use Rattle.loops.specs.TestLaws.{truth}
use Rattle.loops.specs.FirstLaws.{first_is, first_found}
use Rattle.loops.specs.PutLaws.{put_same, put_other, put_twice, put_swap}
use Rattle.optimum.specs.Search.{Problem, Slots, mates_below, mates_in}
use Rattle.optimum.specs.Slackness.{Valid}

-- No two slots have the same rank.
abbrev pub Distinct : ℕ → (ℕ → ℕ) → Type 0
Distinct n f = (k k' : ℕ) → k < n → k' < n → f k ≡ f k' → k ≡ k'

-- Slots of non-tree ranks, each of its own.
pub record HeldSlots (p : Problem) (q : Slots) : Type 0 where
  pub distinct : Distinct q.slots q.spare_of
  pub ranks : (k : ℕ) → k < q.slots → q.spare_of k < p.spares

-- Only the slots below n count.
pub mates_same : (n : ℕ) (f f' g g' : ℕ → ℕ) → ((k : ℕ) → k < n → f k ≡ f' k) → ((k : ℕ) → k < n → g k ≡ g' k) → mates_below n f g ≡ mates_below n f' g'
unfolding mates_below
mates_same zero f f' g g' a b = refl
mates_same (suc n) f f' g g' a b =
    rw (mates_same n f f' g g' (λ k l. a k (omega arith)) (λ k l. b k (omega arith)), a n (omega arith), b n (omega arith))

-- A mate stands in a slot; what a slot holds, is a mate; a rank in no slot has none.
pub mates_view : (n : ℕ) (f g : ℕ → ℕ) (s t : ℕ) → mates_below n f g s ≡ suc t → (k : ℕ) × (k < n) × (f k ≡ s) × (g k ≡ t)
unfolding mates_below
mates_view zero f g s t h = absurd (omega arith)
mates_view (suc n) f g s t h = elim (ℕ_discrete s (f n)) [
  | yes q ↦ (n, omega arith, sym q, omega (arith, rw q at h, put_same (mates_below n f g) (f n) (suc (g n))))
  | no q ↦
      let (k, l, a, b) = mates_view n f g s t (sym (put_other (mates_below n f g) (f n) (suc (g n)) s q) ∙ h) in
      (k, omega arith, a, b)
]

pub mates_at : (n : ℕ) (f g : ℕ → ℕ) → Distinct n f → (k : ℕ) → k < n → mates_below n f g (f k) ≡ suc (g k)
unfolding mates_below
mates_at zero f g d k l = absurd (omega arith)
mates_at (suc n) f g d k l = elim (ℕ_discrete k n) [
  | yes q ↦ rw q (put_same (mates_below n f g) (f n) (suc (g n)))
  | no q ↦
      put_other (mates_below n f g) (f n) (suc (g n)) (f k) (λ e. q (d k n l (omega arith) e))
      ∙ mates_at n f g (λ a b x y e. d a b (omega arith) (omega arith) e) k (omega arith)
]

pub mates_none : (n : ℕ) (f g : ℕ → ℕ) (s : ℕ) → ((k : ℕ) → k < n → f k ≢ s) → mates_below n f g s ≡ 0
unfolding mates_below
mates_none zero f g s h = refl
mates_none (suc n) f g s h =
    put_other (mates_below n f g) (f n) (suc (g n)) s (λ e. h n (omega arith) (sym e))
    ∙ mates_none n f g s (λ k l. h k (omega arith))

-- A slot handed to tree rank y is one mate put.
pub mates_put : (n : ℕ) (f g : ℕ → ℕ) → Distinct n f → (k y : ℕ) → k < n → mates_below n f (put g k y) ≡ put (mates_below n f g) (f k) (suc y)
unfolding mates_below
mates_put zero f g d k y l = absurd (omega arith)
mates_put (suc n) f g d k y l = elim (ℕ_discrete k n) [
  | yes q ↦
      rw (q, put_same g n y, mates_same n f f (put g n y) g (λ j _. refl) (λ j i. put_other g n y j (λ e. omega arith)))
      (sym (put_twice (mates_below n f g) (f n) (suc (g n)) (suc y)))
  | no q ↦
      rw (put_other g k y n (λ e. q (sym e)), mates_put n f g (λ a b x z e. d a b (omega arith) (omega arith) e) k y (omega arith))
      (put_swap (mates_below n f g) (f k) (f n) (suc y) (suc (g n)) (λ e. q (d k n l (omega arith) e)))
]

-- One slot more.
pub mates_more : (n : ℕ) (f g : ℕ → ℕ) (s y : ℕ) → mates_below (suc n) (put f n s) (put g n y) ≡ put (mates_below n f g) s (suc y)
unfolding mates_below
mates_more n f g s y =
    let same = mates_same n (put f n s) f (put g n y) g (λ k l. put_other f n s k (λ e. omega arith)) (λ k l. put_other g n y k (λ e. omega arith)) in
    rw (put_same f n s, put_same g n y, same)

-- One for a rank that has none.
pub held_more :
    (p : Problem) (q : Slots) → HeldSlots p q → (s : ℕ) (tree_of : ℕ → ℕ) → s < p.spares → ((k : ℕ) → k < q.slots → q.spare_of k ≢ s)
    → HeldSlots p (record { slots = suc q.slots; spare_of = put q.spare_of q.slots s; tree_of = tree_of })
held_more p q held s tree_of l none =
    record {
      distinct = λ a b i j e. elim (ℕ_discrete a n) [
        | yes x ↦ elim (ℕ_discrete b n) [
          | yes y ↦ omega arith
          | no y ↦ absurd (none b (omega arith) (sym (old b y) ∙ sym e ∙ rw x new))
        ]
        | no x ↦ elim (ℕ_discrete b n) [
          | yes y ↦ absurd (none a (omega arith) (sym (old a x) ∙ e ∙ rw y new))
          | no y ↦ held.distinct a b (omega arith) (omega arith) (sym (old a x) ∙ e ∙ old b y)
        ]
      ];
      ranks = λ a i. elim (ℕ_discrete a n) [ yes x ↦ rw (x, new) l | no x ↦ rw (old a x) (held.ranks a (omega arith)) ];
    }
  where
    n : ℕ
    n = q.slots

    new : put q.spare_of n s n ≡ s
    new = put_same q.spare_of n s

    old : (k : ℕ) → k ≢ n → put q.spare_of n s k ≡ q.spare_of k
    old k d = put_other q.spare_of n s k d

-- The slot of a rank is found, and none of a rank that has none.
pub slot_found : (n : ℕ) (f : ℕ → ℕ) → Distinct n f → (k : ℕ) → k < n → first n (λ j. eqb (f j) (f k)) ≡ k
slot_found n f d k a =
    first_found
    record {
      within = omega arith;
      before = λ j b. ne_eqb (f j) (f k) (λ e. omega (arith, d j k (omega arith) a e));
      hit = λ _. eq-eqb (f k) (f k) refl;
    }

pub slot_none : (n : ℕ) (f : ℕ → ℕ) (s : ℕ) → ((k : ℕ) → k < n → f k ≢ s) → ltb (first n (λ k. eqb (f k) s)) n ≡ false
slot_none n f s h = elim (truth (ltb (first n (λ k. eqb (f k) s)) n)) [
  | inr e ↦ e
  | inl e ↦
      let a : first n (λ k. eqb (f k) s) < n = ltb-true _ n e in
      absurd (h (first n (λ k. eqb (f k) s)) a (eqb-true _ s ((first_is n (λ k. eqb (f k) s)).hit a)))
]

-- What a valid matching says of its slots.
module _ (p : Problem) (q : Slots) (held : HeldSlots p q) where
  pub slot_mate : (k : ℕ) → k < q.slots → mates_in q (q.spare_of k) ≡ suc (q.tree_of k)
  slot_mate k a = mates_at q.slots q.spare_of q.tree_of held.distinct k a

  module _ (valid : Valid p (mates_in q)) where
    pub slot_below : (k : ℕ) → k < q.slots → q.tree_of k < p.trees
    slot_below k a = valid.below (q.spare_of k) (q.tree_of k) (held.ranks k a) (slot_mate k a)

    pub slots_apart : Distinct q.slots q.tree_of
    slots_apart k k' a a' e =
        held.distinct k k' a a'
        (valid.once (q.spare_of k) (q.spare_of k') (q.tree_of k) (held.ranks k a) (held.ranks k' a') (slot_mate k a) (rw e (slot_mate k' a')))
