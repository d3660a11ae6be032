-- Laws of `count` and `total`: equal sets, one change, subsets, the empty and the full set, a set of one member.
-- Assumes nothing.
use Rattle.std.specs.Prelude.{ℕ, zero, suc, ◌+◌, ◌≤◌, ◌<◌, ◌≡◌, refl, ◌≢◌, Bool, true, false, cond, ℤ, pos, ◌+ℤ◌}
use Rattle.std.proofs.Common.{arith, sym, ap, ◌∙◌, inl, inr, true≢false}
use Rattle.std.proofs.Math.Decide.{ℕ_discrete}
use Rattle.loops.specs.Loop.{put}
use Rattle.loops.specs.Below.{sum}
use Rattle.loops.specs.PutLaws.{put_same, put_other}
use Rattle.loops.specs.FirstLaws.{member_or_none}
use Rattle.loops.specs.FoldLaws.{fold, fold_same, fold_change}
use Rattle.loops.specs.SumLaws.{sum_change, sum_le, sum_zero, sum_squeeze}
use Rattle.graph.specs.Graph.{EdgeSet, count, total}
use Rattle.graph.specs.Integers.{+ℤ_swap}

-- What is in a set is not what is outside it.
pub member_differs : (S : EdgeSet) (e f : ℕ) → S e ≡ true → S f ≡ false → e ≢ f
member_differs S e f s o p = true≢false (sym s ∙ ap S p ∙ o)

-- How many, as a sum; one change.
count_sum : (m : ℕ) (S : EdgeSet) → count m S ≡ sum m (λ i. cond (S i) 1 0)
unfolding count sum
count_sum zero S = refl
count_sum (suc m) S = ap (λ n. n + cond (S m) 1 0) (count_sum m S)

pub count_change : (m : ℕ) (S U : EdgeSet) (i : ℕ) → i < m → ((j : ℕ) → j < m → j ≢ i → S j ≡ U j) → count m S + cond (U i) 1 0 ≡ count m U + cond (S i) 1 0
count_change m S U i k h =
    rw (count_sum m S, count_sum m U) (sum_change m (λ j. cond (S j) 1 0) (λ j. cond (U j) 1 0) i k (λ j l d. ap (λ b. cond b 1 0) (h j l d)))

pub count_put : (m : ℕ) (S : EdgeSet) (i : ℕ) (b : Bool) → i < m → count m (put S i b) + cond (S i) 1 0 ≡ count m S + cond b 1 0
count_put m S i b k = rw (put_same S i b) at (count_change m (put S i b) S i k (λ j l d. put_other S i b j d))

-- Costs: equal sets, and one change.
total_sum : (m : ℕ) (S : EdgeSet) (d : ℕ → ℤ) → total m S d ≡ fold ◌+ℤ◌ (pos 0) m (λ i. cond (S i) (d i) (pos 0))
unfolding total fold
total_sum zero S d = refl
total_sum (suc m) S d = ap (λ n. n +ℤ cond (S m) (d m) (pos 0)) (total_sum m S d)

pub total_same : (m : ℕ) (S U : EdgeSet) (d : ℕ → ℤ) → ((i : ℕ) → i < m → S i ≡ U i) → total m S d ≡ total m U d
total_same m S U d h =
    rw (total_sum m S d, total_sum m U d) (fold_same ◌+ℤ◌ (pos 0) m (λ j. cond (S j) (d j) (pos 0)) (λ j. cond (U j) (d j) (pos 0))
    (λ j l. ap (λ b. cond b (d j) (pos 0)) (h j l)))

pub total_put :
    (m : ℕ) (S : EdgeSet) (d : ℕ → ℤ) (i : ℕ) (b : Bool) →
    i < m →
    total m (put S i b) d +ℤ cond (S i) (d i) (pos 0) ≡ total m S d +ℤ cond b (d i) (pos 0)
total_put m S d i b k = rw (put_same S i b) at changed
  where
    changed : total m (put S i b) d +ℤ cond (S i) (d i) (pos 0) ≡ total m S d +ℤ cond (put S i b i) (d i) (pos 0)
    changed =
        rw (total_sum m (put S i b) d, total_sum m S d)
        (fold_change ◌+ℤ◌ (pos 0) +ℤ_swap m (λ j. cond (put S i b j) (d j) (pos 0)) (λ j. cond (S j) (d j) (pos 0)) i k
        (λ j l e. ap (λ c. cond c (d j) (pos 0)) (put_other S i b j e)))

-- Subsets.
one_within : (b c : Bool) → (b ≡ true → c ≡ true) → cond b 1 0 ≤ cond c 1 0
one_within false c h = omega arith
one_within true false h = absurd (true≢false (sym (h refl)))
one_within true true h = omega arith

one_same : (b c : Bool) → ◌≡◌ {A = ℕ} (cond b 1 0) (cond c 1 0) → b ≡ c
one_same false false e = refl
one_same false true e = absurd (omega arith)
one_same true false e = absurd (omega arith)
one_same true true e = refl

one_small : (b : Bool) → cond b 1 0 ≤ 1
one_small false = omega arith
one_small true = omega arith

pub count_within : (m : ℕ) (S U : EdgeSet) → ((i : ℕ) → i < m → S i ≡ true → U i ≡ true) → count m S ≤ count m U
count_within m S U h = rw (count_sum m S, count_sum m U) (sum_le m (λ i. cond (S i) 1 0) (λ i. cond (U i) 1 0) (λ i k. one_within (S i) (U i) (h i k)))

-- A subset with as many members is the whole set.
pub count_squeeze : (m : ℕ) (S U : EdgeSet) → ((i : ℕ) → i < m → S i ≡ true → U i ≡ true) → count m S ≡ count m U → (i : ℕ) → i < m → S i ≡ U i
count_squeeze m S U h e i k =
    one_same (S i) (U i) (sum_squeeze m (λ i. cond (S i) 1 0) (λ i. cond (U i) 1 0) (λ i k. one_within (S i) (U i) (h i k))
    (omega (arith, count_sum m S, count_sum m U)) i k)

-- A set that lies in another but for one member has at most one more.
pub count_but_one : (m : ℕ) (S U : EdgeSet) (x : ℕ) → ((i : ℕ) → i < m → i ≢ x → S i ≡ true → U i ≡ true) → count m S ≤ suc (count m U)
unfolding count
count_but_one zero S U x h = omega arith
count_but_one (suc m) S U x h =
    elim (ℕ_discrete m x) [
      | yes e ↦ omega (arith, count_within m S U (λ i k. h i (omega arith) (omega arith)), one_small (S m))
      | no d ↦ omega
          (arith, count_but_one m S U x (λ i k. h i (omega arith)), one_within (S m) (U m) (h m (omega arith) d))
    ]

pub count_none : (m : ℕ) (S : EdgeSet) → ((i : ℕ) → i < m → S i ≡ false) → count m S ≡ 0
count_none m S h = count_sum m S ∙ sum_zero m (λ i. cond (S i) 1 0) (λ i k. rw (h i k))

pub count_all : (m : ℕ) (S : EdgeSet) → ((i : ℕ) → i < m → S i ≡ true) → count m S ≡ m
unfolding count
count_all zero S h = refl
count_all (suc m) S h = rw (count_all m S (λ i k. h i (omega arith)), h m (omega arith)) (omega arith)

pub count_below : (m : ℕ) (S : EdgeSet) → count m S ≤ m
unfolding count
count_below zero S = omega arith
count_below (suc m) S = omega (arith, count_below m S, one_small (S m))

-- A set of m numbers below m has them all.
pub count_full : (m : ℕ) (S : EdgeSet) → count m S ≡ m → (i : ℕ) → i < m → S i ≡ true
count_full m S e = count_squeeze m S (λ i. true) (λ i k t. refl) (e ∙ sym (count_all m (λ i. true) (λ i k. refl)))

-- A set all of whose members are one and the same has at most one.
pub count_one : (m : ℕ) (S : EdgeSet) → ((i j : ℕ) → i < m → j < m → S i ≡ true → S j ≡ true → i ≡ j) → count m S ≤ 1
count_one m S h =
    elim (member_or_none m S) [
      | inl r ↦ omega
          (arith, count_but_one m S (λ i. false) r.0 (λ i k d t. absurd (d (h i r.0 k r.1 t r.2))), count_none m (λ i. false) (λ i k. refl))
      | inr n
          ↦ omega (arith, count_none m S n)
    ]
