-- A sum over tree ranks taken over the mates of the non-tree ranks: what is left over are the unmatched tree ranks.
-- Assumes nothing.
use Rattle.std.specs.Prelude.{ℕ, zero, suc, ◌+◌, ◌<◌, ◌≡◌, refl, ◌≢◌}
use Rattle.std.proofs.Common.{◌∙◌, arith}
use Rattle.std.proofs.Math.Decide.{ℕ_discrete}
use Rattle.loops.specs.Below.{sum}
use Rattle.loops.specs.Loop.{put}
use Rattle.loops.specs.PutLaws.{put_same, put_other}
use Rattle.loops.specs.SumLaws.{sum_put}
use Rattle.optimum.specs.Search.{Mates}

-- The value of f at a mate; 0 if there is none.
unfoldable pub at_mate : (ℕ → ℕ) → ℕ → ℕ
at_mate f zero = 0
at_mate f (suc t) = f t

-- f with 0 at a mate.
unfoldable pub without : (ℕ → ℕ) → ℕ → ℕ → ℕ
without f zero = f
without f (suc t) = put f t 0

-- f with 0 at the mates of the non-tree ranks below n.
unfoldable pub unmatched_only : ℕ → Mates → (ℕ → ℕ) → ℕ → ℕ
unmatched_only zero mates f = f
unmatched_only (suc n) mates f = without (unmatched_only n mates f) (mates n)

without_other : (f : ℕ → ℕ) (mate t : ℕ) → mate ≢ suc t → without f mate t ≡ f t
unfolding without
without_other f zero t other = refl
without_other f (suc t') t other = put_other f t' 0 t (λ q. other (rw q))

without_same : (f : ℕ → ℕ) (mate t : ℕ) → mate ≡ suc t → without f mate t ≡ 0
unfolding without
without_same f mate t q = rw q (put_same f t 0)

without_zero : (f : ℕ → ℕ) (mate t : ℕ) → f t ≡ 0 → without f mate t ≡ 0
without_zero f mate t z = elim (ℕ_discrete mate (suc t)) [
  | yes q ↦ without_same f mate t q
  | no q ↦ without_other f mate t q ∙ z
]

pub unmatched_stays :
    (n : ℕ) (mates : Mates) (f : ℕ → ℕ) (t : ℕ) → ((s : ℕ) → s < n → mates s ≢ suc t) → unmatched_only n mates f t ≡ f t
unfolding unmatched_only
unmatched_stays zero mates f t none = refl
unmatched_stays (suc n) mates f t none =
    without_other (unmatched_only n mates f) (mates n) t (none n (omega arith))
    ∙ unmatched_stays n mates f t (λ s h. none s (omega arith))

pub matched_leaves :
    (n : ℕ) (mates : Mates) (f : ℕ → ℕ) (s t : ℕ) → s < n → mates s ≡ suc t → unmatched_only n mates f t ≡ 0
unfolding unmatched_only
matched_leaves zero mates f s t h q = absurd (omega arith)
matched_leaves (suc n) mates f s t h q = elim (ℕ_discrete s n) [
  | yes e ↦ without_same (unmatched_only n mates f) (mates n) t (rw e at q)
  | no e ↦ without_zero (unmatched_only n mates f) (mates n) t (matched_leaves n mates f s t (omega arith) q)
]

sum_without :
    (m : ℕ) (f h : ℕ → ℕ) (mate : ℕ) → ((t : ℕ) → mate ≡ suc t → (t < m) × (h t ≡ f t))
    → sum m h ≡ at_mate f mate + sum m (without h mate)
unfolding at_mate without
sum_without m f h zero known = omega arith
sum_without m f h (suc t) known =
    let k : (t < m) × (h t ≡ f t) = known t refl in
    omega (arith, sum_put m h t 0 k.0, k.1)

-- No tree rank has two mates: the sum over tree ranks is that over mates, and what is left at unmatched tree ranks.
pub sum_reindex :
    (n m : ℕ) (mates : Mates) (f : ℕ → ℕ) → ((s t : ℕ) → s < n → mates s ≡ suc t → t < m)
    → ((s s' t : ℕ) → s < n → s' < n → mates s ≡ suc t → mates s' ≡ suc t → s ≡ s')
    → sum m f ≡ sum n (λ s. at_mate f (mates s)) + sum m (unmatched_only n mates f)
unfolding sum unmatched_only
sum_reindex zero m mates f below once = omega arith
sum_reindex (suc n) m mates f below once =
    let before : sum m f ≡ sum n (λ s. at_mate f (mates s)) + sum m (unmatched_only n mates f) =
    sum_reindex n m mates f (λ s t h q. below s t (omega arith) q)
    (λ s s' t h h' q q'. once s s' t (omega arith) (omega arith) q q') in
    let last : sum m (unmatched_only n mates f)
    ≡ at_mate f (mates n) + sum m (without (unmatched_only n mates f) (mates n)) =
    sum_without m f (unmatched_only n mates f) (mates n) λ t q. (
      below n t (omega arith) q,
      unmatched_stays n mates f t λ s h q'. absurd (omega (arith, once s n t (omega arith) (omega arith) q' q)),
    ) in
    omega arith
