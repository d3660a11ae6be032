-- The invariant of the matching while it is built: potentials of the non-tree ranks that certify it. How they are raised
-- on what a search has visited, and how an alternating path on which they are level turns the matching and its weight.
-- Assumes nothing.
use Rattle.std.specs.Prelude.{ℕ, suc, ◌+◌, ◌-◌, ◌≤◌, ◌<◌, ◌≡◌, ◌≢◌, ◌⊎◌, true}
use Rattle.std.proofs.Math.Decide.{ℕ_discrete}
use Rattle.std.proofs.Common.{arith, ap, sym, ◌∙◌, inl, inr}
use Rattle.loops.specs.Loop.{put}
use Rattle.loops.specs.SumLaws.{sum_change}
use Rattle.loops.specs.PutLaws.{put_same, put_other}
use Rattle.optimum.specs.Search.{Problem, Mates}
use Rattle.optimum.specs.Slackness.{Valid, Unmatched, pair_weight, rank_weight}
use Rattle.optimum.proofs.Matched.{Matched}
use Rattle.optimum.proofs.SearchLaws.{AugmentingPath, stop, via}

-- A matching of tree ranks below n, and potentials d of the non-tree ranks. A matched tree rank has its mate's potential.
pub record Pairs (p : Problem) (n : ℕ) (mates : Mates) (d : ℕ → ℕ) : Type 0 where
  pub below : (s t : ℕ) → s < p.spares → mates s ≡ suc t → t < n
  pub covers : (s t : ℕ) → s < p.spares → mates s ≡ suc t → p.covers t s ≡ true
  pub falls : (s t : ℕ) → s < p.spares → mates s ≡ suc t → p.spare_cost s < p.tree_cost t
  pub once : (s s' t : ℕ) → s < p.spares → s' < p.spares → mates s ≡ suc t → mates s' ≡ suc t → s ≡ s'
  pub feasible : (s s' t : ℕ) → s < p.spares → s' < p.spares → mates s ≡ suc t → p.covers t s' ≡ true → d s ≤ d s'
  pub above : (s : ℕ) → s < p.spares → p.spare_cost s ≤ d s
  pub free : (s : ℕ) → s < p.spares → mates s ≡ 0 → d s ≡ p.spare_cost s
  pub under : (s t : ℕ) → s < p.spares → mates s ≡ suc t → d s ≤ p.tree_cost t

pub pairs_valid : {p : Problem} {n : ℕ} {mates : Mates} {d : ℕ → ℕ} → Pairs p n mates d → n ≤ p.trees → Valid p mates
pairs_valid g l =
    record { below = λ s t h e. omega (arith, g.below s t h e); covers = g.covers; falls = g.falls; once = g.once }

-- Tree rank t can stay unmatched: what covers it costs at least as much.
abbrev pub Settled : Problem → (ℕ → ℕ) → ℕ → Type 0
Settled p d t = (s : ℕ) → s < p.spares → p.covers t s ≡ true → p.tree_cost t ≤ d s

abbrev pub Done : Problem → Mates → (ℕ → ℕ) → ℕ → Type 0
Done p mates d t = Matched p mates t ⊎ Settled p d t

-- Where a matching with one more pair has tree rank x.
mate_view : (mates : Mates) (s t s' x : ℕ) → put mates s (suc t) s' ≡ suc x → ((s ≡ s') × (t ≡ x)) ⊎ ((s ≢ s') × (mates s' ≡ suc x))
mate_view mates s t s' x h =
    elim (ℕ_discrete s s') [
      | yes q ↦ inl (q, omega (arith, put_same mates s (suc t), (rw (← q) at h)))
      | no q ↦ inr (q, sym (put_other mates s (suc t) s' (λ e. q (sym e))) ∙ h)
    ]

module _ (p : Problem) (n : ℕ) (mates : Mates) (d : ℕ → ℕ) (g : Pairs p n mates d) (s t : ℕ) (l : s < p.spares) where
  -- What holds of the new pair and of the old ones.
  each_pair :
      (C : ℕ → ℕ → Type 0) →
      C s t →
      ((s' x : ℕ) → s' < p.spares → mates s' ≡ suc x → C s' x) →
      (s' x : ℕ) →
      s' < p.spares →
      put mates s (suc t) s' ≡ suc x →
      C s' x
  each_pair C new old s' x l' e =
      elim (mate_view mates s t s' x e) [
        | inl q ↦ rw (← q.0, ← q.1) new
        | inr q ↦ old s' x l' q.1
      ]

  -- One more pair, or a mate taken from another tree rank.
  pairs_put :
      t < n →
      p.covers t s ≡ true →
      Unmatched p mates t →
      ((s' : ℕ) → s' < p.spares → p.covers t s' ≡ true → d s ≤ d s') →
      d s < p.tree_cost t →
      Pairs p n (put mates s (suc t)) d
  pairs_put b c u f h =
      record {
        below = each_pair (λ a x. x < n) b g.below;
        covers = each_pair (λ a x. p.covers x a ≡ true) c g.covers;
        falls = each_pair (λ a x. p.spare_cost a < p.tree_cost x) (omega (arith, g.above s l)) g.falls;
        once =
            λ a a' x la la' e e'.
            each_pair (λ a x. put mates s (suc t) a' ≡ suc x → a ≡ a')
            (λ k. elim (mate_view mates s t a' t k) [ inl q ↦ q.0 | inr q ↦ absurd (u a' la' q.1) ])
            (λ a x la m k.
            elim (mate_view mates s t a' x k) [
              | inl q ↦ absurd (u a la (rw q.1 m))
              | inr q ↦ g.once a a' x la la' m q.1
            ])
            a
            x
            la
            e
            e';
        feasible =
            λ a a' x la la' e k.
            each_pair (λ a x. p.covers x a' ≡ true → d a ≤ d a')
            (f a' la')
            (λ a x la m. g.feasible a a' x la la' m)
            a
            x
            la
            e
            k;
        above = g.above;
        free =
            λ a la e.
            elim (ℕ_discrete s a) [
              | yes q ↦ absurd (omega (arith, put_same mates s (suc t), (rw (← q) at e)))
              | no q ↦ g.free a la (sym (put_other mates s (suc t) a (λ r. q (sym r))) ∙ e)
            ];
        under = each_pair (λ a x. d a ≤ p.tree_cost x) (omega arith) g.under;
      }

  -- A matched tree rank stays matched if s was not its mate.
  matched_put : (x : ℕ) → mates s ≢ suc x → Matched p mates x → Matched p (put mates s (suc t)) x
  matched_put x h m = (
    m.0,
    m.1,
    elim (ℕ_discrete s m.0) [
      | yes q ↦ absurd (h (rw q m.2))
      | no q ↦ put_other mates s (suc t) m.0 (λ r. q (sym r)) ∙ m.2
    ],
  )

  done_put : (x : ℕ) → mates s ≢ suc x → (x ≡ t) ⊎ Done p mates d x → Done p (put mates s (suc t)) d x
  done_put x h (inl q) = inl (s, l, rw q (put_same mates s (suc t)))
  done_put x h (inr (inl m)) = inl (matched_put x h m)
  done_put x h (inr (inr f)) = inr f

-- The potentials do not fall along an alternating path.
path_rises :
    (p : Problem) (goal : ℕ) (base : Mates) (d : ℕ → ℕ) →
    ((s s' t : ℕ) → s < p.spares → s' < p.spares → base s ≡ suc t → p.covers t s' ≡ true → d s ≤ d s') →
    {m m' : Mates} {t : ℕ} →
    AugmentingPath p goal base m t m' →
    (v : ℕ) →
    ((s : ℕ) → s < p.spares → p.covers t s ≡ true → v ≤ d s) →
    v ≤ d goal
path_rises p goal base d f (stop l c e) v h = h goal l c
path_rises p goal base d f (via {s = s} {t' = t'} l c b e π) v h =
    omega (arith, h s l c, path_rises p goal base d f π (d s) (λ s' l' c'. f s s' t' l l' b c'))

-- What non-tree rank s adds to the weight if it becomes the mate of tree rank t, and what it added before.
weight_put :
    (p : Problem) (m : Mates) (s t : ℕ) →
    s < p.spares →
    rank_weight p (put m s (suc t)) + pair_weight p s (m s) ≡ rank_weight p m + (p.tree_cost t - p.spare_cost s)
unfolding pair_weight
weight_put p m s t l =
    let new : pair_weight p s (put m s (suc t) s) ≡ p.tree_cost t - p.spare_cost s = ap (pair_weight p s) (put_same m s (suc t)) in
    omega (
      arith,
      new,
      sum_change p.spares (λ s'. pair_weight p s' (put m s (suc t) s')) (λ s'. pair_weight p s' (m s')) s l
          (λ j k q. ap (pair_weight p j) (put_other m s (suc t) j q)),
    )

-- The weight, if s was unmatched: t is one more.
weight_more :
    (p : Problem) (m : Mates) (s t : ℕ) →
    s < p.spares →
    m s ≡ 0 →
    rank_weight p (put m s (suc t)) ≡ rank_weight p m + (p.tree_cost t - p.spare_cost s)
unfolding pair_weight
weight_more p m s t l e = omega (arith, weight_put p m s t l, ap (pair_weight p s) e)

-- The weight, if s was the mate of another tree rank: t is in its place.
weight_moved :
    (p : Problem) (m : Mates) (s t t' : ℕ) →
    s < p.spares →
    m s ≡ suc t' →
    rank_weight p (put m s (suc t)) + (p.tree_cost t' - p.spare_cost s) ≡ rank_weight p m + (p.tree_cost t - p.spare_cost s)
unfolding pair_weight
weight_moved p m s t t' l e = omega (arith, weight_put p m s t l, ap (pair_weight p s) e)

-- The potentials do not fall from tree rank t to the goal, and the goal's is the least that t needs: so they are level, and
-- the matching that the path turns has t matched besides. Its weight has gained what t costs above the goal.
module _
    (p : Problem)
    (goal n : ℕ)
    (base : Mates)
    (d : ℕ → ℕ)
    (feasible : (s s' t : ℕ) → s < p.spares → s' < p.spares → base s ≡ suc t → p.covers t s' ≡ true → d s ≤ d s')
    (free : base goal ≡ 0)
    (dear : (x : ℕ) → x < n → d goal < p.tree_cost x)
  where
    pub path_turns :
        {m m' : Mates} {t : ℕ} →
        AugmentingPath p goal base m t m' →
        Pairs p n m d →
        t < n →
        Unmatched p m t →
        ((s : ℕ) → s < p.spares → p.covers t s ≡ true → d goal ≤ d s) →
        ((x : ℕ) → x < n → (x ≡ t) ⊎ Done p m d x) →
        Pairs p n m' d × ((x : ℕ) → x < n → Done p m' d x) × (rank_weight p m' + p.spare_cost goal ≡ rank_weight p m + p.tree_cost t)
    path_turns (stop {m = m} {t = t} l c e) g b u h f = (
      pairs_put p n m d g goal t l b c u h (dear t b),
      (λ x k. done_put p n m d g goal t l x (λ q. omega (arith, e)) (f x k)),
      omega (arith, weight_more p m goal t l (e ∙ free), dear t b, g.above goal l),
    )
    path_turns (via {m = m} {t = t} {s = s} {t' = t'} l c b e π) g k u h f =
        let level : d s ≡ d goal = omega (arith, h s l c, path_rises p goal base d feasible π (d s) (λ s' l' c'. feasible s s' t' l l' b c')) in
        let (pairs, done, gained) =
        path_turns π
        (pairs_put p n m d g s t l k c u (λ s' l' c'. omega (arith, h s' l' c')) (omega (arith, dear t k)))
        (g.below s t' l e)
        (λ s' l' q.
        elim (mate_view m s t s' t' q) [
          | inl r ↦ u s l (rw r.1 e)
          | inr r ↦ r.0 (g.once s s' t' l l' e r.1)
        ])
        (λ s' l' c'. omega (arith, g.feasible s s' t' l l' e c'))
        (λ x j.
        elim (ℕ_discrete x t') [
          | yes q ↦ inl q
          | no q ↦ inr (done_put p n m d g s t l x (λ r. q (omega (arith, e, r))) (f x j))
        ]) in
        (pairs, done, omega (arith, gained, weight_moved p m s t t' l e, dear t k, g.above s l, g.falls s t' l e))
