-- Side functions: a tree edge cuts the nodes in two, and a simple tree path takes the edge exactly when its ends lie on different sides.
-- Assumes nothing.
use Rattle.std.specs.Prelude.{ℕ, ◌<◌, ◌≡◌, refl, ◌↔◌, ◌≢◌, Bool, true}
use Rattle.std.proofs.Common.{arith, sym, ◌∙◌, inl, inr}
use Rattle.std.proofs.Math.Decide.{ℕ_discrete}
use Rattle.std.proofs.Math.Path.{ap}
use Rattle.std.proofs.Math.Bool.{false, decide, decide_iff, Bool-discrete}
use mathlib.Core.List.Memᴰ
use mathlib.Core.List.{List, Memᴰ}
use Rattle.loops.specs.Loop.{put}
use Rattle.loops.specs.PutLaws.{put_other}
use Rattle.graph.specs.Graph.{Graph, EdgeSet, Leads, forth, back, Walk, stop, step, Joined, SpanningTree, NoneTwice, Covers}
use Rattle.graph.specs.CountLaws.{count_put}
use Rattle.graph.specs.Walks.{joined_edge, joined_through, member?, Simple, simple_walk}
use Rattle.graph.specs.Labels.{label, label_edge, joined_label, counting}

-- `side` is equal at the ends of every edge of S but t, and different at the ends of t.
pub record Cut (g : Graph) (S : EdgeSet) (t : ℕ) (side : ℕ → Bool) : Type 0 where
  pub others : (e : ℕ) → e < g.edges → S e ≡ true → e ≢ t → side (g.end₁ e) ≡ side (g.end₂ e)
  pub itself : side (g.end₁ t) ≢ side (g.end₂ t)

-- What an edge says of its ends, it says in both directions.
leads_equal : {g : Graph} {e u v : ℕ} (side : ℕ → Bool) → Leads g e u v → (side (g.end₁ e) ≡ side (g.end₂ e)) ↔ (side u ≡ side v)
leads_equal side (forth p q) = rw (p, q) (λ e. e, λ e. e)
leads_equal side (back p q) = rw (p, q) (λ e. sym e, λ e. sym e)

module _ {g : Graph} {S : EdgeSet} {t : ℕ} {side : ℕ → Bool} (c : Cut g S t side) where
  -- The side stays along a walk that does not take t, and changes along a simple walk that does.
  pub side_stays : {u v : ℕ} {es : List ℕ} → Walk g S u v es → ¬ Memᴰ t es → side u ≡ side v
  side_stays stop n = refl
  side_stays (step {e} k s l x) n = (leads_equal side l).0 (c.others e k s (λ p. n (Memᴰ.head (sym p)))) ∙ side_stays x (λ m. n (Memᴰ.tail m))

  pub side_changes : {u v : ℕ} {es : List ℕ} → Walk g S u v es → NoneTwice es → Memᴰ t es → side u ≢ side v
  side_changes stop n m = absurd (Memᴰ.not-nil m)
  side_changes (step {e} k s l x) n m =
      elim (Memᴰ.cases_cons m) [
        | inl p ↦ λ q. c.itself (rw p ((leads_equal side l).1 (q ∙ sym (side_stays x (λ o. n.0 (Memᴰ.cast (sym p) o))))))
        | inr o ↦ λ q. side_changes x n.1 o (sym ((leads_equal side l).0 (c.others e k s (λ p. n.0 (Memᴰ.cast p o)))) ∙ q)
      ]

-- An edge s that may be used covers t exactly when the ends of s lie on different sides of t.
pub covers_side :
    (g : Graph) (tr : EdgeSet) (t : ℕ) (side : ℕ → Bool) →
    Cut g tr t side →
    (s : ℕ) →
    g.live s ≡ true →
    Joined g tr (g.end₁ s) (g.end₂ s) →
    Covers g tr s t ↔ (side (g.end₁ s) ≢ side (g.end₂ s))
covers_side g tr t side c s usable j = (λ v. side_changes c v.walk v.simple v.holds, λ d. covered d (simple_walk j.1))
  where
    covered : side (g.end₁ s) ≢ side (g.end₂ s) → Simple g tr (g.end₁ s) (g.end₂ s) → Covers g tr s t
    covered d r = elim (member? t r.0) [
      | yes m ↦ record { usable = usable; path = r.0; walk = r.1; simple = r.2; holds = m }
      | no n ↦ absurd (d (side_stays c r.1 n))
    ]

-- A walk between different sides takes an edge whose ends lie on different sides.
pub crossing :
    {g : Graph} {S : EdgeSet} {u v : ℕ} {es : List ℕ} (side : ℕ → Bool) →
    Walk g S u v es →
    side u ≢ side v →
    (t : ℕ) × Memᴰ t es × (side (g.end₁ t) ≢ side (g.end₂ t))
crossing side stop d = absurd (d refl)
crossing {u} side (step {e} {v = w} k s l x) d =
    elim (Bool-discrete (side u) (side w)) [
      | yes p ↦ let (t, m, q) = crossing side x (λ r. d (p ∙ r)) in (t, Memᴰ.tail m, q)
      | no n ↦ (e, Memᴰ.head refl, λ r. n ((leads_equal side l).0 r))
    ]

-- ---- every tree edge has a side function

-- The nodes that are joined to the first end of t without t.
pub tree_side : Graph → EdgeSet → ℕ → ℕ → Bool
tree_side g S t v = decide (ℕ_discrete (label g (put S t false) v) (label g (put S t false) (g.end₁ t)))

module _ {g : Graph} {S : EdgeSet} (tree : SpanningTree g S) {t : ℕ} (k : t < g.edges) (s : S t ≡ true) where
  -- Without one of its edges a spanning tree does not join the ends of that edge.
  apart : ¬ Joined g (put S t false) (g.end₁ t) (g.end₂ t)
  apart j =
      omega (arith, rw s at (count_put g.edges S t false k), counting g (put S t false) (λ u v a b. joined_through ends (tree.joins u v a b)), tree.size)
    where
      ends : (e : ℕ) → e < g.edges → S e ≡ true → Joined g (put S t false) (g.end₁ e) (g.end₂ e)
      ends e l i = elim (ℕ_discrete e t) [ yes p ↦ rw p j | no d ↦ joined_edge l (put_other S t false e d ∙ i) (forth refl refl) ]

  pub tree_cut : Cut g S t (tree_side g S t)
  unfolding tree_side
  tree_cut = record {
    others = λ e l i d. ap (λ x. decide (ℕ_discrete x (label g (put S t false) (g.end₁ t)))) (label_edge g (put S t false) e l (put_other S t false e d ∙ i));
    itself = λ e. apart ((joined_label g (put S t false) (g.end₁ t) (g.end₂ t)).1 (sym ((decide_iff _).0 (sym e ∙ (decide_iff (ℕ_discrete _ _)).1 refl))));
  }
