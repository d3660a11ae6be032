-- The algebra of walks: joined is an equivalence, walks carry over to other sets of edges, and every walk can be cut to a simple one.
-- Assumes nothing.
use Rattle.std.specs.Prelude.{ℕ, ◌<◌, ◌≡◌, refl, ◌⊎◌, true}
use Rattle.std.proofs.Math.Decide.{ℕ_discrete}
use Rattle.std.proofs.Common.{sym, ◌∙◌, inl, inr}
use mathlib.Core.List.Memᴰ
use mathlib.Core.List.{List, [], ◌∷◌, Memᴰ}
use Rattle.graph.specs.Graph.{Graph, EdgeSet, Leads, forth, back, Walk, stop, step, Joined, NoneTwice}

pub leads_back : {g : Graph} {e u v : ℕ} → Leads g e u v → Leads g e v u
leads_back (forth p q) = back q p
leads_back (back p q) = forth q p

-- Two ways over one edge end at the same node, or one ends where the other begins.
leads_two : {g : Graph} {e u v x y : ℕ} → Leads g e u v → Leads g e x y → (y ≡ v) ⊎ (y ≡ u)
leads_two (forth p q) (forth r s) = inl (sym s ∙ q)
leads_two (forth p q) (back r s) = inr (sym s ∙ p)
leads_two (back p q) (forth r s) = inr (sym s ∙ p)
leads_two (back p q) (back r s) = inl (sym s ∙ q)

pub joined_refl : {g : Graph} {S : EdgeSet} {u : ℕ} → Joined g S u u
joined_refl = ([], stop)

pub joined_edge : {g : Graph} {S : EdgeSet} {e u v : ℕ} → e < g.edges → S e ≡ true → Leads g e u v → Joined g S u v
joined_edge {e} k s l = (e ∷ [], step k s l stop)

walk_on : {g : Graph} {S : EdgeSet} {u v w : ℕ} {es : List ℕ} → Walk g S u v es → Joined g S v w → Joined g S u w
walk_on stop j = j
walk_on (step {e} k s l x) j = let (es, y) = walk_on x j in (e ∷ es, step k s l y)

pub joined_trans : {g : Graph} {S : EdgeSet} {u v w : ℕ} → Joined g S u v → Joined g S v w → Joined g S u w
joined_trans i j = walk_on i.1 j

walk_back : {g : Graph} {S : EdgeSet} {u v : ℕ} {es : List ℕ} → Walk g S u v es → Joined g S v u
walk_back stop = joined_refl
walk_back (step k s l x) = joined_trans (walk_back x) (joined_edge k s (leads_back l))

pub joined_sym : {g : Graph} {S : EdgeSet} {u v : ℕ} → Joined g S u v → Joined g S v u
joined_sym j = walk_back j.1

-- If U joins the ends of every edge of S, it joins what S joins.
module _ {g : Graph} {S U : EdgeSet} (ends : (e : ℕ) → e < g.edges → S e ≡ true → Joined g U (g.end₁ e) (g.end₂ e)) where
  edge_through : {e u v : ℕ} → e < g.edges → S e ≡ true → Leads g e u v → Joined g U u v
  edge_through {e} k s (forth p q) = rw (p, q) at (ends e k s)
  edge_through {e} k s (back p q) = rw (p, q) at (joined_sym (ends e k s))

  walk_through : {u v : ℕ} {es : List ℕ} → Walk g S u v es → Joined g U u v
  walk_through stop = joined_refl
  walk_through (step k s l x) = joined_trans (edge_through k s l) (walk_through x)

  pub joined_through : {u v : ℕ} → Joined g S u v → Joined g U u v
  joined_through j = walk_through j.1

-- A walk all of whose edges are in U is a walk over U.
pub walk_within :
    {g : Graph} {S : EdgeSet} (U : EdgeSet) {u v : ℕ} {es : List ℕ} →
    Walk g S u v es →
    ((e : ℕ) → Memᴰ e es → S e ≡ true → U e ≡ true) →
    Walk g U u v es
walk_within U stop h = stop
walk_within U (step {e} k s l x) h = step k (h e (Memᴰ.head refl) s) l (walk_within U x (λ i m. h i (Memᴰ.tail m)))

-- An edge of a walk is an edge of the set.
pub walk_member : {g : Graph} {S : EdgeSet} {u v t : ℕ} {es : List ℕ} → Walk g S u v es → Memᴰ t es → (t < g.edges) × (S t ≡ true)
walk_member stop m = absurd (Memᴰ.not-nil m)
walk_member (step k s l x) m = elim (Memᴰ.cases_cons m) [ inl e ↦ rw e (k, s) | inr n ↦ walk_member x n ]

pub member? : (x : ℕ) (xs : List ℕ) → Dec (Memᴰ x xs)
member? x [] = no Memᴰ.not-nil
member? x (y ∷ ys) = here (ℕ_discrete x y) (member? x ys)
  where
    here : Dec (x ≡ y) → Dec (Memᴰ x ys) → Dec (Memᴰ x (y ∷ ys))
    here (yes e) r = yes (Memᴰ.head e)
    here (no d) (yes m) = yes (Memᴰ.tail m)
    here (no d) (no n) = no (λ m. elim (Memᴰ.cases_cons m) [ inl e ↦ d e | inr k ↦ n k ])

-- A simple walk takes no edge twice.
abbrev pub Simple : Graph → EdgeSet → ℕ → ℕ → Type 0
Simple g S u v = (es : List ℕ) × Walk g S u v es × NoneTwice es

-- From u over e, when e comes again later: take the rest of the walk behind that, with e before it if need be.
skip :
    {g : Graph} {S : EdgeSet} {e u v x w : ℕ} {es : List ℕ} →
    e < g.edges →
    S e ≡ true →
    Leads g e u v →
    Walk g S x w es →
    NoneTwice es →
    Memᴰ e es →
    Simple g S u w
skip k s l stop n m = absurd (Memᴰ.not-nil m)
skip {g} {S} {e} {u} {v} {w = w} k s l (step {e = f} {v = y} {es = fs} k' s' l' rest) n m =
    elim (Memᴰ.cases_cons m) [ inl p ↦ found p | inr o ↦ skip k s l rest n.1 o ]
  where
    found : e ≡ f → Simple g S u w
    found p =
        elim (leads_two l (rw (← p) at l')) [
          | inl q ↦ (e ∷ fs, step k s l (rw q at rest), (λ o. n.0 (Memᴰ.cast (sym p) o), n.1))
          | inr q ↦
              (fs, rw q at rest, n.1)
        ]

pub simple_walk : {g : Graph} {S : EdgeSet} {u v : ℕ} {es : List ℕ} → Walk g S u v es → Simple g S u v
simple_walk stop = ([], stop, tt)
simple_walk {g} {S} {u} {v} (step {e} {v = y} k s l x) = cut (simple_walk x)
  where
    cut : Simple g S y v → Simple g S u v
    cut r = elim (member? e r.0) [ yes m ↦ skip k s l r.1 r.2 m | no n ↦ (e ∷ r.0, step k s l r.1, (n, r.2)) ]
