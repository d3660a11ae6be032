-- Laws of lists of pairs: their order, that no edge is in two of them, how many there are, their weight as a natural number.
-- Assumes nothing.
use Rattle.std.specs.Prelude.{ℕ, zero, suc, ◌-◌, ◌≤◌, ◌<◌, ◌≡◌, refl, true, false, ◌≢◌, ◌⊎◌, length, pos, ◌-ℤ◌}
use Rattle.std.proofs.Common.{ap, sym, ◌∙◌, inl, inr, arith, le-ltb}
use mathlib.Core.List.Memᴰ
use mathlib.Core.List.{List, [], ◌∷◌, flat_map, Memᴰ}
use Rattle.loops.specs.Loop.{put}
use Rattle.loops.specs.PutLaws.{put_other}
use Rattle.loops.specs.SumLaws.{sum_over}
use Rattle.loops.specs.Ordered.{Ordered}
use Rattle.graph.specs.Graph.{EdgeSet, NoneTwice, count}
use Rattle.graph.specs.CountLaws.{count_put}
use Rattle.optimum.specs.Optimum.{Pair, both, weight, Rising, Falls}

pub ordered_rising : (ps : List Pair) → Ordered (λ p q. p.tree < q.tree) ps → Rising ps
ordered_rising [] o = tt
ordered_rising (p ∷ ps) o = (o.0, ordered_rising ps o.1)

pub both_from : (ps : List Pair) (e : ℕ) → Memᴰ e (flat_map both ps) → (q : Pair) × Memᴰ q ps × ((e ≡ q.tree) ⊎ (e ≡ q.spare))
unfolding flat_map
both_from [] e m = absurd (Memᴰ.not-nil m)
both_from (p ∷ ps) e m = at_tree (λ r. both_from ps e r) (Memᴰ.cases_cons m)
  where
    Source : List Pair → Type 0
    Source qs = (q : Pair) × Memᴰ q qs × ((e ≡ q.tree) ⊎ (e ≡ q.spare))

    at_spare : (Memᴰ e (flat_map both ps) → Source ps) → (e ≡ p.spare) ⊎ Memᴰ e (flat_map both ps) → Source (p ∷ ps)
    at_spare later (inl q) = (p, Memᴰ.head refl, inr q)
    at_spare later (inr r) =
        let s = later r in
        (s.0, Memᴰ.tail s.1, s.2)

    at_tree :
        (Memᴰ e (flat_map both ps) → Source ps)
        → (e ≡ p.tree) ⊎ Memᴰ e (p.spare ∷ flat_map both ps) → Source (p ∷ ps)
    at_tree later (inl q) = (p, Memᴰ.head refl, inl q)
    at_tree later (inr r) = at_spare later (Memᴰ.cases_cons r)

-- No edge is in two of the pairs if they rise, tree edges are no non-tree edges, and a non-tree edge has one mate.
pub rising_apart :
    (ps : List Pair) → Rising ps → ((p q : Pair) → Memᴰ p ps → Memᴰ q ps → p.tree ≢ q.spare)
    → ((p q : Pair) → Memᴰ p ps → Memᴰ q ps → p.spare ≡ q.spare → p.tree ≡ q.tree)
    → NoneTwice (flat_map both ps)
unfolding flat_map
rising_apart [] rise kinds one = tt
rising_apart (p ∷ ps) rise kinds one =
    let later : NoneTwice (flat_map both ps) =
    rising_apart ps rise.1 (λ q r m n. kinds q r (Memᴰ.tail m) (Memᴰ.tail n))
    (λ q r m n. one q r (Memᴰ.tail m) (Memᴰ.tail n)) in
    (λ m. tree_new (Memᴰ.cases_cons m), (λ m. spare_new (both_from ps p.spare m), later))
  where
    spare_new : ((q : Pair) × Memᴰ q ps × ((p.spare ≡ q.tree) ⊎ (p.spare ≡ q.spare))) → ⊥
    spare_new s = elim s.2 [
      | inl e ↦ kinds s.0 p (Memᴰ.tail s.1) (Memᴰ.head refl) (sym e)
      | inr e ↦
          omega (
            arith,
            rise.0 s.0 s.1,
            one p s.0 (Memᴰ.head refl) (Memᴰ.tail s.1) e,
          )
    ]

    tree_later : ((q : Pair) × Memᴰ q ps × ((p.tree ≡ q.tree) ⊎ (p.tree ≡ q.spare))) → ⊥
    tree_later s = elim s.2 [
      | inl e ↦ omega (arith, rise.0 s.0 s.1)
      | inr e ↦ kinds p s.0 (Memᴰ.head refl) (Memᴰ.tail s.1) e
    ]

    tree_new : (p.tree ≡ p.spare) ⊎ Memᴰ p.tree (flat_map both ps) → ⊥
    tree_new (inl e) = kinds p p (Memᴰ.head refl) (Memᴰ.head refl) e
    tree_new (inr m) = tree_later (both_from ps p.tree m)

-- There are at most as many pairs as members of a set that holds all their tree edges.
pub rising_count :
    (m : ℕ) (S : EdgeSet) (ps : List Pair) → Rising ps
    → ((q : Pair) → Memᴰ q ps → (q.tree < m) × (S q.tree ≡ true)) → length ps ≤ count m S
rising_count m S [] rise inside = omega arith
rising_count m S (p ∷ ps) rise inside =
    let here : (p.tree < m) × (S p.tree ≡ true) = inside p (Memᴰ.head refl) in
    omega (
      arith,
      rw here.1 at (count_put m S p.tree false here.0),
      rising_count m (put S p.tree false) ps rise.1 λ q k. (
        (inside q (Memᴰ.tail k)).0,
        put_other S p.tree false q.tree (λ e. omega (arith, rise.0 q k)) ∙ (inside q (Memᴰ.tail k)).1,
      ),
    )

pos_sub : (a b : ℕ) → b ≤ a → pos a -ℤ pos b ≡ pos (a - b)
pos_sub a zero h = ap pos (omega arith)
pos_sub a (suc b) h = rw (le-ltb a (suc b) h)

pub falls_weight :
    (c : ℕ → ℕ) (ps : List Pair) → Falls c ps → weight c ps ≡ pos (sum_over (λ q. c q.tree - c q.spare) ps)
unfolding weight sum_over
falls_weight c [] falls = refl
falls_weight c (p ∷ ps) falls =
    let fall : c p.spare < c p.tree = falls p (Memᴰ.head refl) in
    rw (pos_sub (c p.tree) (c p.spare) (omega arith), falls_weight c ps (λ q m. falls q (Memᴰ.tail m)))
