-- A label for every node, computed by merging labels edge by edge: two nodes are joined exactly when their labels are equal.
-- Hence the counting lemma: k edges that join n nodes have k ≥ n − 1. Assumes nothing.
use Prim.Native.Nat.{ℕ, zero, suc, ◌+◌, ◌≤◌, ◌<◌}
use native.Mathlib.Omega.{arith}
use Rattle.std.proofs.Math.Decide.{ℕ_discrete}
use Rattle.std.specs.Prelude.{◌≡◌, ◌↔◌, ◌≢◌, Bool, List}
use Rattle.std.proofs.Math.Path.{refl, sym}
use Rattle.std.proofs.Common.{ap, ◌∙◌, inl, inr}
use Rattle.std.proofs.Math.Logic.{ite, if_pos, if_neg}
use Rattle.std.proofs.Math.Bool.{true, false, cond, decide, decide_iff}
use Rattle.loops.specs.FoldLaws.{last_or_below}
use Rattle.graph.specs.Graph.{Graph, EdgeSet, forth, back, Walk, stop, step, Joined, count}
use Rattle.graph.specs.CountLaws.{count_all, count_but_one, count_one}
use Rattle.graph.specs.Walks.{joined_refl, joined_edge, joined_trans, joined_sym}

-- The nodes labelled like a take the label of b.
merge : (ℕ → ℕ) → ℕ → ℕ → ℕ → ℕ
merge L a b v = ite (ℕ_discrete (L v) (L a)) (L b) (L v)

-- Each node labelled by itself, and then the ends of the edges of S below m merged.
labels : Graph → EdgeSet → ℕ → ℕ → ℕ
labels g S zero = λ v. v
labels g S (suc m) = cond (S m) (merge (labels g S m) (g.end₁ m) (g.end₂ m)) (labels g S m)

pub label : Graph → EdgeSet → ℕ → ℕ
label g S = labels g S g.edges

labels_in : (g : Graph) (S : EdgeSet) (m : ℕ) → S m ≡ true → labels g S (suc m) ≡ merge (labels g S m) (g.end₁ m) (g.end₂ m)
unfolding labels
labels_in g S m e = ap (λ b. cond b (merge (labels g S m) (g.end₁ m) (g.end₂ m)) (labels g S m)) e

labels_out : (g : Graph) (S : EdgeSet) (m : ℕ) → S m ≡ false → labels g S (suc m) ≡ labels g S m
unfolding labels
labels_out g S m e = ap (λ b. cond b (merge (labels g S m) (g.end₁ m) (g.end₂ m)) (labels g S m)) e

merge_same : (L : ℕ → ℕ) (a b u v : ℕ) → L u ≡ L v → merge L a b u ≡ merge L a b v
unfolding merge
merge_same L a b u v e = ap (λ x. ite (ℕ_discrete x (L a)) (L b) x) e

merge_first : (L : ℕ → ℕ) (a b v : ℕ) → L v ≡ L a → merge L a b v ≡ L b
unfolding merge
merge_first L a b v e = if_pos (ℕ_discrete (L v) (L a)) e (L b) (L v)

merge_other : (L : ℕ → ℕ) (a b v : ℕ) → L v ≢ L a → merge L a b v ≡ L v
unfolding merge
merge_other L a b v d = if_neg (ℕ_discrete (L v) (L a)) d (L b) (L v)

merge_second : (L : ℕ → ℕ) (a b : ℕ) → merge L a b b ≡ L b
merge_second L a b = elim (ℕ_discrete (L b) (L a)) [ yes e ↦ merge_first L a b b e | no d ↦ merge_other L a b b d ]

-- ---- equal labels are joined

module _ (g : Graph) (S : EdgeSet) where
  merged_joined : (L : ℕ → ℕ) (a b : ℕ) → Joined g S a b → ((v : ℕ) → Joined g S v (L v)) → (v : ℕ) → Joined g S v (merge L a b v)
  merged_joined L a b j h v =
      elim (ℕ_discrete (L v) (L a)) [
        | yes e ↦ rw (merge_first L a b v e)
            (joined_trans (rw e at (h v)) (joined_trans (joined_sym (h a)) (joined_trans j (h b))))
        | no d ↦ rw (merge_other L a b v d) (h v)
      ]

  labels_joined : (m : ℕ) → m ≤ g.edges → (v : ℕ) → Joined g S v (labels g S m v)
  unfolding labels
  labels_joined zero k v = joined_refl
  labels_joined (suc m) k v = next (S m) refl (labels_joined m (omega arith))
    where
      next : (b : Bool) → S m ≡ b → ((w : ℕ) → Joined g S w (labels g S m w)) → Joined g S v (labels g S (suc m) v)
      next true e h = rw (labels_in g S m e) (merged_joined (labels g S m) (g.end₁ m) (g.end₂ m) (joined_edge k e (forth refl refl)) h v)
      next false e h = rw (labels_out g S m e) (h v)

  -- ---- joined nodes have equal labels
  labels_edge : (m e : ℕ) → e < m → S e ≡ true → labels g S m (g.end₁ e) ≡ labels g S m (g.end₂ e)
  labels_edge zero e k s = absurd (omega arith)
  labels_edge (suc m) e k s = elim (last_or_below k) [ inl p ↦ here (rw p at s) p | inr l ↦ before (S m) refl (labels_edge m e l s) ]
    where
      here : S m ≡ true → e ≡ m → labels g S (suc m) (g.end₁ e) ≡ labels g S (suc m) (g.end₂ e)
      here s p =
          rw (p, labels_in g S m s) (merge_first (labels g S m) (g.end₁ m) (g.end₂ m) (g.end₁ m) refl ∙
          sym (merge_second (labels g S m) (g.end₁ m) (g.end₂ m)))

      before : (b : Bool) → S m ≡ b → labels g S m (g.end₁ e) ≡ labels g S m (g.end₂ e) → labels g S (suc m) (g.end₁ e) ≡ labels g S (suc m) (g.end₂ e)
      before true s h = rw (labels_in g S m s) (merge_same (labels g S m) (g.end₁ m) (g.end₂ m) (g.end₁ e) (g.end₂ e) h)
      before false s h = rw (labels_out g S m s) h

  pub label_edge : (e : ℕ) → e < g.edges → S e ≡ true → label g S (g.end₁ e) ≡ label g S (g.end₂ e)
  unfolding label
  label_edge e k s = labels_edge g.edges e k s

  label_walk : {u v : ℕ} {es : List ℕ} → Walk g S u v es → label g S u ≡ label g S v
  label_walk stop = refl
  label_walk (step {e} k s (forth p q) x) = rw (← p) (label_edge e k s ∙ rw q (label_walk x))
  label_walk (step {e} k s (back p q) x) = rw (← p) (sym (label_edge e k s) ∙ rw q (label_walk x))

  pub joined_label : (u v : ℕ) → Joined g S u v ↔ (label g S u ≡ label g S v)
  unfolding label
  joined_label u v =
      (λ j. label_walk j.1, λ e. joined_trans (rw e at (labels_joined g.edges (omega arith) u)) (joined_sym (labels_joined g.edges (omega arith) v)))

-- ---- counting: the nodes that are labelled by themselves are at most one fewer for each edge

roots : (ℕ → ℕ) → EdgeSet
roots L v = decide (ℕ_discrete (L v) v)

root_label : (L : ℕ → ℕ) (v : ℕ) → (roots L v ≡ true) ↔ (L v ≡ v)
unfolding roots
root_label L v = decide_iff (ℕ_discrete (L v) v)

merge_roots : (n : ℕ) (L : ℕ → ℕ) (a b : ℕ) → count n (roots L) ≤ suc (count n (roots (merge L a b)))
merge_roots n L a b = count_but_one n (roots L) (roots (merge L a b)) (L a) (λ v k d t. kept v d ((root_label L v).0 t))
  where
    kept : (v : ℕ) → v ≢ L a → L v ≡ v → roots (merge L a b) v ≡ true
    kept v d e = (root_label (merge L a b) v).1 (merge_other L a b v (rw e d) ∙ e)

module _ (g : Graph) (S : EdgeSet) where
  roots_left : (m n : ℕ) → n ≤ count n (roots (labels g S m)) + count m S
  unfolding labels count
  roots_left zero n = omega (arith, count_all n (roots (λ v. v)) (λ i k. (root_label (λ v. v) i).1 refl))
  roots_left (suc m) n = next (S m) refl (roots_left m n)
    where
      next : (b : Bool) → S m ≡ b → n ≤ count n (roots (labels g S m)) + count m S → n ≤ count n (roots (labels g S (suc m))) + (count m S + cond (S m) 1 0)
      next true e h = rw (labels_in g S m e, e) (omega (arith, merge_roots n (labels g S m) (g.end₁ m) (g.end₂ m)))
      next false e h = rw (labels_out g S m e, e) (omega arith)

  -- A set of edges that joins all nodes has at least one edge fewer than there are nodes.
  pub counting : ((u v : ℕ) → u < g.nodes → v < g.nodes → Joined g S u v) → g.nodes ≤ suc (count g.edges S)
  unfolding label
  counting j =
      omega (
        arith,
        roots_left g.edges g.nodes,
        count_one g.nodes (roots (label g S))
            (λ u v k l s t. sym ((root_label (label g S) u).0 s) ∙ (joined_label g S u v).0 (j u v k l) ∙ (root_label (label g S) v).0 t),
      )
