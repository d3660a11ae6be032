-- Swapping an edge of a spanning tree for one between its two sides gives a spanning tree, and changes the total by the two costs.
-- Assumes nothing.
use Rattle.std.specs.Prelude.{ℕ, suc, ◌<◌, ◌≡◌, refl, ◌≢◌, Bool, ℤ, ◌+ℤ◌}
use Rattle.std.proofs.Common.{arith, sym, ◌∙◌}
use Rattle.std.proofs.Math.Decide.{ℕ_discrete}
use Rattle.std.proofs.Math.Path.{ap}
use Rattle.std.proofs.Math.Bool.{true, false, Bool-discrete}
use Rattle.std.proofs.lemmas.Bool.{false≢true}
use mathlib.Core.List.Memᴰ
use Rattle.std.proofs.Math.IntN.{+ℤ_idr}
use Rattle.loops.specs.Loop.{put}
use Rattle.loops.specs.PutLaws.{put_same, put_other}
use Rattle.graph.specs.Graph.{Graph, Sound, EdgeSet, Leads, forth, back, Joined, count, SpanningTree, total}
use Rattle.graph.specs.Integers.{+ℤ_swap}
use Rattle.graph.specs.CountLaws.{member_differs, count_put, total_put}
use Rattle.graph.specs.Walks.{joined_edge, joined_trans, joined_through, walk_within, Simple, simple_walk}
use Rattle.graph.specs.Sides.{Cut, side_changes}

-- S without e and with f.
pub swap : EdgeSet → ℕ → ℕ → EdgeSet
swap S e f = put (put S e false) f true

pub swap_in : (S : EdgeSet) (e f : ℕ) → swap S e f f ≡ true
unfolding swap
swap_in S e f = put_same (put S e false) f true

pub swap_out : (S : EdgeSet) (e f : ℕ) → e ≢ f → swap S e f e ≡ false
unfolding swap
swap_out S e f d = put_other (put S e false) f true e d ∙ put_same S e false

pub swap_other : (S : EdgeSet) (e f i : ℕ) → i ≢ e → i ≢ f → swap S e f i ≡ S i
unfolding swap
swap_other S e f i d h = put_other (put S e false) f true i h ∙ put_other S e false i d

swap_keeps : (S : EdgeSet) (e f i : ℕ) → i ≢ e → S i ≡ true → swap S e f i ≡ true
swap_keeps S e f i d s = elim (ℕ_discrete i f) [ yes p ↦ rw p (swap_in S e f) | no h ↦ swap_other S e f i d h ∙ s ]

third_side : (x y z : Bool) → x ≢ y → x ≢ z → y ≡ z
third_side x false false d h = refl
third_side x true true d h = refl
third_side false false true d h = absurd (d refl)
third_side true false true d h = absurd (h refl)
third_side false true false d h = absurd (h refl)
third_side true true false d h = absurd (d refl)

module _ (m : ℕ) (S : EdgeSet) (e f : ℕ) (k : e < m) (l : f < m) (s : S e ≡ true) (o : S f ≡ false) where
  absent : put S e false f ≡ false
  absent = put_other S e false f (λ p. member_differs S e f s o (sym p)) ∙ o

  swap_count : count m (swap S e f) ≡ count m S
  unfolding swap
  swap_count =
      omega (arith, rw s at (count_put m S e false k), rw absent at (count_put m (put S e false) f true l))

  pub swap_total : (d : ℕ → ℤ) → total m (swap S e f) d +ℤ d e ≡ total m S d +ℤ d f
  unfolding swap
  swap_total d = ap (λ z. z +ℤ d e) added ∙ +ℤ_swap (total m (put S e false) d) (d f) (d e) ∙ ap (λ z. z +ℤ d f) removed
    where
      removed : total m (put S e false) d +ℤ d e ≡ total m S d
      removed = rw (s, +ℤ_idr (total m S d)) at (total_put m S d e false k)

      added : total m (put (put S e false) f true) d ≡ total m (put S e false) d +ℤ d f
      added = rw (absent, +ℤ_idr (total m (put (put S e false) f true) d)) at (total_put m (put S e false) d f true l)

module _ {g : Graph} (sound : Sound g) {S : EdgeSet} (tree : SpanningTree g S) {e f : ℕ} (k : e < g.edges) (l : f < g.edges) {side : ℕ → Bool}
    (c : Cut g S e side) (d : side (g.end₁ f) ≢ side (g.end₂ f)) where
  same_side : (u v : ℕ) → u < g.nodes → v < g.nodes → side u ≡ side v → Joined g (swap S e f) u v
  same_side u v a b p = without (simple_walk (tree.joins u v a b).1)
    where
      without : Simple g S u v → Joined g (swap S e f) u v
      without r = (r.0, walk_within (swap S e f) r.1 (λ i m. swap_keeps S e f i (λ q. side_changes c r.1 r.2 (Memᴰ.cast (sym q) m) p)))

  -- The ends of e are joined over f, which lies between the same two sides.
  ends_joined : Joined g (swap S e f) (g.end₁ e) (g.end₂ e)
  ends_joined =
      elim (Bool-discrete (side (g.end₁ e)) (side (g.end₁ f))) [
        | yes p ↦ over (forth refl refl) (sound.first f l) (sound.second f l) p (λ q. d (sym p ∙ q))
        | no h ↦ over (back refl refl) (sound.second f l) (sound.first f l)
            (third_side (side (g.end₁ f)) (side (g.end₁ e)) (side (g.end₂ f)) (λ q. h (sym q)) d) h
      ]
    where
      over :
          {x y : ℕ} →
          Leads g f x y →
          x < g.nodes →
          y < g.nodes →
          side (g.end₁ e) ≡ side x →
          side (g.end₁ e) ≢ side y →
          Joined g (swap S e f) (g.end₁ e) (g.end₂ e)
      over {x} {y} r a b p h =
          joined_trans (same_side (g.end₁ e) x (sound.first e k) a p)
          (joined_trans (joined_edge l (swap_in S e f) r)
          (same_side y (g.end₂ e) b (sound.second e k) (third_side (side (g.end₁ e)) (side y) (side (g.end₂ e)) h c.itself)))

  edge_joined : (i : ℕ) → i < g.edges → S i ≡ true → Joined g (swap S e f) (g.end₁ i) (g.end₂ i)
  edge_joined i a s = elim (ℕ_discrete i e) [ yes p ↦ rw p ends_joined | no h ↦ joined_edge a (swap_keeps S e f i h s) (forth refl refl) ]

  pub swap_tree : S e ≡ true → S f ≡ false → g.live f ≡ true → SpanningTree g (swap S e f)
  swap_tree s o v =
      record {
        usable = usable;
        size = ap suc (swap_count g.edges S e f k l s o) ∙
            tree.size;
        joins = λ u w a b. joined_through edge_joined (tree.joins u w a b);
      }
    where
      usable : (i : ℕ) → i < g.edges → swap S e f i ≡ true → g.live i ≡ true
      usable i a t =
          elim (ℕ_discrete i f) [
            | yes p ↦ rw p v
            | no h ↦
                elim (ℕ_discrete i e) [
                  | yes p ↦ absurd (false≢true (sym (swap_out S e f (member_differs S e f s o)) ∙ rw p at t))
                  | no q ↦ tree.usable i a (sym (swap_other S e f i q h) ∙ t)
                ]
          ]
