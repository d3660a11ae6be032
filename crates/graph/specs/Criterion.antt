-- The criterion of minimum spanning trees: a spanning tree is minimum exactly when every edge outside it costs at least each tree edge
-- that it covers. For all integer costs. Assumes nothing.
use Rattle.std.specs.Prelude.{ℕ, zero, suc, ◌<◌, ◌≡◌, refl, ◌↔◌, ◌≢◌, Bool, true, false, not, ◌&&◌, ℤ, ◌≤ℤ◌}
use Rattle.std.proofs.Common.{arith, sym, ap, ◌∙◌, inl, inr, true≢false}
use Rattle.std.proofs.Math.Decide.{ℕ_discrete}
use Rattle.std.proofs.Math.Bool.{and-false}
use Rattle.std.proofs.lemmas.Bool.{false≢true}
use Rattle.std.specs.Int.Signed.{≤ℤ_refl}
use Rattle.loops.specs.FirstLaws.{member_or_none}
use Rattle.graph.specs.Graph.{Graph, Sound, EdgeSet, count, SpanningTree, total, Minimum, Covers}
use Rattle.graph.specs.Integers.{≤ℤ_trans, exchange}
use Rattle.graph.specs.CountLaws.{member_differs, count_change, count_squeeze, total_same}
use Rattle.graph.specs.Walks.{walk_member, Simple, simple_walk}
use Rattle.graph.specs.Sides.{Cut, side_changes, crossing, tree_side, tree_cut}
use Rattle.graph.specs.Swap.{swap, swap_out, swap_other, swap_total, swap_tree}

-- Every edge outside the tree costs at least each tree edge that it covers.
abbrev pub Test : Graph → EdgeSet → (ℕ → ℤ) → Type 0
Test g tr d = (s t : ℕ) → s < g.edges → tr s ≡ false → Covers g tr s t → d t ≤ℤ d s

-- The edges of S outside tr.
outside : EdgeSet → EdgeSet → EdgeSet
outside S tr e = S e && not (tr e)

outside_in : (S tr : EdgeSet) (e : ℕ) → outside S tr e ≡ true → (S e ≡ true) × (tr e ≡ false)
unfolding outside
outside_in S tr e h = both (S e) (tr e) h
  where
    both : (b c : Bool) → (b && not c) ≡ true → (b ≡ true) × (c ≡ false)
    both true false p = (refl, refl)
    both true true p = absurd (false≢true p)
    both false c p = absurd (false≢true p)

outside_none : (S tr : EdgeSet) (e : ℕ) → outside S tr e ≡ false → S e ≡ true → tr e ≡ true
unfolding outside
outside_none S tr e h s = inside (tr e) (rw s at h)
  where
    inside : (c : Bool) → not c ≡ false → c ≡ true
    inside true p = refl
    inside false p = absurd (true≢false p)

-- Swapping an edge outside tr for one of tr leaves one edge fewer outside tr.
outside_swap :
    (m : ℕ) (S tr : EdgeSet) (s t : ℕ) →
    s < m →
    S s ≡ true →
    tr s ≡ false →
    tr t ≡ true →
    suc (count m (outside (swap S s t) tr)) ≡ count m (outside S tr)
unfolding outside
outside_swap m S tr s t k i o j =
    omega (arith, rw (swap_out S s t apart, i, o) at (count_change m (outside (swap S s t) tr) (outside S tr) s k same))
  where
    apart : s ≢ t
    apart p = member_differs tr t s j o (sym p)

    same : (e : ℕ) → e < m → e ≢ s → outside (swap S s t) tr e ≡ outside S tr e
    same e l n =
        elim (ℕ_discrete e t) [
          | yes p ↦ rw (p, j) (and-false (swap S s t t) ∙ sym (and-false (S t)))
          | no h ↦ ap (λ b. b && not (tr e))
              (swap_other S s t e n h)
        ]

module _ {g : Graph} (sound : Sound g) {tr : EdgeSet} (tree : SpanningTree g tr) (d : ℕ → ℤ) where
  -- A minimum passes the test: a tree edge could be swapped for any edge that covers it.
  minimum_test : Minimum g tr d → Test g tr d
  minimum_test least s t k o c = cheaper (walk_member c.walk c.holds)
    where
      cheaper : (t < g.edges) × (tr t ≡ true) → d t ≤ℤ d s
      cheaper (l, i) =
          let cut : Cut g tr t (tree_side g tr t) = tree_cut tree l i in
          (exchange (swap_total g.edges tr t s l k i o d)).0
          (least (swap tr t s) (swap_tree sound tree l k cut (side_changes cut c.walk c.simple c.holds) i o c.usable))

  -- An edge s of a spanning tree S outside tr covers an edge of tr outside S that lies between the two sides of s.
  record Partner (S : EdgeSet) (s : ℕ) : Type 0 where
    edge : ℕ
    covered : Covers g tr s edge
    absent : S edge ≡ false
    between : tree_side g S s (g.end₁ edge) ≢ tree_side g S s (g.end₂ edge)

  partner : (S : EdgeSet) → SpanningTree g S → (s : ℕ) → s < g.edges → S s ≡ true → tr s ≡ false → Partner S s
  partner S other s k i o = along (simple_walk (tree.joins (g.end₁ s) (g.end₂ s) (sound.first s k) (sound.second s k)).1)
    where
      cut : Cut g S s (tree_side g S s)
      cut = tree_cut other k i

      missing : (t : ℕ) → (t < g.edges) × (tr t ≡ true) → tree_side g S s (g.end₁ t) ≢ tree_side g S s (g.end₂ t) → (b : Bool) → S t ≡ b → S t ≡ false
      missing t (l, j) q false e = e
      missing t (l, j) q true e = absurd (q (cut.others t l e (member_differs tr t s j o)))

      along : Simple g tr (g.end₁ s) (g.end₂ s) → Partner S s
      along r =
          let (t, m, q) = crossing (tree_side g S s) r.1 cut.itself in
          record {
            edge = t;
            covered = record { usable = other.usable s k i; path = r.0; walk = r.1; simple = r.2; holds = m };
            absent = missing t (walk_member r.1 m) q (S t) refl;
            between = q;
          }

  -- A tree that passes the test is minimum: swap the edges outside it for tree edges that cost no more, one by one.
  module _ (test : Test g tr d) where
    closer :
        (S : EdgeSet) →
        SpanningTree g S →
        (s : ℕ) →
        s < g.edges →
        S s ≡ true →
        tr s ≡ false →
        (U : EdgeSet) × SpanningTree g U ×
        (suc (count g.edges (outside U tr)) ≡ count g.edges (outside S tr)) × (total g.edges U d ≤ℤ total g.edges S d)
    closer S other s k i o = by (partner S other s k i o)
      where
        by :
            Partner S s →
            (U : EdgeSet) × SpanningTree g U ×
            (suc (count g.edges (outside U tr)) ≡ count g.edges (outside S tr)) × (total g.edges U d ≤ℤ total g.edges S d)
        by p =
            let t : ℕ = p.edge in
            let (l, j) = walk_member p.covered.walk p.covered.holds in (
              swap S s t,
              swap_tree sound other k l (tree_cut other k i) p.between i p.absent (tree.usable t l j),
              outside_swap g.edges S tr s t k i o j,
              (exchange (sym (swap_total g.edges S s t k l i p.absent d))).1 (test s t k o p.covered),
            )

    descend : (n : ℕ) (S : EdgeSet) → SpanningTree g S → count g.edges (outside S tr) < n → total g.edges tr d ≤ℤ total g.edges S d
    descend zero S other h = absurd (omega arith)
    descend (suc n) S other h =
        elim (member_or_none g.edges (outside S tr)) [
          | inl (s, k, h') ↦
              let (i, o) = outside_in S tr s h' in
              let (U, next, fewer, less) = closer S other s k i o in
              ≤ℤ_trans (descend n U next (omega (arith, fewer))) less
          | inr none ↦ rw (total_same g.edges S tr d (all none)) (≤ℤ_refl (total g.edges tr d))
        ]
      where
        all : ((e : ℕ) → e < g.edges → outside S tr e ≡ false) → (e : ℕ) → e < g.edges → S e ≡ tr e
        all none = count_squeeze g.edges S tr (λ e k. outside_none S tr e (none e k)) (omega (arith, tree.size, other.size))

    test_minimum : Minimum g tr d
    test_minimum S other = descend (suc (count g.edges (outside S tr))) S other (omega arith)

pub criterion : (g : Graph) → Sound g → (tr : EdgeSet) → SpanningTree g tr → (d : ℕ → ℤ) → Minimum g tr d ↔ Test g tr d
criterion g sound tr tree d = (minimum_test sound tree d, test_minimum sound tree d)
