-- Laws of the tests of pairs, in the shape of the code: the search for a rank, one pair, all of them. Assumes nothing.
use Rattle.std.specs.Prelude.{ℕ, ◌+◌, ◌≤◌, ◌<◌, ◌≡◌, Bool, true, false, cond, ◌&&◌, List, ltb, eqb, length, get_or, take, Some, None, position}
use Rattle.std.specs.Option.{unwrap_or}
use Rattle.std.specs.List.{position_or_len}
use Rattle.std.proofs.lemmas.List.Sums.{position_or_len_is}
use Rattle.std.proofs.Math.Decide.{ℕ_discrete}
use Rattle.std.proofs.Common.{arith, ap, ◌∙◌, length-take-le, get_or-take}
use Rattle.std.proofs.Math.Path.{sym}
use borrow.Author.Tests.{lt-ltb, le-ltb, eq-eqb, ne_eqb, ltb-true}
use Rattle.loops.specs.FirstLaws.{first_is, first_found}
use Rattle.loops.specs.TestLaws.{and_first, and_second, all_at}
use Rattle.paths.specs.Arrays.{array_tree, array_spare, across}
use Rattle.frame.specs.Arrays.{Arrays}
use Rattle.frame.specs.Answers.{rank_of, pair_from}
use Rattle.weighing.specs.Weighing.{Falling}
use Rattle.pairing.specs.Pairs.{pair_held, pairs_held}

-- ---- the rank of a tree edge

-- Edge e stands at none of the first k places.
abbrev pub Missed : List ℕ → ℕ → ℕ → Type 0
Missed ts e k = (i : ℕ) → i < k → eqb (get_or ts i 0) e ≡ false

pub missed_more : (ts : List ℕ) (e k : ℕ) → Missed ts e k → (get_or ts k 0 ≡ e → ⊥) → Missed ts e (k + 1)
missed_more ts e k h d i l =
    elim (ℕ_discrete i k) [
      | yes q ↦ rw q (ne_eqb (get_or ts k 0) e d)
      | no q ↦ h i (omega arith)
    ]

module _ (ts : List ℕ) (p e : ℕ) (room : p ≤ length ts) where
  rank_first : (k : ℕ) → k ≤ p → Missed ts e k → (k < p → get_or ts k 0 ≡ e) → k ≡ rank_of (take p ts) e
  rank_first k l miss hit =
      let size : length (take p ts) ≡ p = length-take-le p ts room in
      sym (first_found record {
        within = omega arith;
        before = λ i b. ap (λ x. eqb x e) (get_or-take p ts i 0 (omega arith)) ∙ miss i b;
        hit = λ b. ap (λ x. eqb x e) (get_or-take p ts k 0 (omega arith)) ∙ eq-eqb (get_or ts k 0) e (hit (omega arith));
      })

  pub rank_found : (k : ℕ) → k < p → Missed ts e k → get_or ts k 0 ≡ e → k ≡ rank_of (take p ts) e
  rank_found k l miss hit = rank_first k (omega arith) miss (λ _. hit)

  pub rank_none : (k : ℕ) → p ≤ k → k ≤ p → Missed ts e k → p ≡ rank_of (take p ts) e
  rank_none k l b miss =
      let all : k ≡ p = omega arith in
      rank_first p (omega arith) (rw all at miss) (λ h. absurd (omega arith))

-- The first place of an edge, or the number of ranks if it has none, is its rank.
pub rank_place : (ts : List ℕ) (p e : ℕ) → length ts ≡ p → unwrap_or (position (λ x. eqb x e) ts) p ≡ rank_of ts e
rank_place ts p e size =
    let f = first_is (length ts) (λ k. eqb (get_or ts k 0) e) in
    let place : position_or_len (λ x. eqb x e) ts ≡ rank_of ts e
    = position_or_len_is (λ x. eqb x e) ts (rank_of ts e) 0 f.within f.before f.hit in
    rw place (or_end (rank_of ts e) (length ts) f.within size)
  where
    or_end : (k n : ℕ) → k ≤ n → n ≡ p → unwrap_or (cond (ltb k n) (Some k) None) p ≡ k
    or_end k n l s = grind arith

-- ---- one pair

module _ (edges p : ℕ) (a : Arrays) (t s : ℕ) where
  pub tree_past : edges ≤ t → pair_held edges p a t s ≡ false
  unfolding pair_held
  tree_past l = rw (le-ltb t edges l)

  module _ {tree : Bool} (marked : tree ≡ array_tree a.links.mark t) (below : t < edges) where
    pub tree_unmarked : tree ≡ false → pair_held edges p a t s ≡ false
    unfolding pair_held
    tree_unmarked e = rw (lt-ltb t edges below, sym marked ∙ e)

    module _ (in_tree : tree ≡ true) where
      pub spare_past : edges ≤ s → pair_held edges p a t s ≡ false
      unfolding pair_held
      spare_past l = rw (lt-ltb t edges below, sym marked ∙ in_tree, le-ltb s edges l)

      module _ {spare : Bool} (spared : spare ≡ array_spare a.links.mark s) (within : s < edges) where
        pub spare_other : spare ≡ false → pair_held edges p a t s ≡ false
        unfolding pair_held
        spare_other e = rw (lt-ltb t edges below, sym marked ∙ in_tree, lt-ltb s edges within, sym spared ∙ e)

        module _ (is : spare ≡ true) (k : ℕ) (rank : k ≡ rank_of (take p a.ranks) t)
            (r : Bool) (crosses : r ≡ across a.mask (get_or a.links.end₁ s 0) (get_or a.links.end₂ s 0) k) where
          covering : across a.mask (get_or a.links.end₁ s 0) (get_or a.links.end₂ s 0) (rank_of (take p a.ranks) t) ≡ r
          covering = ap (across a.mask (get_or a.links.end₁ s 0) (get_or a.links.end₂ s 0)) (sym rank) ∙ sym crosses

          pub spare_apart : r ≡ false → pair_held edges p a t s ≡ false
          unfolding pair_held
          spare_apart e = rw (lt-ltb t edges below, sym marked ∙ in_tree, lt-ltb s edges within, sym spared ∙ is, covering, e)

          pub pair_dearer : r ≡ true → ltb (get_or a.links.cost s 0) (get_or a.links.cost t 0) ≡ pair_held edges p a t s
          unfolding pair_held
          pair_dearer e = rw (lt-ltb t edges below, sym marked ∙ in_tree, lt-ltb s edges within, sym spared ∙ is, covering, e)

  -- What a pair that holds is.
  module _ (h : pair_held edges p a t s ≡ true) where
    abbrev t₁ : Bool
    t₁ = ltb t edges

    abbrev t₂ : Bool
    t₂ = t₁ && array_tree a.links.mark t

    abbrev t₃ : Bool
    t₃ = t₂ && ltb s edges

    abbrev t₄ : Bool
    t₄ = t₃ && array_spare a.links.mark s

    abbrev t₅ : Bool
    t₅ = t₄ && across a.mask (get_or a.links.end₁ s 0) (get_or a.links.end₂ s 0) (rank_of (take p a.ranks) t)

    third : t₃ ≡ true
    unfolding pair_held
    third = and_first t₃ _ (and_first t₄ _ (and_first t₅ _ h))

    pub held_tree : t < edges
    held_tree = ltb-true _ _ (and_first t₁ _ (and_first t₂ _ third))

    pub held_spare : s < edges
    held_spare = ltb-true _ _ (and_second t₂ _ third)

    pub held_falls : get_or a.links.cost s 0 < get_or a.links.cost t 0
    unfolding pair_held
    held_falls = ltb-true _ _ (and_second t₅ _ h)

-- Pairs that hold fall.
pub held_falling :
    (edges p : ℕ) (a : Arrays) (count : ℕ) (ps : List ℕ) → edges ≤ 256 → count ≤ 64
    → pairs_held edges p a count ps ≡ true → Falling count ps a.links.cost
held_falling edges p a count ps l few h =
    record {
      few = few;
      tree = λ i b. omega (arith, held_tree edges p a (pair_from ps i).tree (pair_from ps i).spare (all_at count _ h i b));
      spare = λ i b. omega (arith, held_spare edges p a (pair_from ps i).tree (pair_from ps i).spare (all_at count _ h i b));
      falls = λ i b. omega (arith, held_falls edges p a (pair_from ps i).tree (pair_from ps i).spare (all_at count _ h i b));
    }
