-- Laws of the spares that undercut: the lowest rank that an edge covers tells, since tree ranks fall in cost; and what is known
-- of their list. Assumes nothing.
use Rattle.std.specs.Prelude.{ℕ, ◌+◌, ◌^◌, ◌≤◌, ◌<◌, ◌≡◌, refl, ◌≢◌, Bool, true, false, ◌&&◌, List, ltb, length, get_or, set}
use Rattle.std.proofs.Math.Decide.{dec_lt}
use Rattle.std.proofs.Common.{arith, sym, ap, ◌∙◌, get_or-take, get_or-set_other, ne_eqb, ltb-true, lt-ltb}
use Rattle.std.proofs.Math.Bool.{xor, and-false}
use Rattle.limits.specs.Limits.{marks_spare}
use Rattle.loops.specs.Loop.{first}
use Rattle.loops.specs.FirstLaws.{some_of, some_at}
use Rattle.loops.specs.TestLaws.{clash, and_first, and_second, and_both, same_test}
use Rattle.bits.specs.Bit.{bit}
use Rattle.bits.specs.BitLaws.{bit_zero}
use Rattle.graph.specs.Rank.{Ranks, Lists, cost_at, sorted}
use Rattle.graph.specs.RankLaws.{ranks_list, ranks_rise, by_rising}
use Rattle.graph.specs.CountLaws.{count_below}
use Rattle.paths.specs.WordLaws.{lowest_below, lowest_set, lowest_before}
use Rattle.ranks.specs.Keys.{of_edge, key_at, Collected}
use Rattle.ranks.proofs.KeysLaws.{members_same, collect_none, collect_with, collect_without}
use Rattle.covering.specs.Covers.{covers, dearest_of, undercutting, is_low, low_list, RanksRise, Ends, Crossed, LowRanked, ColumnsHold}

module _ {trees edges : ℕ} {cost ts end₁ end₂ mask : List ℕ} (h : Crossed trees edges cost ts end₁ end₂ mask) where
  abbrev over : ℕ → ℕ → Bool
  over e t = covers end₁ end₂ mask e t && ltb (get_or cost e 0) (cost_at cost ts t)

  -- A rank that is covered is one of the tree ranks.
  covered_below : (e t : ℕ) → covers end₁ end₂ mask e t ≡ true → t < trees
  unfolding xor
  covered_below e t c = elim (dec_lt t trees) [
    | yes l ↦ l
    | no l ↦ clash c (rw (h.below (get_or end₁ e 0) t (omega arith), h.below (get_or end₂ e 0) t (omega arith)) refl)
  ]

  -- So any bound from the number of tree ranks on will do.
  bound : (most e : ℕ) → trees ≤ most → undercutting most cost ts end₁ end₂ mask e ≡ undercutting trees cost ts end₁ end₂ mask e
  bound most e l =
      same_test _ _
      (λ u. let s = some_at most (over e) u in some_of trees (over e) s.0 (covered_below e s.0 (and_first _ _ s.2)) s.2)
      (λ u. let s = some_at trees (over e) u in some_of most (over e) s.0 (omega (arith, s.1)) s.2)

  -- No tree edge costs more than the dearest.
  at_most : (t : ℕ) → t < trees → cost_at cost ts t ≤ dearest_of trees cost ts
  at_most t l = rw (ne_eqb trees 0 (λ z. omega arith)) (h.falls 0 t (omega arith) l)

  -- An edge that costs as much as that.
  pub none_dearer : (e top : ℕ) → top ≡ dearest_of trees cost ts → top ≤ get_or cost e 0 → false
      ≡ undercutting 64 cost ts end₁ end₂ mask e
  none_dearer e top is dear =
      same_test _ _ (λ u. clash u refl) λ u.
      let s = some_at 64 (over e) u in
      let t : ℕ = s.0 in
      let below : t < trees = covered_below e t (and_first _ _ s.2) in
      absurd (omega (
        arith,
        is,
        at_most t below,
        ltb-true (get_or cost e 0) (cost_at cost ts t)
            (and_second (covers end₁ end₂ mask e t) _ s.2),
      ))

  module _ (e w : ℕ) (word : (t : ℕ) → bit w t ≡ covers end₁ end₂ mask e t) where
    -- An edge that covers nothing.
    pub none_covered : w ≡ 0 → false ≡ undercutting 64 cost ts end₁ end₂ mask e
    none_covered z =
        same_test _ _ (λ u. clash u refl) λ u.
        let s = some_at 64 (over e) u in
        clash (and_first _ _ s.2) (sym (word s.0) ∙ rw z (bit_zero s.0))

    -- Else the lowest rank tells.
    module _ (some : 0 < w) (fits : w < 2 ^ 64) (k : ℕ) (low : k ≡ first 64 (bit w)) where
      is_covered : covers end₁ end₂ mask e k ≡ true
      is_covered = sym (word k) ∙ lowest_set w some fits k low

      pub lowest_edge : get_or ts k 0 < 256
      lowest_edge = h.edge k (covered_below e k is_covered)

      pub lowest_tells : ltb (get_or cost e 0) (cost_at cost ts k) ≡ undercutting 64 cost ts end₁ end₂ mask e
      lowest_tells =
          same_test _ _ (λ u. some_of 64 (over e) k (lowest_below w some fits k low) (and_both _ _ is_covered u)) λ u.
          let s = some_at 64 (over e) u in
          let t : ℕ = s.0 in
          let c : covers end₁ end₂ mask e t ≡ true = and_first _ _ s.2 in
          let least : k ≤ t = elim (dec_lt t k) [
            | yes l ↦ clash (word t ∙ c) (lowest_before w some fits k low t l)
            | no l ↦ omega arith
          ] in
          lt-ltb (get_or cost e 0) (cost_at cost ts k)
          (omega (
            arith,
            ltb-true (get_or cost e 0) (cost_at cost ts t) (and_second (covers end₁ end₂ mask e t) _ s.2),
            h.falls k t least (covered_below e t c),
          ))

  -- The lists are the same for 64 ranks and for the number of tree ranks.
  pub low_bound :
      (mark : List ℕ) → low_list 64 edges cost mark ts end₁ end₂ mask ≡ low_list trees edges cost mark ts end₁ end₂ mask
  low_bound mark =
      ap (sorted (by_rising (of_edge cost)))
      (members_same edges (is_low 64 cost mark ts end₁ end₂ mask) (is_low trees cost mark ts end₁ end₂ mask)
      (λ e l. rw (bound 64 e h.few_trees)))

-- Collecting the keys of the spares that undercut, edge by edge, in place of the marks: those of the edges from e on are still there.
module _ (cost mark ts end₁ end₂ mask : List ℕ) where
  pub record LowCollected (keys : List ℕ) (n e : ℕ) : Type 0 where
    pub made : Collected (key_at false cost) (is_low 64 cost mark ts end₁ end₂ mask) keys n e
    pub left : (i : ℕ) → e ≤ i → get_or keys i 0 ≡ get_or mark i 0

  pub low_start : length mark ≡ 256 → LowCollected mark 0 0
  low_start l = record { made = collect_none _ _ mark l; left = λ i _. refl }

  module _ {keys : List ℕ} {n e : ℕ} (k : LowCollected keys n e) where
    own : {spare : Bool} → spare ≡ marks_spare (get_or keys e 0) → spare ≡ marks_spare (get_or mark e 0)
    own p = p ∙ ap marks_spare (k.left e (omega arith))

    pub low_with :
        {x : ℕ} {spare low : Bool} → spare ≡ marks_spare (get_or keys e 0) → spare ≡ true
        → low ≡ undercutting 64 cost ts end₁ end₂ mask e → low ≡ true → e < 256 → x ≡ key_at false cost e
        → LowCollected (set keys n x) (n + 1) (e + 1)
    low_with {x} p p' q q' l r =
        record {
          made = collect_with k.made (and_both _ _ (sym (own p) ∙ p') (sym q ∙ q')) l r;
          left = λ i b. get_or-set_other keys n i x 0 (λ z. omega (arith, k.made.few)) ∙ k.left i (omega arith);
        }

    pub low_dear :
        {low : Bool} → low ≡ undercutting 64 cost ts end₁ end₂ mask e → low ≡ false → LowCollected keys n (e + 1)
    low_dear q q' =
        record {
          made = collect_without k.made (rw (sym q ∙ q') (and-false (marks_spare (get_or mark e 0))));
          left = λ i b. k.left i (omega arith);
        }

    pub low_other : {spare : Bool} → spare ≡ marks_spare (get_or keys e 0) → spare ≡ false → LowCollected keys n (e + 1)
    low_other p p' =
        record { made = collect_without k.made (rw (sym (own p) ∙ p') refl); left = λ i b. k.left i (omega arith) }

-- What is known of the list of the spares that undercut.
module _ {trees edges : ℕ} {cost mark ts end₁ end₂ mask : List ℕ} {spares : ℕ} {ss : List ℕ}
    (r : LowRanked trees edges cost mark ts end₁ end₂ mask spares ss) where
  abbrev low : List ℕ
  low = low_list trees edges cost mark ts end₁ end₂ mask

  listed : Lists edges (is_low trees cost mark ts end₁ end₂ mask) low
  listed = ranks_list (by_rising (of_edge cost)) edges (is_low trees cost mark ts end₁ end₂ mask)

  low_at : (s : ℕ) → s < spares → get_or ss s 0 ≡ get_or low s 0
  low_at s l = sym (get_or-take spares ss s 0 l) ∙ ap (λ (xs : List ℕ). get_or xs s 0) r.ranked

  pub low_edge : (s : ℕ) → s < spares → get_or ss s 0 < edges
  low_edge s l = rw (low_at s l) (listed.below s (omega (arith, r.size)))

  pub low_rank : edges ≤ 256 → Ranks spares ss
  low_rank few =
      record {
        places = r.places;
        most = omega (arith, r.size, listed.size, count_below edges (is_low trees cost mark ts end₁ end₂ mask));
        edges = λ s l. omega (arith, low_edge s l);
      }

  pub low_rise : RanksRise spares cost ss
  low_rise s s' l m =
      rw (low_at s (omega arith), low_at s' m)
      (ranks_rise (of_edge cost) edges (is_low trees cost mark ts end₁ end₂ mask) s s' l (omega (arith, r.size)))

  pub low_ends : Crossed trees edges cost ts end₁ end₂ mask → Ends spares ss end₁ end₂
  low_ends h =
      record {
        first = λ s l. h.first (get_or ss s 0) (low_edge s l);
        second = λ s l. h.second (get_or ss s 0) (low_edge s l);
      }

  -- Each of them undercuts some tree rank, so that its column is not empty.
  pub low_column : (cols : List ℕ) → ColumnsHold trees spares cost ts ss end₁ end₂ mask cols → (s : ℕ) → s < spares
      → get_or cols s 0 ≢ 0
  low_column cols hold s l empty =
      let e : ℕ = get_or ss s 0 in
      let inside : is_low trees cost mark ts end₁ end₂ mask e ≡ true = rw (low_at s l)
      (listed.inside s (omega (arith, r.size))) in
      let u = some_at trees (λ t. covers end₁ end₂ mask e t && ltb (get_or cost e 0) (cost_at cost ts t))
      (and_second (marks_spare (get_or mark e 0)) _ inside) in
      clash (hold u.0 s l ∙ and_both _ _ (lt-ltb u.0 trees u.1) u.2) (rw empty (bit_zero u.0))
