-- Laws of a step of one cost over arrays, in the shape of the code: the rank of a tree link, and what a step of a tree link, of a
-- spare and of an unplugged link does to the number of violations. Assumes nothing.
use Rattle.std.specs.Prelude.{ℕ, suc, ◌+◌, ◌≤◌, ◌<◌, ◌≡◌, refl, ◌≢◌, true, false, ◌&&◌, List, eqb, length, get_or, set, take}
use Rattle.std.proofs.Math.Decide.{dec_lt, ℕ_discrete}
use Rattle.std.proofs.Common.{arith, sym, ap, ◌∙◌, inl, inr, length-take-le, get_or-take, get_or-set_same, get_or-set_other, eq-eqb, ne_eqb}
use Rattle.std.proofs.Math.Bool.{and-false}
use Rattle.std.proofs.lemmas.Bool.{not-true}
use Rattle.limits.specs.Limits.{marks_plugged}
use Rattle.loops.specs.Loop.{put, first}
use Rattle.loops.specs.FirstLaws.{First, first_found}
use Rattle.loops.specs.PutLaws.{put_same, put_other}
use Rattle.loops.specs.SumLaws.{sum_same}
use Rattle.loops.specs.TestLaws.{truth, clash, and_first, and_second, and_miss}
use Rattle.graph.specs.Rank.{cost_at}
use Rattle.graph.specs.CountLaws.{member_differs}
use Rattle.graph.specs.Violations.{one, violations, tree_up, spare_up, violations_same}
use Rattle.paths.specs.Arrays.{array_tree, array_spare, array_cost, across}
use Rattle.cheapest.specs.JudgeLaws.{across_past}
use Rattle.violations.specs.Counting.{over_at, violations_at, spares_at, ranks_that, Joins, Countable, StepOf}

-- A spare is not in the tree.
spare_out : (as₄ : List ℕ) (e : ℕ) → array_spare as₄ e ≡ true → array_tree as₄ e ≡ false
spare_out as₄ e h = not-true (array_tree as₄ e) (and_second (marks_plugged (get_or as₄ e 0)) _ h)

-- Nor is a tree link spare.
tree_out : (as₄ : List ℕ) (e : ℕ) → array_tree as₄ e ≡ true → array_spare as₄ e ≡ false
tree_out as₄ e h = rw h (and-false (marks_plugged (get_or as₄ e 0)))

-- Costs that are the same but for those of link e.
abbrev SameBut : ℕ → List ℕ → List ℕ → Type 0
SameBut e A B = (j : ℕ) → j ≢ e → get_or A j 0 ≡ get_or B j 0

module _ (edges count : ℕ) (ranks as₁ as₂ as₄ mask : List ℕ) (h : Countable edges count ranks as₁ as₂ as₄ mask) where
  pub countable_joins : (s : ℕ) → s < edges → Joins s as₁ as₂
  countable_joins s l =
      record {
        link = omega (arith, h.judged.links);
        first = h.judged.first s l;
        second = h.judged.second s l;
      }

  -- ---- ranks

  -- A rank between two nodes is one of the tree's.
  across_below : (a b k : ℕ) → across mask a b k ≡ true → k < count
  across_below a b k c = elim (dec_lt k count) [
    | yes l ↦ l
    | no l ↦ clash c (across_past edges count ranks as₁ as₂ mask h.judged a b k (omega arith))
  ]

  pub across_edge : (a b k : ℕ) → across mask a b k ≡ true → get_or ranks k 0 < 256
  across_edge a b k c = h.judged.edge k (across_below a b k c)

  size : length (take count ranks) ≡ count
  size = length-take-le count ranks h.judged.within

  rank_tree : (k : ℕ) → k < count → array_tree as₄ (get_or ranks k 0) ≡ true
  rank_tree k l = rw (get_or-take count ranks k 0 l) at (h.lists.inside k (omega (arith, size)))

  rank_once : (j k : ℕ) → j < count → k < count → j ≢ k → get_or ranks j 0 ≢ get_or ranks k 0
  rank_once j k l m d e =
      d (h.lists.once j k (omega (arith, size)) (omega (arith, size))
      (get_or-take count ranks j 0 l ∙ e ∙ sym (get_or-take count ranks k 0 m)))

  -- The rank of a tree link is the one between its ends.
  record RankOf (e k : ℕ) : Type 0 where
    below : k < count
    names : get_or ranks k 0 ≡ e

  rank_of_lem :
      (e k : ℕ) → e < edges → array_tree as₄ e ≡ true → k ≡ first 64 (across mask (get_or as₁ e 0) (get_or as₂ e 0)) → RankOf e k
  rank_of_lem e k l t low =
      let (i, m, q) = h.lists.every e l t in
      let below : i < count = omega (arith, size) in
      let names : get_or ranks i 0 ≡ e = sym (get_or-take count ranks i 0 below) ∙ q in
      let own : (j : ℕ) → across mask (get_or as₁ e 0) (get_or as₂ e 0) j ≡ eqb i j = λ j. rw names at (h.own i below j) in
      let found : First 64 (across mask (get_or as₁ e 0) (get_or as₂ e 0)) i =
      record {
        within = omega (arith, h.judged.few);
        before = λ j b. own j ∙ ne_eqb i j (λ r. omega (arith, r));
        hit = λ _. own i ∙ eq-eqb i i refl;
      } in
      rw (low ∙ first_found found) (record { below = below; names = names })

  -- ---- steps between two lists of costs

  over_rank : (s k : ℕ) → over_at as₁ as₂ as₄ mask s k ≡ true → k < count
  over_rank s k c = across_below (get_or as₁ s 0) (get_or as₂ s 0) k (and_second (array_spare as₄ s) _ c)

  over_spare : (e s k : ℕ) → array_spare as₄ e ≡ false → over_at as₁ as₂ as₄ mask s k ≡ true → s ≢ e
  over_spare e s k out c = member_differs (array_spare as₄) s e (and_first _ _ c) out

  over_tree : (e s k : ℕ) → array_tree as₄ e ≡ false → over_at as₁ as₂ as₄ mask s k ≡ true → get_or ranks k 0 ≢ e
  over_tree e s k out c = member_differs (array_tree as₄) (get_or ranks k 0) e (rank_tree k (over_rank s k c)) out

  -- In each law B has the higher cost of link e, and C is any such list: the costs that are counted are those of other links.
  module _ (A B C : List ℕ) (e : ℕ) (but : SameBut e B A) (any : SameBut e C A) (up : get_or B e 0 ≡ suc (get_or A e 0)) where
    tree_rise :
        (k : ℕ) → array_tree as₄ e ≡ true → RankOf e k
        → violations_at edges ranks as₁ as₂ B as₄ mask
        ≡ violations_at edges ranks as₁ as₂ A as₄ mask + spares_at edges as₁ as₂ C as₄ mask k (get_or A e 0)
    tree_rise k t r =
        violations_same edges 64 (over_at as₁ as₂ as₄ mask) (array_cost B) (cost_at B ranks) (array_cost A)
        (put (cost_at A ranks) k (suc (cost_at A ranks k)))
        (λ s j a b c. (but s (over_spare e s j (tree_out as₄ e t) c), cost j (over_rank s j c)))
        ∙ tree_up edges 64 (over_at as₁ as₂ as₄ mask) (array_cost A) (cost_at A ranks) k (omega (arith, r.below, h.judged.few))
        ∙ ap (λ n. violations_at edges ranks as₁ as₂ A as₄ mask + n) (sum_same edges _ _ (λ s l. meet s))
      where
        cost : (j : ℕ) → j < count → cost_at B ranks j ≡ put (cost_at A ranks) k (suc (cost_at A ranks k)) j
        cost j l =
            elim (ℕ_discrete j k) [
              | yes q ↦ rw (q, put_same (cost_at A ranks) k (suc (cost_at A ranks k)), r.names) up
              | no d ↦
                  but (get_or ranks j 0) (λ q. rank_once j k l r.below d (q ∙ sym r.names))
                  ∙ sym (put_other (cost_at A ranks) k (suc (cost_at A ranks k)) j d)
            ]

        meet :
            (s : ℕ) → one (over_at as₁ as₂ as₄ mask s k && eqb (array_cost A s) (cost_at A ranks k))
            ≡ one (over_at as₁ as₂ as₄ mask s k && eqb (get_or C s 0) (get_or A e 0))
        meet s =
            elim (truth (over_at as₁ as₂ as₄ mask s k)) [
              | inl c ↦ rw (r.names, any s (over_spare e s k (tree_out as₄ e t) c)) refl
              | inr c ↦ rw c refl
            ]

    spare_rise :
        e < edges → array_spare as₄ e ≡ true
        → violations_at edges ranks as₁ as₂ B as₄ mask + ranks_that ranks as₁ as₂ C mask (λ x. eqb x (get_or B e 0)) e
        ≡ violations_at edges ranks as₁ as₂ A as₄ mask
    spare_rise l t =
        let moved : violations_at edges ranks as₁ as₂ B as₄ mask
        ≡ violations edges 64 (over_at as₁ as₂ as₄ mask) (put (array_cost A) e (suc (array_cost A e))) (cost_at A ranks) =
        violations_same edges 64 (over_at as₁ as₂ as₄ mask) (array_cost B) (cost_at B ranks)
        (put (array_cost A) e (suc (array_cost A e)))
        (cost_at A ranks) (λ s k a b c. (cost s, but (get_or ranks k 0) (over_tree e s k (spare_out as₄ e t) c))) in
        omega (
          arith,
          moved,
          sum_same 64 _ _ (λ k b. meet k),
          spare_up edges 64 (over_at as₁ as₂ as₄ mask) (array_cost A) (cost_at A ranks) e l,
        )
      where
        cost : (s : ℕ) → get_or B s 0 ≡ put (array_cost A) e (suc (array_cost A e)) s
        cost s =
            elim (ℕ_discrete s e) [
              | yes q ↦ rw (q, put_same (array_cost A) e (suc (array_cost A e))) up
              | no d ↦ but s d ∙ sym (put_other (array_cost A) e (suc (array_cost A e)) s d)
            ]

        meet :
            (k : ℕ) → one (across mask (get_or as₁ e 0) (get_or as₂ e 0) k && eqb (cost_at C ranks k) (get_or B e 0))
            ≡ one (over_at as₁ as₂ as₄ mask e k && eqb (cost_at A ranks k) (suc (array_cost A e)))
        meet k =
            elim (truth (over_at as₁ as₂ as₄ mask e k)) [
              | inl c ↦ rw (
                c,
                and_second (array_spare as₄ e) _ c,
                any (get_or ranks k 0)
                    (over_tree e e k (spare_out as₄ e t) c),
                up,
              ) refl
              | inr c ↦ rw (c, and_miss (array_spare as₄ e) _ c t) refl
            ]

  -- ---- steps as the code takes them

  module _ (b e old new : ℕ) (as₃ : List ℕ) (step : StepOf edges b e old new ranks as₁ as₂ as₃ as₄ mask) where
    after_but : SameBut e (set as₃ e new) as₃
    after_but j d = get_or-set_other as₃ e j new 0 d

    after_at : get_or (set as₃ e new) e 0 ≡ new
    after_at = get_or-set_same as₃ e new 0 (omega (arith, step.inside, step.places, h.judged.links))

    pub step_risen : old ≤ new → new ≡ suc old
    step_risen l = elim step.by_one [ inl q ↦ q | inr q ↦ absurd (omega arith) ]

    pub step_fallen : new ≤ old → old ≡ suc new
    step_fallen l = elim step.by_one [ inl q ↦ absurd (omega arith) | inr q ↦ q ]

    risen : old ≤ new → get_or (set as₃ e new) e 0 ≡ suc (get_or as₃ e 0)
    risen l = after_at ∙ step_risen l ∙ ap suc (sym step.from)

    fallen : new ≤ old → get_or as₃ e 0 ≡ suc (get_or (set as₃ e new) e 0)
    fallen l = step.from ∙ step_fallen l ∙ ap suc (sym after_at)

    module _ (t : array_tree as₄ e ≡ true) (k : ℕ) (low : k ≡ first 64 (across mask (get_or as₁ e 0) (get_or as₂ e 0))) where
      own : RankOf e k
      own = rank_of_lem e k step.inside t low

      pub tree_below : k < 64
      tree_below = omega (arith, own.below, h.judged.few)

      pub tree_higher :
          (r : ℕ) → old ≤ new → r ≡ spares_at edges as₁ as₂ as₃ as₄ mask k old
          → b + r ≡ violations_at edges ranks as₁ as₂ (set as₃ e new) as₄ mask
      tree_higher r l q =
          ap (λ n. n + r) step.before ∙ ap (λ n. violations_at edges ranks as₁ as₂ as₃ as₄ mask + n) (q ∙ rw step.from refl)
          ∙ sym (tree_rise as₃ (set as₃ e new) as₃ e after_but (λ j d. refl) (risen l) k t own)

      pub tree_lower :
          (r : ℕ) → new ≤ old → r ≡ spares_at edges as₁ as₂ as₃ as₄ mask k new
          → b ≡ violations_at edges ranks as₁ as₂ (set as₃ e new) as₄ mask + r
      tree_lower r l q =
          step.before
          ∙ tree_rise (set as₃ e new) as₃ as₃ e (λ j d. sym (after_but j d)) (λ j d. sym (after_but j d)) (fallen l) k t own
          ∙ ap (λ n. violations_at edges ranks as₁ as₂ (set as₃ e new) as₄ mask + n) (rw after_at (sym q))

    module _ (t : array_spare as₄ e ≡ true) (r : ℕ) where
      pub spare_higher :
          old ≤ new → r ≡ ranks_that ranks as₁ as₂ as₃ mask (λ x. eqb x new) e
          → b ≡ violations_at edges ranks as₁ as₂ (set as₃ e new) as₄ mask + r
      spare_higher l q =
          step.before ∙ sym (spare_rise as₃ (set as₃ e new) as₃ e after_but (λ j d. refl) (risen l) step.inside t)
          ∙ ap (λ n. violations_at edges ranks as₁ as₂ (set as₃ e new) as₄ mask + n) (rw after_at (sym q))

      pub spare_lower :
          new ≤ old → r ≡ ranks_that ranks as₁ as₂ as₃ mask (λ x. eqb x old) e
          → b + r ≡ violations_at edges ranks as₁ as₂ (set as₃ e new) as₄ mask
      spare_lower l q =
          ap (λ n. n + r) step.before ∙ ap (λ n. violations_at edges ranks as₁ as₂ as₃ as₄ mask + n) (q ∙ rw step.from refl)
          ∙ spare_rise (set as₃ e new) as₃ as₃ e (λ j d. sym (after_but j d)) (λ j d. sym (after_but j d)) (fallen l)
          step.inside t

    -- An unplugged link stands in no pair.
    pub idle_step :
        array_tree as₄ e ≡ false → array_spare as₄ e ≡ false → b ≡ violations_at edges ranks as₁ as₂ (set as₃ e new) as₄ mask
    idle_step no-tree no-spare =
        step.before
        ∙ violations_same edges 64 (over_at as₁ as₂ as₄ mask) (array_cost as₃) (cost_at as₃ ranks)
        (array_cost (set as₃ e new)) (cost_at (set as₃ e new) ranks)
        (λ s k a c o. (
          sym (after_but s (over_spare e s k no-spare o)),
          sym
              (after_but (get_or ranks k 0) (over_tree e s k no-tree o)),
        ))
