-- Laws of the counts over arrays, in the shape of the code: one link at a rank, the ranks of a word, the links in turn. And there is
-- no violation exactly if the judge says yes. Assumes nothing.
use Rattle.std.specs.Prelude.{ℕ, zero, suc, ◌+◌, ◌*◌, ◌^◌, ◌≤◌, ◌<◌, ◌≡◌, Bool, true, false, not, ◌&&◌, ◌||◌, List, leb, eqb, get_or, take}
use Rattle.std.proofs.Math.Decide.{dec_lt}
use Rattle.std.proofs.Common.{arith, sym, ap, ◌∙◌, inl, inr, eq-eqb, ne_eqb, eqb-true, ltb-true, leb-true, le-leb, le-ltb, lt-ltb}
use Rattle.std.proofs.Math.Path.{refl}
use Rattle.std.proofs.Math.Bool.{and-true, and-false}
use Rattle.std.proofs.Math.Dec.{ltb}
use Rattle.std.proofs.lemmas.Bool.{lt-leb}
use Rattle.loops.specs.Below.{sum, all_below}
use Rattle.loops.specs.Loop.{put, first}
use Rattle.loops.specs.PutLaws.{put_same, put_other}
use Rattle.loops.specs.SumLaws.{sum_same, sum_zero, sum_change, sum_more}
use Rattle.loops.specs.TestLaws.{truth, same_test, and_first, and_second, and_both, all_of, all_same}
use Rattle.bits.specs.Bit.{bit}
use Rattle.bits.specs.BitLaws.{bit_zero}
use Rattle.graph.specs.Rank.{cost_at}
use Rattle.graph.specs.Paths.{rooted, judge}
use Rattle.graph.specs.Violations.{one, violations_most}
use Rattle.paths.specs.Arrays.{array_graph, array_tree, array_spare, array_cost, paths, across}
use Rattle.paths.specs.WordLaws.{lowest_below, lowest_set, taken_out}
use Rattle.cheapest.specs.Judge.{Judged}
use Rattle.cheapest.specs.JudgeLaws.{judge_at}
use Rattle.violations.specs.Counting.{over_at, violations_by, violations_at, costs_within, AsksWithin, ranks_that}

-- ---- one link at a rank

module _ (as₁ as₂ as₃ as₄ mask : List ℕ) (s k x : ℕ) where
  pub meets_not : (get_or as₃ s 0 ≡ x → ⊥) → false ≡ (over_at as₁ as₂ as₄ mask s k && eqb (get_or as₃ s 0) x)
  meets_not d = rw (ne_eqb (get_or as₃ s 0) x d) (sym (and-false (over_at as₁ as₂ as₄ mask s k)))

  module _ {spare : Bool} (is : spare ≡ array_spare as₄ s) where
    pub meets_other : spare ≡ false → false ≡ (over_at as₁ as₂ as₄ mask s k && eqb (get_or as₃ s 0) x)
    meets_other e = rw (sym is ∙ e) refl

    pub meets_over :
        spare ≡ true → get_or as₃ s 0 ≡ x
        → across mask (get_or as₁ s 0) (get_or as₂ s 0) k ≡ (over_at as₁ as₂ as₄ mask s k && eqb (get_or as₃ s 0) x)
    meets_over e q = rw (sym is ∙ e, eq-eqb (get_or as₃ s 0) x q)
        (sym (and-true (across mask (get_or as₁ s 0) (get_or as₂ s 0) k)))

-- One number more, of which p holds or not.
module _ (p : ℕ → Bool) (e found : ℕ) (so_far : found ≡ sum e (λ i. one (p i))) where
  pub ones_yes : p e ≡ true → found + 1 ≡ sum (e + 1) (λ i. one (p i))
  ones_yes h = omega (arith, so_far, sum_more (λ i. one (p i)) e, ap one h)

  pub ones_no : p e ≡ false → found ≡ sum (e + 1) (λ i. one (p i))
  ones_no h = omega (arith, so_far, sum_more (λ i. one (p i)) e, ap one h)

-- ---- the ranks of a word

-- How many ranks of the word w pass.
abbrev pub word_ones : (ℕ → Bool) → ℕ → ℕ
word_ones p w = sum 64 (λ k. one (bit w k && p k))

-- The word of the ranks q.
pub ones_word : (p q : ℕ → Bool) (w : ℕ) → ((k : ℕ) → bit w k ≡ q k) → word_ones p w ≡ sum 64 (λ k. one (q k && p k))
ones_word p q w same = sum_same 64 _ _ (λ k l. rw (same k) refl)

-- So many have been found, and the rest stands in the word w.
module _ (p : ℕ → Bool) (found whole w : ℕ) (rest : found + word_ones p w ≡ whole) where
  pub ones_end : w ≡ 0 → found ≡ whole
  ones_end e = omega (arith, rest, sum_zero 64 (λ k. one (bit w k && p k)) (λ k l. rw (e, bit_zero k) refl))

  module _ (some : 0 < w) (fits : w < 2 ^ 64) (k : ℕ) (low : k ≡ first 64 (bit w))
      (w' : ℕ) (without : (j : ℕ) → bit w' j ≡ (bit w j && not (eqb j (first 64 (bit w))))) where
    turn : word_ones p w' + one (p k) ≡ word_ones p w
    turn =
        let out : (j : ℕ) → bit w' j ≡ put (bit w) k false j = λ j. ap (λ f. f j) (taken_out w some fits k low w' without) in
        let before : one (bit w k && p k) ≡ one (p k) = rw (lowest_set w some fits k low) refl in
        let after : one (bit w' k && p k) ≡ 0 = ap (λ b. one (b && p k)) (out k ∙ put_same (bit w) k false) in
        omega (
          arith,
          before,
          after,
          sum_change 64 (λ j. one (bit w' j && p j)) (λ j. one (bit w j && p j)) k (lowest_below w some fits k low)
              (λ j l d. ap (λ b. one (b && p j)) (out j ∙ put_other (bit w) k false j d)),
        )

    pub turn_yes : p k ≡ true → found + 1 + word_ones p w' ≡ whole
    turn_yes h = omega (arith, rest, turn, ap one h)

    pub turn_no : p k ≡ false → found + word_ones p w' ≡ whole
    turn_no h = omega (arith, rest, turn, ap one h)

-- ---- costs between two bounds

module _ (low high x : ℕ) where
  pub within_high : low < x → leb x high ≡ costs_within low high x
  within_high l = rw (lt-ltb low x l) refl

  pub within_low : x ≤ low → false ≡ costs_within low high x
  within_low l = rw (le-ltb low x l) refl

pub above_within : (low : ℕ) → AsksWithin low 4294967295 (λ x. ltb low x)
above_within low x l = rw (le-leb x 4294967295 (omega arith)) (sym (and-true (ltb low x)))

pub next_within : (low high : ℕ) → high ≡ suc low → AsksWithin low high (λ x. eqb x high)
next_within low high e x l =
    same_test _ _
    (λ h. let q : x ≡ high = eqb-true x high h in and_both _ _ (lt-ltb low x (omega arith)) (le-leb x high (omega arith)))
    (λ h. eq-eqb x high (omega (arith, ltb-true low x (and_first _ _ h), leb-true x high (and_second (ltb low x) _ h))))

-- ---- the links in turn

module _ (ranks as₁ as₂ as₃ as₄ mask : List ℕ) where
  -- The violations of link s.
  row_at : ℕ → ℕ
  row_at s = sum 64 (λ k. one (over_at as₁ as₂ as₄ mask s k && ltb (array_cost as₃ s) (cost_at as₃ ranks k)))

  pub violations_few : (edges : ℕ) → violations_at edges ranks as₁ as₂ as₃ as₄ mask ≤ edges * 64
  violations_few edges = violations_most edges 64 (over_at as₁ as₂ as₄ mask) (array_cost as₃) (cost_at as₃ ranks)

  module _ (e total : ℕ) {spare : Bool} (so_far : total ≡ violations_at e ranks as₁ as₂ as₃ as₄ mask)
      (is : spare ≡ array_spare as₄ e) where
    pub count_other : spare ≡ false → total ≡ violations_at (e + 1) ranks as₁ as₂ as₃ as₄ mask
    unfolding row_at
    count_other no-spare =
        let none : row_at e ≡ 0 = sum_zero 64 _ (λ k l. rw (sym is ∙ no-spare) refl) in
        omega (arith, so_far, sum_more row_at e, none)

    pub count_spare :
        spare ≡ true → (r : ℕ) → r ≡ ranks_that ranks as₁ as₂ as₃ mask (λ x. ltb (array_cost as₃ e) x) e
        → total + r ≡ violations_at (e + 1) ranks as₁ as₂ as₃ as₄ mask
    unfolding row_at
    count_spare a-spare r q =
        let own : row_at e ≡ ranks_that ranks as₁ as₂ as₃ mask (λ x. ltb (array_cost as₃ e) x) e = rw (sym is ∙ a-spare) refl in
        omega (arith, so_far, sum_more row_at e, own, q)

-- ---- no violation

both_zero : (a b : ℕ) → eqb (a + b) 0 ≡ (eqb a 0 && eqb b 0)
both_zero a b =
    same_test _ _
    (λ h. let q : a + b ≡ 0 = eqb-true (a + b) 0 h in and_both _ _ (eq-eqb a 0 (omega arith)) (eq-eqb b 0 (omega arith)))
    (λ h. eq-eqb (a + b) 0 (omega (arith, eqb-true a 0 (and_first _ _ h), eqb-true b 0 (and_second (eqb a 0) _ h))))

-- A sum is 0 if and only if every term is.
sum_zero_test : (n : ℕ) (f : ℕ → ℕ) → eqb (sum n f) 0 ≡ all_below n (λ i. eqb (f i) 0)
unfolding sum all_below
sum_zero_test zero f = refl
sum_zero_test (suc n) f = both_zero (sum n f) (f n) ∙ ap (λ b. b && eqb (f n) 0) (sum_zero_test n f)

pair_none : (b : Bool) (x y : ℕ) → eqb (one (b && ltb x y)) 0 ≡ (not b || leb y x)
pair_none false x y = refl
pair_none true x y =
    elim (dec_lt x y) [
      | yes l ↦ rw (lt-ltb x y l, lt-leb y x l) refl
      | no l ↦ rw (le-ltb x y (omega arith), le-leb y x (omega arith)) refl
    ]

-- At any costs, the judge says yes if and only if there is no violation.
pub none_cheapest :
    (nodes edges count : ℕ) (ranks as₁ as₂ as₄ mask : List ℕ) (c : ℕ → ℕ) → Judged edges count ranks as₁ as₂ mask
    → paths mask ≡ (rooted (array_graph nodes edges as₁ as₂ as₄) (take count ranks)).path
    → eqb (violations_by edges ranks as₁ as₂ as₄ mask c) 0 ≡ judge (array_graph nodes edges as₁ as₂ as₄) (array_tree as₄)
    c (take count ranks)
none_cheapest nodes edges count ranks as₁ as₂ as₄ mask c h same =
    sum_zero_test edges _ ∙ all_same edges _ _ (λ s l. link_none s) ∙ judge_at nodes edges count ranks as₁ as₂ as₄ mask c h same
  where
    link_none :
        (s : ℕ) → eqb (sum 64 (λ k. one (over_at as₁ as₂ as₄ mask s k && ltb (c s) (c (get_or ranks k 0))))) 0
        ≡ (not (array_spare as₄ s) || all_below 64
        (λ k. not (across mask (get_or as₁ s 0) (get_or as₂ s 0) k) || leb (c (get_or ranks k 0)) (c s)))
    link_none s =
        sum_zero_test 64 _ ∙ elim (truth (array_spare as₄ s)) [
          | inl h ↦ rw h (all_same 64 _ _
              (λ k l. pair_none (across mask (get_or as₁ s 0) (get_or as₂ s 0) k) (c s) (c (get_or ranks k 0))))
          | inr h ↦ rw h (all_of 64 _ (λ k l. refl))
        ]
