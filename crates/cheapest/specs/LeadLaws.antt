-- Laws of the ranks that tell whether a spare holds: the loop that finds the ranks that cost no more than any lower one, the
-- ranks of a word that are left without them, and that these tell as much as the whole word. Assumes nothing.
use Prim.Native.Nat.{ℕ, ◌+◌, ◌^◌, ◌≤◌, ◌<◌}
use Rattle.std.proofs.Math.Decide.{dec_lt, ℕ_discrete}
use Rattle.std.proofs.Common.{add-one, arith, sym, ap, ◌∙◌}
use Rattle.std.specs.Prelude.{◌≡◌, Bool, true, false, not, ◌&&◌, ◌||◌, List, leb, ltb, eqb}
use Rattle.std.proofs.Math.Path.{refl}
use Rattle.std.proofs.Math.Logic.{inl, inr}
use Rattle.std.proofs.Math.Bool.{or-false}
use borrow.Author.Tests.{eq-eqb, ne_eqb, lt-ltb, le-ltb, leb-true, le-leb, lt-leb}
use Rattle.loops.specs.Below.{all_below}
use Rattle.loops.specs.Loop.{first}
use Rattle.loops.specs.FirstLaws.{First, first_is}
use Rattle.loops.specs.TestLaws.{truth, clash, and_first, and_second, and_both, same_test, or_means, all_at, all_of}
use Rattle.bits.specs.Bit.{bit}
use Rattle.bits.specs.BitLaws.{bit_zero}
use Rattle.bits.specs.ChangeLaws.{or_test}
use Rattle.graph.specs.Rank.{cost_at}
use Rattle.adjacency.specs.AdjacencyLaws.{passed}
use Rattle.paths.specs.WordLaws.{lowest_set}
use Rattle.cheapest.specs.Judge.{not_dearer, may_lead, FallAlong}

-- ---- the ranks that cost no more than any lower one

-- The loop has passed k ranks: which of them it has put into the word, and that `least` is the lowest cost among them.
pub record Passed (k : ℕ) (ranks as₃ : List ℕ) (falling least : ℕ) : Type 0 where
  pub own : (j : ℕ) → bit falling j ≡ not_dearer k ranks as₃ j
  pub lowest : (x : ℕ) → x < 2 ^ 32 → leb x least ≡ all_below k (λ i. leb x (cost_at as₃ ranks i))

-- A loop passes one more number.
all_next : (k : ℕ) (p : ℕ → Bool) → all_below (k + 1) p ≡ (all_below k p && p k)
unfolding all_below
all_next k p = rw add-one refl

-- A number is at most the lower of two if it is at most both.
lower_first : (x y z : ℕ) → y ≤ z → leb x y ≡ (leb x z && leb x y)
lower_first x y z l =
    same_test _ _ (λ h. and_both _ _ (le-leb x z (omega (arith, leb-true x y h))) h) (and_second (leb x z) (leb x y))

lower_second : (x y z : ℕ) → z ≤ y → leb x z ≡ (leb x z && leb x y)
lower_second x y z l =
    same_test _ _ (λ h. and_both _ _ h (le-leb x y (omega (arith, leb-true x z h)))) (and_first (leb x z) (leb x y))

module _ (ranks as₃ : List ℕ) where
  pub passed_none : Passed 0 ranks as₃ 0 4294967295
  unfolding all_below
  passed_none =
      record {
        own = λ j. rw (le-ltb j 0 (omega arith)) (bit_zero j);
        lowest = λ x l. le-leb x 4294967295 (omega arith);
      }

  -- One more rank, whose cost is `price`.
  module _ (k falling least price : ℕ) (h : Passed k ranks as₃ falling least) (is : price ≡ cost_at as₃ ranks k)
      (fits : price < 2 ^ 32) where
    -- It costs no more than any lower one if it costs at most the least so far.
    told : (j : ℕ) → j ≡ k → leb price least ≡ not_dearer (k + 1) ranks as₃ j
    told j e =
        rw (e, lt-ltb k (k + 1) (omega arith)) (h.lowest price fits ∙ ap (λ x. all_below k (λ i. leb x (cost_at as₃ ranks i))) is)

    before : (j : ℕ) → j ≡ k → bit falling j ≡ false
    before j e = h.own j ∙ rw (le-ltb j k (omega arith)) refl

    -- Another rank is in the word or not, as it was.
    other : (j : ℕ) → (j ≡ k → ⊥) → bit falling j ≡ not_dearer (k + 1) ranks as₃ j
    other j d = h.own j ∙ rw (passed j k d) refl

    least_next :
        (x least' : ℕ) → x < 2 ^ 32 → leb x least' ≡ (leb x least && leb x price)
        → leb x least' ≡ all_below (k + 1) (λ i. leb x (cost_at as₃ ranks i))
    least_next x least' l e =
        e ∙ rw (h.lowest x l, is) refl ∙ sym (all_next k (λ i. leb x (cost_at as₃ ranks i)))

    pub passed_lower :
        (falling' : ℕ) → ((j : ℕ) → bit falling' j ≡ (bit falling j || eqb k j)) → price ≤ least
        → Passed (k + 1) ranks as₃ falling' price
    passed_lower falling' with l =
        record {
          own = λ j. with j ∙ elim (ℕ_discrete j k) [
            | yes e ↦ rw (before j e, eq-eqb k j (sym e)) (sym (le-leb price least l) ∙ told j e)
            | no d ↦ rw (ne_eqb k j (λ e. d (sym e))) (or-false (bit falling j) ∙ other j d)
          ];
          lowest = λ x b. least_next x price b (lower_first x price least l);
        }

    pub passed_higher : least < price → Passed (k + 1) ranks as₃ falling least
    passed_higher l =
        record {
          own = λ j. elim (ℕ_discrete j k) [ yes e ↦ before j e ∙ sym (lt-leb price least l) ∙ told j e | no d ↦ other j d ];
          lowest = λ x b. least_next x least b (lower_second x price least (omega arith));
        }

  -- What the word says.
  pub falls_word :
      (count falling : ℕ) → ((k : ℕ) → bit falling k ≡ not_dearer count ranks as₃ k)
      → FallAlong count falling ranks as₃
  falls_word count falling h j k l m b =
      leb-true _ _ (all_at k (λ i. leb (cost_at as₃ ranks k) (cost_at as₃ ranks i))
      (and_second (ltb k count) _ (sym (h k) ∙ b)) j l)

-- ---- the ranks of a word that may be its dearest

pub lead_none : (word falling : ℕ) → word ≡ 0 → (k : ℕ) → bit 0 k ≡ may_lead word falling k
lead_none word falling e k = rw (e, bit_zero k)

pub lead_some :
    (word falling low r : ℕ) → 0 < word → word < 2 ^ 64 → low ≡ first 64 (bit word)
    → ((k : ℕ) → bit r k ≡ ((bit word k && not (bit falling k)) || eqb low k)) → (k : ℕ) → bit r k ≡ may_lead word falling k
lead_some word falling low r some fits e h k =
    h k ∙ rw (← e) (elim (ℕ_discrete low k) [
      | yes q ↦ rw (eq-eqb low k q, lowest_set word some fits k (sym q ∙ e)) refl
      | no d ↦ rw (ne_eqb low k d) (or-false _ ∙ ap (λ b. bit word k && b) (sym (or-false (not (bit falling k)))))
    ])

-- If those pass, every rank of the word does.
module _ (ranks as₃ : List ℕ) (word falling left limit : ℕ)
    (falls : (j k : ℕ) → j < k → bit word k ≡ true → bit falling k ≡ true → cost_at as₃ ranks k ≤ cost_at as₃ ranks j)
    (part : (k : ℕ) → bit left k ≡ may_lead word falling k) where
  ok : ℕ → Bool
  ok k = leb (cost_at as₃ ranks k) limit

  lead_passes : all_below 64 (λ k. not (bit left k) || ok k) ≡ true → (k : ℕ) → k < 64 → bit word k ≡ true → ok k ≡ true
  unfolding ok
  lead_passes h k l b =
      elim (dec_lt low k) [
        | yes c ↦
            elim (truth (bit falling k)) [
              | inl t ↦
                  let most : cost_at as₃ ranks low ≤ limit = leb-true _ limit
                  (first_passes low (omega arith) refl (lowest_is.hit (omega arith))) in
                  le-leb _ limit (omega (arith, falls low k c b t, most))
              | inr n ↦ passes k l (rw (b, n) refl)
            ]
        | no c ↦
            elim (dec_lt k low) [
              | yes d ↦ clash b (lowest_is.before k d)
              | no d ↦ first_passes k l (omega arith) b
            ]
      ]
    where
      low : ℕ
      low = first 64 (bit word)

      lowest_is : First 64 (bit word) (first 64 (bit word))
      lowest_is = first_is 64 (bit word)

      passes : (j : ℕ) → j < 64 → may_lead word falling j ≡ true → leb (cost_at as₃ ranks j) limit ≡ true
      passes j m q = (or_means (bit left j) _).0 (all_at 64 _ h j m) (part j ∙ q)

      first_passes : (j : ℕ) → j < 64 → first 64 (bit word) ≡ j → bit word j ≡ true → leb (cost_at as₃ ranks j) limit ≡ true
      first_passes j m e q = passes j m
          (and_both _ _ q (or_test (not (bit falling j)) _ ∙ rw (eq-eqb (first 64 (bit word)) j e) refl))

  pub lead_tells :
      (p : ℕ → Bool) → ((k : ℕ) → bit word k ≡ p k)
      → all_below 64 (λ k. not (bit left k) || leb (cost_at as₃ ranks k) limit)
      ≡ all_below 64 (λ k. not (p k) || leb (cost_at as₃ ranks k) limit)
  unfolding ok
  lead_tells p same =
      same_test _ _
      (λ h. all_of 64 _ (λ k l. (or_means (p k) _).1 (λ c. lead_passes h k l (same k ∙ c))))
      (λ h. all_of 64 _ (λ k l. (or_means (bit left k) _).1 (λ c.
      (or_means (p k) _).0 (all_at 64 _ h k l) (sym (same k) ∙ and_first (bit word k) _ (sym (part k) ∙ c)))))
