-- The loops over a set and over the pairs: labels written, lowest slot first, and tree ranks collected. Assumes nothing.
use Rattle.std.specs.Prelude.{ℕ, suc, ◌+◌, ◌^◌, ◌<◌, ◌≡◌, refl, ◌⊎◌, Bool, true, false, cond, not, ◌&&◌, ◌||◌, List, ltb, eqb, length, get_or, set}
use Rattle.std.proofs.Math.Decide.{ℕ_discrete}
use Rattle.std.proofs.Common.{add-one, arith, sym, ap, subst, ◌∙◌, inl, inr, length-set, get_or-set_same, get_or-set_other, lt-ltb, le-ltb, ltb-true}
use Rattle.loops.specs.Loop.{put, first}
use Rattle.loops.specs.TestLaws.{truth}
use Rattle.loops.specs.PutLaws.{put_same, put_other}
use Rattle.loops.specs.FirstLaws.{first_is}
use Rattle.bits.specs.Bit.{bit}
use Rattle.bits.specs.BitLaws.{bit_zero, first_below}
use Rattle.bits.specs.ChangeLaws.{removed}
use Rattle.labels.specs.Labels.{paired_below, LabelPut}

-- What the loop over a set keeps: `left` holds the slots that the label is still to be written at.
pub record LabelsLeft (word x : ℕ) (label₀ : List ℕ) (left : ℕ) (label : List ℕ) : Type 0 where
  pub at : (k : ℕ) → cond (bit left k) x (get_or label k 0) ≡ cond (bit word k) x (get_or label₀ k 0)
  pub size : length label ≡ 64
  pub small : left < 2 ^ 64

pub filling_start : (word x : ℕ) (label : List ℕ) → length label ≡ 64 → word < 2 ^ 64 → LabelsLeft word x label word label
filling_start word x label s l = record { at = λ k. refl; size = s; small = l }

module _ (word x : ℕ) (label₀ : List ℕ) (left : ℕ) (label : List ℕ) (h : LabelsLeft word x label₀ left label) where
  pub filling_end : left ≡ 0 → LabelPut word x label₀ label
  filling_end e =
      record {
        size = h.size;
        at = λ k. subst (λ b. cond b x (get_or label k 0) ≡ cond (bit word k) x (get_or label₀ k 0))
            (ap (λ w. bit w k) e ∙ bit_zero k) (h.at k);
      }

  module _ (some : left ≡ 0 → ⊥) (i : ℕ) (lowest : i ≡ first 64 (bit left)) where
    pub filling_below : i < 64
    filling_below = rw lowest (first_below 64 left (omega arith) h.small)

    is_member : bit left i ≡ true
    is_member = rw lowest ((first_is 64 (bit left)).hit (first_below 64 left (omega arith) h.small))

    pub filling_turn :
        (left' : ℕ) → ((j : ℕ) → bit left' j ≡ (bit left j && not (eqb j (first 64 (bit left))))) → left' < 2 ^ 64
        → LabelsLeft word x label₀ left' (set label i x)
    filling_turn left' less l =
        record {
          at = λ k. elim (ℕ_discrete k i) [
            | yes e ↦ rw (e, gone, get_or-set_same label i x 0 (omega (arith, h.size, filling_below))) (rw is_member at (h.at i))
            | no d ↦ rw (
              ap (λ (f : ℕ → Bool). f k) without ∙ put_other (bit left) i false k d,
              get_or-set_other label i
                  k x 0 d,
            ) (h.at k)
          ];
          size = length-set label i x ∙ h.size;
          small = l;
        }
      where
        without : bit left' ≡ put (bit left) i false
        without = rw lowest (removed (bit left) (bit left') (first 64 (bit left)) less)

        gone : bit left' i ≡ false
        gone = ap (λ (f : ℕ → Bool). f i) without ∙ put_same (bit left) i false

-- Is there a hit below one more?
any_more : (n : ℕ) (P : ℕ → Bool) → ltb (first (suc n) P) (suc n) ≡ (ltb (first n P) n || P n)
unfolding first
any_more n P = at_first (truth (ltb (first n P) n)) (truth (P n))
  where
    at_first : (ltb (first n P) n ≡ true) ⊎ (ltb (first n P) n ≡ false) → (P n ≡ true) ⊎ (P n ≡ false)
        → ltb (cond (ltb (first n P) n) (first n P) (cond (P n) n (suc n))) (suc n) ≡ (ltb (first n P) n || P n)
    at_first (inl h) q = rw h (lt-ltb (first n P) (suc n) (omega (arith, ltb-true (first n P) n h)))
    at_first (inr h) (inl q) = rw (h, q) (lt-ltb n (suc n) (omega arith))
    at_first (inr h) (inr q) = rw (h, q) (le-ltb (suc n) (suc n) (omega arith))

-- The loop that collects the tree ranks of the pairs.
module _ (links : List ℕ) where
  pub paired_start : (t : ℕ) → bit 0 t ≡ paired_below 0 links t
  paired_start t = bit_zero t ∙ sym (le-ltb (first 0 (λ k. eqb (get_or links k 0) t)) 0 (omega arith))

  pub paired_turn :
      (k w w' : ℕ) → ((t : ℕ) → bit w t ≡ paired_below k links t) → ((t : ℕ) → bit w' t ≡ (bit w t || eqb (get_or links k 0) t))
      → (t : ℕ) → bit w' t ≡ paired_below (k + 1) links t
  paired_turn k w w' h more t =
      more t ∙ rw (h t, add-one k) (sym (any_more k (λ k. eqb (get_or links k 0) t)))
