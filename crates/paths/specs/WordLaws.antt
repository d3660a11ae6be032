-- Laws of a word whose lowest rank is taken out, in the shape of the code's loops. Assumes nothing.
use Rattle.std.specs.Prelude.{ℕ, ◌^◌, ◌≤◌, ◌<◌, ◌-◌, ◌≡◌, true, false, not, ◌&&◌, eqb}
use Rattle.std.proofs.Math.Decide.{dec_lt, ℕ_discrete}
use Rattle.std.proofs.Common.{arith, sym, ap, ◌∙◌}
use Rattle.loops.specs.Loop.{put, first}
use Rattle.loops.specs.PutLaws.{put_same, put_other}
use Rattle.loops.specs.FirstLaws.{first_is}
use Rattle.loops.specs.TestLaws.{clash, and_first}
use Rattle.bits.specs.Bit.{bit}
use Rattle.bits.specs.BitLaws.{first_below}
use Rattle.bits.specs.ChangeLaws.{removed}

module _ (w : ℕ) (some : 0 < w) (fits : w < 2 ^ 64) (k : ℕ) (low : k ≡ first 64 (bit w)) where
  pub lowest_below : k < 64
  lowest_below = omega (arith, first_below 64 w some fits)

  pub lowest_set : bit w k ≡ true
  lowest_set = rw low ((first_is 64 (bit w)).hit (first_below 64 w some fits))

  pub lowest_before : (j : ℕ) → j < k → bit w j ≡ false
  lowest_before j l = (first_is 64 (bit w)).before j (omega arith)

  -- The word without its lowest rank.
  module _ (w' : ℕ) (rest : (j : ℕ) → bit w' j ≡ (bit w j && not (eqb j (first 64 (bit w))))) where
    pub word_part : (j : ℕ) → bit w' j ≡ true → bit w j ≡ true
    word_part j h = and_first _ _ (sym (rest j) ∙ h)

    pub taken_out : bit w' ≡ put (bit w) k false
    taken_out = rw low (removed (bit w) (bit w') (first 64 (bit w)) rest)

    none_lower : (j : ℕ) → j ≤ k → bit w' j ≡ false
    none_lower j l =
        ap (λ f. f j) taken_out
        ∙ elim (ℕ_discrete j k) [
          | yes e ↦ rw e (put_same (bit w) k false)
          | no d ↦ put_other (bit w) k false j d ∙ lowest_before j (omega arith)
        ]

    -- Its lowest rank is higher.
    pub word_higher : k < first 64 (bit w')
    word_higher =
        elim (dec_lt k (first 64 (bit w'))) [
          | yes l ↦ l
          | no l ↦ clash ((first_is 64 (bit w')).hit (omega (arith, lowest_below))) (none_lower (first 64 (bit w')) (omega arith))
        ]

    pub word_less : 64 - first 64 (bit w') < 64 - first 64 (bit w)
    word_less = omega (arith, word_higher, lowest_below)
