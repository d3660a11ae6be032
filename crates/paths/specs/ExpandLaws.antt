-- Laws of a node expanded, in the shape of the code: the tree edges of a word's ranks tried, the lowest first; with the word
-- of a node's tree edges that is what the model does. Assumes nothing.
use Prim.Native.Nat.{ℕ, zero, suc, ◌+◌, ◌-◌, ◌^◌, ◌≤◌, ◌<◌}
use Rattle.std.proofs.Math.Decide.{ℕ_discrete}
use native.Mathlib.Omega.{arith}
use Rattle.std.specs.Prelude.{◌≡◌, Bool, true, false, not, ◌&&◌, List, ltb, eqb, length, get_or, take}
use Rattle.std.proofs.Math.Path.{refl, sym, ap}
use Rattle.std.proofs.Common.{◌∙◌, length-take-le, get_or-take, ltb-true, lt-ltb, le-ltb}
use Rattle.std.proofs.Math.Bool.{cond}
use Rattle.loops.specs.ScanLaws.{scan_same}
use Rattle.loops.specs.Loop.{scan, put, first}
use Rattle.loops.specs.PutLaws.{put_same, put_other}
use Rattle.loops.specs.TestLaws.{and_first}
use Rattle.bits.specs.Bit.{bit}
use Rattle.bits.specs.BitLaws.{bit_zero}
use Rattle.graph.specs.Paths.{Rooted, grow, try_at, expand}
use Rattle.adjacency.specs.Words.{RankedEnds, Adjacency}
use Rattle.paths.specs.Arrays.{array_graph, tried_rank, only, tried_word, Named}
use Rattle.paths.specs.GrowLaws.{tried_few}
use Rattle.paths.specs.WordLaws.{lowest_below, lowest_set, lowest_before, word_part, taken_out, word_higher}

-- ---- turns at some numbers only

module _ {A : Type 0} where
  module _ (body : ℕ → A → A) where
    -- Past the last number of which p holds, nothing is done.
    only_none :
        (p : ℕ → Bool) (turns i : ℕ) (st : A) → ((k : ℕ) → i ≤ k → p k ≡ false) → scan (only p body) turns i st ≡ st
    unfolding scan
    only_none p zero i st none = refl
    only_none p (suc turns) i st none =
        rw (none i (omega arith)) (only_none p turns (suc i) st (λ k l. none k (omega arith)))

    only_shorter :
        (p : ℕ → Bool) (turns more i : ℕ) (st : A) → ((k : ℕ) → i + turns ≤ k → p k ≡ false)
        → scan (only p body) (turns + more) i st ≡ scan (only p body) turns i st
    unfolding scan
    only_shorter p zero more i st none = only_none p (0 + more) i st (λ k l. none k (omega arith))
    only_shorter p (suc turns) more i st none =
        let front : suc turns + more ≡ suc (turns + more) = omega arith in
        rw front (only_shorter p turns more (suc i) (only p body i st) (λ k l. none k (omega arith)))

    -- The first number of which p holds comes first; q holds of all the others.
    only_first :
        (p q : ℕ → Bool) (k turns i : ℕ) (st : A) → i ≤ k → k < i + turns → p k ≡ true → ((j : ℕ) → j < k → p j ≡ false)
        → q k ≡ false → ((j : ℕ) → (j ≡ k → ⊥) → p j ≡ q j)
        → scan (only p body) turns i st ≡ scan (only q body) turns i (body k st)
    unfolding scan
    only_first p q k zero i st l m hit none gone others = absurd (omega arith)
    only_first p q k (suc turns) i st l m hit none gone others =
        elim (ℕ_discrete i k) [
          | yes e ↦
              rw (e, hit, gone)
              (scan_same (only p body) (only q body) turns (suc k) (body k st)
              (λ j s b c. ap (λ t. cond t (body j s) s) (others j (omega arith))))
          | no d ↦
              rw (none i (omega arith), sym (others i d) ∙ none i (omega arith))
              (only_first p q k turns (suc i) st (omega arith) (omega arith) hit none gone others)
        ]

-- ---- the loop over the ranks of a word

module _ (word : ℕ) (ranks as₁ as₂ : List ℕ) (st₀ : Rooted) where
  -- The ranks in `left` have still to be tried.
  pub record Trying (left : ℕ) (st : Rooted) : Type 0 where
    pub fits : left < 2 ^ 64
    pub within : (k : ℕ) → bit left k ≡ true → bit word k ≡ true
    pub few : st.found ≤ st₀.found + first 64 (bit left)
    pub rest : tried_word left ranks as₁ as₂ st ≡ tried_word word ranks as₁ as₂ st₀

  pub trying_start : word < 2 ^ 64 → Trying word st₀
  trying_start l = record { fits = l; within = λ k h. h; few = omega arith; rest = refl }

  module _ (left : ℕ) (st : Rooted) (h : Trying left st) where
    pub trying_end : left ≡ 0 → st ≡ tried_word word ranks as₁ as₂ st₀
    trying_end e = sym (only_none (tried_rank ranks as₁ as₂) (bit left) 64 0 st (λ k l. rw e (bit_zero k))) ∙ h.rest

    module _ (some : 0 < left) (k : ℕ) (low : k ≡ first 64 (bit left)) where
      pub trying_rank : bit word k ≡ true
      trying_rank = h.within k (lowest_set left some h.fits k low)

      pub trying_turn :
          (left' : ℕ) (next : Rooted) → left' < 2 ^ 64 →
          ((j : ℕ) → bit left' j ≡ (bit left j && not (eqb j (first 64 (bit left)))))
          → next ≡ tried_rank ranks as₁ as₂ k st → Trying left' next
      trying_turn left' next fits out e =
          let without : bit left' ≡ put (bit left) k false = taken_out left some h.fits k low left' out in
          record {
            fits = fits;
            within = λ j b. h.within j (word_part left some h.fits k low left' out j b);
            few =
                rw e (omega (
                  arith,
                  low,
                  h.few,
                  tried_few (get_or as₁ (get_or ranks k 0) 0) (get_or as₂ (get_or ranks k 0) 0) k st,
                  word_higher left some h.fits k low left' out,
                ));
            rest =
                rw e (sym (only_first (tried_rank ranks as₁ as₂) (bit left) (bit left') k 64 0 st
                (omega arith) (lowest_below left some h.fits k low) (lowest_set left some h.fits k low)
                (lowest_before left some h.fits k low)
                (ap (λ f. f k) without ∙ put_same (bit left) k false)
                (λ j d. sym (ap (λ f. f j) without ∙ put_other (bit left) k false j d))))
                ∙ h.rest;
          }

-- ---- the word of a node

module _ (count : ℕ) (ranks as₁ as₂ adj : List ℕ) (few : count ≤ 64) (within : count ≤ length ranks)
    (h : Adjacency count ranks as₁ as₂ adj) where
  grow_tried :
      (nodes edges k : ℕ) (as₄ : List ℕ) (st : Rooted) → k < count
      → grow (array_graph nodes edges as₁ as₂ as₄) (take count ranks) k st ≡ tried_rank ranks as₁ as₂ k st
  unfolding grow
  grow_tried nodes edges k as₄ st l = rw (get_or-take count ranks k 0 l)

  -- The tree edges of a node's word are those that the model tries when it expands the node.
  pub word_expands :
      (nodes edges v : ℕ) (as₄ : List ℕ) (st : Rooted)
      → tried_word (get_or adj v 0) ranks as₁ as₂ st ≡ expand (array_graph nodes edges as₁ as₂ as₄) (take count ranks) v st
  word_expands nodes edges v as₄ st =
      let whole : count + (64 - count) ≡ 64 = omega arith in
      ap (λ n. scan (only (bit (get_or adj v 0)) (tried_rank ranks as₁ as₂)) n 0 st) (sym whole)
      ∙ only_shorter (tried_rank ranks as₁ as₂) (bit (get_or adj v 0)) count (64 - count) 0 st
      (λ k l. rw (h.own v k, le-ltb k count (omega arith)))
      ∙ scan_same _ (try_at (array_graph nodes edges as₁ as₂ as₄) (take count ranks) v) count 0 st
      (λ k s b l. rw (
        h.own v k,
        lt-ltb k count (omega arith),
        grow_tried nodes edges k as₄ s (omega arith),
        get_or-take
            count ranks k 0 (omega arith),
      ))
      ∙ ap (λ n. scan (try_at (array_graph nodes edges as₁ as₂ as₄) (take count ranks) v) n 0 st)
      (sym (length-take-le count ranks within))

  -- They name edges between nodes, and so do some of them.
  pub word_named :
      (nodes : ℕ) → RankedEnds nodes count ranks as₁ as₂ → (v word : ℕ)
      → ((k : ℕ) → bit word k ≡ true → bit (get_or adj v 0) k ≡ true)
      → Named word ranks as₁ as₂
  word_named nodes r v word part =
      record {
        edge = λ k b. r.edge k (low k b);
        first = λ k b. omega (arith, r.small, r.first k (low k b));
        second = λ k b. omega (arith, r.small, r.second k (low k b));
      }
    where
      low : (k : ℕ) → bit word k ≡ true → k < count
      low k b = ltb-true k count (and_first (ltb k count) _ (sym (h.own v k) ∙ part k b))
