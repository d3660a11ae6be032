-- Laws of the judge, in the shape of the code: a test of all the ranks of a word, one link, and what the test of all links
-- comes to in the model. Assumes nothing.
use Rattle.std.specs.Prelude.{ℕ, ◌^◌, ◌≤◌, ◌<◌, ◌≡◌, Bool, true, false, not, ◌&&◌, ◌||◌, List, leb, eqb, get_or, take}
use Rattle.std.proofs.Math.Decide.{dec_lt, ℕ_discrete}
use Rattle.std.proofs.Common.{arith, sym, ap, ◌∙◌, inl, inr, length-take-le, get_or-take}
use Rattle.std.proofs.Math.Bool.{xor}
use Rattle.loops.specs.Below.{all_below}
use Rattle.loops.specs.Loop.{first}
use Rattle.loops.specs.PutLaws.{put_other}
use Rattle.loops.specs.TestLaws.{truth, clash, all_at, all_of, all_miss, all_same}
use Rattle.bits.specs.Bit.{bit}
use Rattle.bits.specs.BitLaws.{bit_zero}
use Rattle.bits.specs.ChangeLaws.{or_test}
use Rattle.graph.specs.Paths.{rooted, judge}
use Rattle.paths.specs.Arrays.{array_graph, array_tree, array_spare, array_cost, paths, across}
use Rattle.paths.specs.WordLaws.{lowest_below, lowest_set, taken_out}
use Rattle.paths.specs.RootLaws.{across_covers}
use Rattle.cheapest.specs.Judge.{spare_holds, link_holds, Spare, FallAlong, Judged}

-- ---- the ranks of a word

-- Every rank of the word w passes.
abbrev pub word_holds : (ℕ → Bool) → ℕ → Bool
word_holds ok w = all_below 64 λ k. not (bit w k) || ok k

module _ (w : ℕ) (some : 0 < w) (fits : w < 2 ^ 64) (k : ℕ) (low : k ≡ first 64 (bit w)) where
  pub word_miss : (ok : ℕ → Bool) → ok k ≡ false → word_holds ok w ≡ false
  word_miss ok no-k =
      all_miss 64 (λ j. not (bit w j) || ok j) k (lowest_below w some fits k low) (rw (lowest_set w some fits k low, no-k))

  pub word_turn :
      (w' : ℕ) → ((j : ℕ) → bit w' j ≡ (bit w j && not (eqb j (first 64 (bit w)))))
      → (ok : ℕ → Bool) → ok k ≡ true → word_holds ok w' ≡ word_holds ok w
  word_turn w' rest ok yes-k =
      all_same 64 _ _ (λ j l. elim (ℕ_discrete j k) [
        | yes e ↦ rw (e, yes-k) (or_test (not (bit w' k)) true ∙ sym (or_test (not (bit w k)) true))
        | no d ↦ ap (λ b. not b || ok j) (ap (λ f. f j) (taken_out w some fits k low w' rest) ∙ put_other (bit w) k false j d)
      ])

pub word_end : (ok : ℕ → Bool) (w : ℕ) → w ≡ 0 → word_holds ok w ≡ true
word_end ok w e = all_of 64 _ (λ j l. rw (e, bit_zero j))

-- ---- one link

module _ (ranks as₁ as₂ as₃ as₄ mask : List ℕ) (s : ℕ) where
  module _ {spare : Bool} (is : spare ≡ array_spare as₄ s) where
    pub link_other : spare ≡ false → link_holds ranks as₁ as₂ as₃ as₄ mask s ≡ true
    link_other e = rw (sym is ∙ e)

    pub link_spare : spare ≡ true → link_holds ranks as₁ as₂ as₃ as₄ mask s ≡ spare_holds ranks as₁ as₂ as₃ mask s
    link_spare e = rw (sym is ∙ e)

-- ---- all links

all_longer :
    (n m : ℕ) (p : ℕ → Bool) → n ≤ m → ((k : ℕ) → n ≤ k → p k ≡ true) → all_below n p ≡ all_below m p
all_longer n m p l past =
    elim (truth (all_below m p)) [
      | inl h ↦ all_of n p (λ i b. all_at m p h i (omega arith)) ∙ sym h
      | inr h ↦
          elim (truth (all_below n p)) [
            | inl a ↦ clash (all_of m p (λ i b. elim (dec_lt i n) [ yes c ↦ all_at n p a i c | no c ↦ past i (omega arith) ])) h
            | inr a ↦ a ∙ sym h
          ]
    ]

-- Ranks past the last lie between no nodes.
pub across_past :
    (edges count : ℕ) (ranks as₁ as₂ mask : List ℕ) → Judged edges count ranks as₁ as₂ mask
    → (a b k : ℕ) → count ≤ k → across mask a b k ≡ false
unfolding xor
across_past edges count ranks as₁ as₂ mask h a b k l = rw (h.below a k l, h.below b k l)

pub judged_spare :
    (edges count falling : ℕ) (ranks as₁ as₂ as₃ mask : List ℕ) → Judged edges count ranks as₁ as₂ mask
    → FallAlong count falling ranks as₃ → (s : ℕ) → s < edges → Spare s falling ranks as₁ as₂ as₃ mask
judged_spare edges count falling ranks as₁ as₂ as₃ mask h f s l =
    record {
      link = omega (arith, h.links);
      first = h.first s l;
      second = h.second s l;
      edge = λ k c. h.edge k (covered_below k c);
      falls = λ j k m c. f j k m (covered_below k c);
    }
  where
    covered_below : (k : ℕ) → across mask (get_or as₁ s 0) (get_or as₂ s 0) k ≡ true → k < count
    covered_below k c = elim (dec_lt k count) [
      | yes b ↦ b
      | no b ↦ clash c (across_past edges count ranks as₁ as₂ mask h (get_or as₁ s 0) (get_or as₂ s 0) k (omega arith))
    ]

-- The test of all links, at any costs, is the model's.
pub judge_at :
    (nodes edges count : ℕ) (ranks as₁ as₂ as₄ mask : List ℕ) (c : ℕ → ℕ) → Judged edges count ranks as₁ as₂ mask
    → paths mask ≡ (rooted (array_graph nodes edges as₁ as₂ as₄) (take count ranks)).path
    → all_below edges (λ s. not (array_spare as₄ s)
    || all_below 64 (λ k. not (across mask (get_or as₁ s 0) (get_or as₂ s 0) k) || leb (c (get_or ranks k 0)) (c s)))
    ≡ judge (array_graph nodes edges as₁ as₂ as₄) (array_tree as₄) c (take count ranks)
unfolding judge
judge_at nodes edges count ranks as₁ as₂ as₄ mask c h same =
    all_same edges _ _ (λ s l. ap (λ b. not (array_spare as₄ s) || b)
    (sym (all_longer count 64 _ (omega (arith, h.few))
    (λ k b. rw (across_past edges count ranks as₁ as₂ mask h (get_or as₁ s 0) (get_or as₂ s 0) k b)))
    ∙ rw (length-take-le count ranks h.within) (all_same count _ _ (λ k b.
    rw (across_covers nodes edges as₁ as₂ as₄ mask (take count ranks) same s k, get_or-take count ranks k 0 b)))))

pub judge_links :
    (nodes edges count : ℕ) (ranks as₁ as₂ as₃ as₄ mask : List ℕ) → Judged edges count ranks as₁ as₂ mask
    → paths mask ≡ (rooted (array_graph nodes edges as₁ as₂ as₄) (take count ranks)).path
    → all_below edges (link_holds ranks as₁ as₂ as₃ as₄ mask)
    ≡ judge (array_graph nodes edges as₁ as₂ as₄) (array_tree as₄) (array_cost as₃) (take count ranks)
judge_links nodes edges count ranks as₁ as₂ as₃ as₄ mask h same = judge_at nodes edges count ranks as₁ as₂ as₄ mask
    (array_cost as₃) h same
