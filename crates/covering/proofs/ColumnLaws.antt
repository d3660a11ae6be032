-- The turns of the loops over tree and spare ranks: the limit up to which tree ranks cost more, and one column more.
-- Assumes nothing.
use Rattle.std.specs.Prelude.{ℕ, ◌+◌, ◌≤◌, ◌<◌, ◌≡◌, refl, ◌&&◌, List, ltb, length, get_or, set}
use Rattle.std.proofs.Math.Decide.{dec_lt, ℕ_discrete}
use Rattle.std.proofs.Common.{arith, sym, ap, ◌∙◌, get_or-set_same, get_or-set_other, lt-ltb, le-ltb, ltb-false}
use Rattle.std.proofs.Math.Bool.{and-false}
use Rattle.bits.specs.Bit.{bit}
use Rattle.graph.specs.Rank.{cost_at}
use Rattle.covering.specs.Covers.{covers, RanksRise, ColumnsHold}

-- The tree ranks below p cost more than x, and the others do not: p is the limit.
pub limit_is :
    (limit x p : ℕ) (cost ts : List ℕ) → ((t : ℕ) → t < p → x < cost_at cost ts t)
    → ((t : ℕ) → p ≤ t → t < limit → cost_at cost ts t ≤ x) → (t : ℕ) → t < limit → ltb x (cost_at cost ts t) ≡ ltb t p
limit_is limit x p cost ts more less t l = elim (dec_lt t p) [
  | yes h ↦ lt-ltb x (cost_at cost ts t) (more t h) ∙ sym (lt-ltb t p h)
  | no h ↦ le-ltb x (cost_at cost ts t) (less t (omega arith) l) ∙ sym (le-ltb t p (omega arith))
]

-- The limit found for spare rank i among the tree ranks below the last limit: it is that of all of them, and no tree rank
-- from it on costs more than a later spare rank.
module _ (cost ts ss : List ℕ) (trees q limit limit' i : ℕ) (within : i < q) (fewer : limit' ≤ limit)
    (rises : RanksRise q cost ss)
    (cut : (t s : ℕ) → limit ≤ t → t < trees → i ≤ s → s < q → cost_at cost ts t ≤ cost_at cost ss s)
    (found : (t : ℕ) → t < limit → ltb (cost_at cost ss i) (cost_at cost ts t) ≡ ltb t limit') where
  pub limit_all : (t : ℕ) → t < trees → ltb (cost_at cost ss i) (cost_at cost ts t) ≡ ltb t limit'
  limit_all t l = elim (dec_lt t limit) [
    | yes h ↦ found t h
    | no h ↦ le-ltb (cost_at cost ss i) (cost_at cost ts t) (cut t i (omega arith) l (omega arith) within)
        ∙ sym (le-ltb t limit' (omega arith))
  ]

  pub limit_cuts : (t s : ℕ) → limit' ≤ t → t < trees → i ≤ s → s < q → cost_at cost ts t ≤ cost_at cost ss s
  limit_cuts t s h l m b =
      omega (
        arith,
        ltb-false (cost_at cost ss i) (cost_at cost ts t) (limit_all t l ∙ le-ltb t limit' h),
        rises i s m b,
      )

-- The column of spare rank i is written.
module _ (trees : ℕ) (cost ts ss end₁ end₂ mask : List ℕ) (cols : List ℕ) (i over upper column limit : ℕ)
    (so_far : ColumnsHold trees i cost ts ss end₁ end₂ mask cols) (here : i < length cols) (few : limit ≤ trees)
    (covered : (t : ℕ) → bit over t ≡ covers end₁ end₂ mask (get_or ss i 0) t)
    (dearer : (t : ℕ) → t < trees → ltb (cost_at cost ss i) (cost_at cost ts t) ≡ ltb t limit)
    (below : (t : ℕ) → bit upper t ≡ ltb t limit)
    (both : (t : ℕ) → bit column t ≡ (bit over t && bit upper t)) where
  pub columns_turn : ColumnsHold trees (i + 1) cost ts ss end₁ end₂ mask (set cols i column)
  columns_turn t s l = elim (ℕ_discrete s i) [
    | yes e ↦ rw (e, get_or-set_same cols i column 0 here, both t, covered t, below t) (new t)
    | no d ↦ ap (λ (w : ℕ). bit w t) (get_or-set_other cols i s column 0 d) ∙ so_far t s (omega arith)
  ]
    where
      new :
          (t : ℕ) → (covers end₁ end₂ mask (get_or ss i 0) t && ltb t limit)
          ≡ (ltb t trees && (covers end₁ end₂ mask (get_or ss i 0) t && ltb (cost_at cost ss i) (cost_at cost ts t)))
      new t = elim (dec_lt t trees) [
        | yes h ↦ rw (lt-ltb t trees h, dearer t h) refl
        | no h ↦ rw (le-ltb t trees (omega arith), le-ltb t limit (omega arith))
            (and-false (covers end₁ end₂ mask (get_or ss i 0) t))
      ]
