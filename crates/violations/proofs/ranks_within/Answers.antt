use Prim.Native.Nat.{ℕ, ◌<◌}
use native.Mathlib.Omega.{arith}
use mathlib.Core.Path.{refl, sym, ap, ◌∙◌}
use mathlib.Core.Bool.{Bool, ◌&&◌}
use Rattle.bits.specs.Bit.{bit}
use Rattle.graph.specs.Rank.{cost_at}
use Rattle.graph.specs.Violations.{ones_most}
use Rattle.paths.specs.WordLaws.{lowest_below, lowest_set, word_part, word_less}
use Rattle.violations.specs.Counting.{costs_within}
use Rattle.violations.specs.CountingLaws.{ones_word, ones_end, turn_yes, turn_no}
use Rattle.violations.proofs.ranks_within.Goals as goal
use Rattle.violations.proofs.ranks_within.Goals.{Start, else-is_within, then-is_within}

-- the cost of a rank passes
abbrev priced : Start → (ℕ → Bool) → ℕ → Bool
priced s p k = p (cost_at s.args.cost.now s.args.ranks.now k)

pub cost_at-requires : goal.cost_at-requires
cost_at-requires c =
    let l = c.loop-left in
    let k = c.lowest-k in
    let some : 0 < l.left = omega arith in (
      lowest_below l.left some l.invariant.1 k.result k.ensures,
      l.invariant.2 k.result (lowest_set l.left some l.invariant.1 k.result k.ensures),
    )

pub overflow_add-found : goal.overflow_add-found
overflow_add-found c =
    let a = c.args in
    let ok : ℕ → Bool = priced (goal.at.overflow_add-found c).Start (costs_within a.low a.high) in
    let w = c.between_ends-left.result in
    omega (arith, c.loop-left.invariant.0 (costs_within a.low a.high) (λ x h. refl), ones_most 64 (λ k. bit w k && ok k))

pub loop-left-smaller : goal.loop-left-smaller
loop-left-smaller c =
    let l = c.loop-left in
    word_less l.left (omega arith) l.invariant.1 c.lowest-k.result c.lowest-k.ensures c.without_lowest-left.result
    c.without_lowest-left.ensures

pub loop-left-preserved : goal.loop-left-preserved
loop-left-preserved c =
    let r = c.without_lowest-left in
    let some : 0 < c.loop-left.left = omega arith in (
      λ q asks.
          let told = ap q (sym c.cost_at.ensures) ∙ asks c.cost_at.result (omega arith) ∙ sym c.is_within.ensures in
          elim c.if-is_within.branch [
            | then-is_within w ↦ rw w.found-is
                (turn_yes (priced (goal.at.loop-left-preserved c).Start q) c.loop-left.found _ c.loop-left.left
                (c.loop-left.invariant.0 q asks) some c.loop-left.invariant.1
                c.lowest-k.result c.lowest-k.ensures r.result r.ensures (told ∙ w.if-is_within.true))
            | else-is_within w ↦ rw w.found-is
                (turn_no (priced (goal.at.loop-left-preserved c).Start q) c.loop-left.found _ c.loop-left.left
                (c.loop-left.invariant.0 q asks) some c.loop-left.invariant.1
                c.lowest-k.result c.lowest-k.ensures r.result r.ensures (told ∙ w.if-is_within.false))
          ],
      omega arith,
      λ j h. c.loop-left.invariant.2 j
          (word_part c.loop-left.left some c.loop-left.invariant.1 c.lowest-k.result c.lowest-k.ensures r.result r.ensures j h),
    )

pub returns : goal.returns
returns c =
    λ p asks.
    let w = c.between_ends-left in
    ones_end (priced (goal.at.returns c).Start p) c.loop-left.found _ c.loop-left.left (c.loop-left.invariant.0 p asks)
    c.loop-left-test.false
    ∙ ones_word (priced (goal.at.returns c).Start p) _ w.result w.ensures
