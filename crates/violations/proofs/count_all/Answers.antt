use Prim.Native.Nat.{◌+◌}
use native.Mathlib.Omega.{arith}
use mathlib.Core.Path.{◌≡◌, refl, ◌∙◌}
use lib.ListN.{get_or}
use Rattle.loops.specs.Below.{sum}
use Rattle.violations.specs.Counting.{violations_at}
use Rattle.violations.specs.CountingLaws.{above_within, violations_few, count_other, count_spare}
use Rattle.violations.specs.StepLaws.{across_edge}
use Rattle.violations.proofs.count_all.Goals as goal
use Rattle.violations.proofs.count_all.Goals.{After-ranks_within-total, else-is_spare, then-is_spare}

pub loop-e-init : goal.loop-e-init
unfolding sum
loop-e-init c =
    refl

pub ranks_within-total-requires-clause-by_index : goal.ranks_within-total-requires-clause-by_index
ranks_within-total-requires-clause-by_index c =
    across_edge _ _ _ _ _ _ _ c.requires.1 _ _

-- one more spare
spare_turn :
    (c : After-ranks_within-total) →
    let a = c.args in
    c.loop-e.total + c.ranks_within-total.result
    ≡ violations_at (c.loop-e.e + 1) a.ranks.now a.end1.now a.end2.now a.cost.now a.mark.now a.mask.now
spare_turn c =
    let a = c.args in
    count_spare a.ranks.now a.end1.now a.end2.now a.cost.now a.mark.now a.mask.now c.loop-e.e c.loop-e.total
    c.loop-e.invariant c.is_spare.ensures c.if-is_spare.true c.ranks_within-total.result
    (c.ranks_within-total.ensures _ (above_within (get_or a.cost.now c.loop-e.e 0)))

pub overflow_add-total : goal.overflow_add-total
overflow_add-total c =
    let a = c.args in
    omega (
      arith,
      spare_turn (goal.at.overflow_add-total c).After-ranks_within-total,
      c.requires.1.judged.links,
      violations_few a.ranks.now a.end1.now a.end2.now a.cost.now a.mark.now a.mask.now (c.loop-e.e + 1),
    )

pub loop-e-preserved : goal.loop-e-preserved
loop-e-preserved c =
    let a = c.args in
    elim c.if-is_spare.branch [
      | then-is_spare w ↦ w.total-is
          ∙ count_spare a.ranks.now a.end1.now a.end2.now a.cost.now a.mark.now a.mask.now c.loop-e.e c.loop-e.total
          c.loop-e.invariant c.is_spare.ensures w.if-is_spare.true w.ranks_within-total.result
          (w.ranks_within-total.ensures _ (above_within (get_or a.cost.now c.loop-e.e 0)))
      | else-is_spare w ↦ w.total-is
          ∙ count_other a.ranks.now a.end1.now a.end2.now a.cost.now a.mark.now a.mask.now c.loop-e.e c.loop-e.total
          c.loop-e.invariant c.is_spare.ensures w.if-is_spare.false
    ]
