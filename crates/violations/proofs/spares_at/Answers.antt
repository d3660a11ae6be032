use Prim.Native.Nat.{ℕ}
use native.Mathlib.Omega.{arith}
use mathlib.Core.Path.{refl, sym, ◌∙◌}
use mathlib.Core.Bool.{Bool, ◌&&◌}
use lib.Dec.{eqb}
use lib.ListN.{get_or}
use Rattle.loops.specs.Below.{sum}
use Rattle.graph.specs.Violations.{ones_most}
use Rattle.violations.specs.Counting.{over_at}
use Rattle.violations.specs.CountingLaws.{ones_yes, ones_no}
use Rattle.violations.proofs.spares_at.Goals as goal
use Rattle.violations.proofs.spares_at.Goals.{Start, else-meets, then-meets}

-- a link is such a spare
abbrev is_one : Start → ℕ → Bool
is_one s e =
    let a = s.args in
    over_at a.end1.now a.end2.now a.mark.now a.mask.now e a.k.0 && eqb (get_or a.cost.now e 0) a.x

pub loop-at-init : goal.loop-at-init
unfolding sum
loop-at-init c =
    refl

pub overflow_add-found : goal.overflow_add-found
overflow_add-found c =
    omega (arith, c.requires.0, c.loop-at.invariant, ones_most c.loop-at.at (is_one (goal.at.overflow_add-found c).Start))

pub loop-at-preserved : goal.loop-at-preserved
loop-at-preserved c =
    let p = is_one (goal.at.loop-at-preserved c).Start in
    elim c.if-meets.branch [
      | then-meets w ↦ w.found-is ∙ ones_yes p c.loop-at.at c.loop-at.found c.loop-at.invariant
          (sym c.meets.ensures ∙ w.if-meets.true)
      | else-meets w ↦ w.found-is ∙ ones_no p c.loop-at.at c.loop-at.found c.loop-at.invariant
          (sym c.meets.ensures ∙ w.if-meets.false)
    ]
