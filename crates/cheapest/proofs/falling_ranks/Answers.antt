use native.Mathlib.Omega.{arith}
use Rattle.cheapest.specs.LeadLaws.{passed_none, passed_lower, passed_higher}
use Rattle.cheapest.proofs.falling_ranks.Goals as goal
use Rattle.cheapest.proofs.falling_ranks.Goals.{else-price-least, then-price-least}

pub loop-k-init : goal.loop-k-init
loop-k-init c =
    passed_none _ _

pub loop-k-preserved : goal.loop-k-preserved
loop-k-preserved c =
    let p = c.cost_at-price in
    let l = c.loop-k in
    elim c.if-price-least.branch [
      | then-price-least w ↦ rw (w.falling-is, w.least-is)
          (passed_lower _ _ l.k l.falling l.least p.result l.invariant p.ensures (omega arith) w.with-falling.result
          w.with-falling.ensures w.if-price-least.true)
      | else-price-least w ↦ rw (w.falling-is, w.least-is)
          (passed_higher _ _ l.k l.falling l.least p.result l.invariant p.ensures (omega arith) w.if-price-least.false)
    ]
