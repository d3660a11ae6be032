use Rattle.std.proofs.Common.{ℕ, ◌+◌, refl}
use Rattle.loops.specs.Below.{all_below}
use Rattle.loops.specs.TestLaws.{all_next}
use Rattle.division.specs.Counting.{followed}
use Rattle.division.proofs.block_divides.Goals as goal

pub loop-k-init : goal.loop-k-init
unfolding all_below
loop-k-init c = refl

pub loop-k-preserved : goal.loop-k-preserved
loop-k-preserved c =
    all_next c.loop-k.k (λ (j : ℕ). followed c.args.frame.now (c.args.at + j)) _ _ c.loop-k.invariant c.may_follow-follows.ensures
