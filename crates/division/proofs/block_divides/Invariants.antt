-- The loop's invariant: the bytes passed are followed, or not, as `holds` says.
use Rattle.std.proofs.Common.{◌≡◌, ◌+◌}
use Rattle.loops.specs.Below.{all_below}
use Rattle.division.specs.Counting.{followed}
use Rattle.division.proofs.block_divides.Given as goal

abbrev pub invariant-loop-k : goal.invariant-loop-k
invariant-loop-k l = l.holds ≡ all_below l.k (λ j. followed l.frame (l.at + j))
