-- The loop's invariant: the bytes passed are counted.
use Rattle.std.proofs.Common.{◌≡◌, ◌≤◌, ◌+◌}
use Rattle.loops.specs.Below.{sum}
use Rattle.division.specs.Counting.{continued}
use Rattle.division.proofs.block_firsts.Given as goal

abbrev pub invariant-loop-k : goal.invariant-loop-k
invariant-loop-k l = (l.firsts ≡ sum l.k (λ j. continued l.frame (l.at + j))) × (l.firsts ≤ l.k)
