-- The loop's invariant: the count at the position, which is the position less the bytes that are not the last of their number, and
-- what is still to be counted are the whole. The measure is what is left of the frame.
use Rattle.std.proofs.Common.{◌≤◌, ◌-◌, length}
use Rattle.frame.specs.Questions.{numbers}
use Rattle.division.specs.Counting.{Counting, count_from}
use Rattle.division.proofs.count_blocks.Given as goal

abbrev pub invariant-loop-at : goal.invariant-loop-at
invariant-loop-at l = (l.firsts ≤ l.at) × Counting l.frame l.at (l.at - l.firsts) (count_from 0 (numbers l.frame))

abbrev pub decreases-loop-at : goal.decreases-loop-at
decreases-loop-at l = length l.frame - l.at
