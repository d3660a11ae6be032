-- The loop's invariant: what is still to be counted, added to the count, is the whole. The measure is what is left of the frame.
use Rattle.std.proofs.Common.{◌-◌, length}
use Rattle.frame.specs.Questions.{numbers}
use Rattle.division.specs.Counting.{Counting, count_from}
use Rattle.division.proofs.count_numbers.Given as goal

abbrev pub invariant-loop-at : goal.invariant-loop-at
invariant-loop-at l = Counting l.frame l.at l.count (count_from 0 (numbers l.frame))

abbrev pub decreases-loop-at : goal.decreases-loop-at
decreases-loop-at l = length l.frame - l.at
