-- The loop's invariant: the numbers passed are put, one behind the other.
use Rattle.frame.specs.Job.{bytes_of}
use Rattle.codec.specs.Numbers.{numbers_at, Put}
use Rattle.codec.proofs.write_numbers.Given as goal

abbrev pub invariant-loop-i : goal.invariant-loop-i
invariant-loop-i l = Put l.fn.area l.at (bytes_of (numbers_at l.i l.values)) l.next l.area
