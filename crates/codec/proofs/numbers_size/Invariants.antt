-- The loop's invariant: the size of the numbers passed.
use Rattle.std.proofs.Common.{◌≡◌, length}
use Rattle.frame.specs.Job.{bytes_of}
use Rattle.codec.specs.Numbers.{numbers_at}
use Rattle.codec.proofs.numbers_size.Given as goal

abbrev pub invariant-loop-i : goal.invariant-loop-i
invariant-loop-i l = (l.total ≡ length (bytes_of (numbers_at l.i l.values)))
