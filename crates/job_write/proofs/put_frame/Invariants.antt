-- The loop's invariant: the groups passed are put, one behind the other.
use Rattle.frame.specs.Arrays.{columns}
use Rattle.codec.specs.Numbers.{Put}
use Rattle.job_write.specs.Groups.{groups_bytes, group}
use Rattle.job_write.proofs.put_frame.Given as goal

abbrev pub invariant-loop-i : goal.invariant-loop-i
invariant-loop-i l =
    Put l.fn.area l.at (groups_bytes (group l.nodes l.edges (columns l.end1 l.end2 l.cost l.mark)) l.i) l.next l.area
