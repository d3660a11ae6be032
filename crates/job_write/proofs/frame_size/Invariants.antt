-- The loop's invariant: the size of the groups passed.
use Rattle.std.proofs.Common.{◌≡◌, ◌≤◌, ◌*◌, length}
use Rattle.limits.specs.Limits.{number_bytes}
use Rattle.frame.specs.Arrays.{columns}
use Rattle.job_write.specs.Groups.{groups_bytes, group}
use Rattle.job_write.proofs.frame_size.Given as goal

abbrev pub invariant-loop-i : goal.invariant-loop-i
invariant-loop-i l =
    (l.total ≡ length (groups_bytes (group l.nodes l.edges (columns l.end1 l.end2 l.cost l.mark)) l.i))
    × (l.total ≤ 4 * number_bytes * l.i)
