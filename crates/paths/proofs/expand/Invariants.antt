-- `paths::expand` meets its contract. The loop's invariant: the ranks that are left, tried, give what all of them give. The
-- measure falls as the lowest rank rises. Assumes nothing.
use Prim.Native.Nat.{◌-◌}
use mathlib.Core.Path.{◌≡◌}
use lib.ListN.{length}
use Rattle.loops.specs.Loop.{first}
use Rattle.bits.specs.Bit.{bit}
use Rattle.paths.specs.Arrays.{held}
use Rattle.paths.specs.ExpandLaws.{Trying}
use Rattle.paths.proofs.expand.Given as goal

abbrev pub invariant-loop-untried : goal.invariant-loop-untried
invariant-loop-untried l =
    (length l.mask ≡ 64) × Trying l.word l.ranks l.end1 l.end2 (held l.initial.next l.initial.mask) l.untried (held l.next l.mask)

abbrev pub decreases-loop-untried : goal.decreases-loop-untried
decreases-loop-untried l = 64 - first 64 (bit l.untried)
