-- `watch::until_cheapest` meets its contract. The loop's invariant: the packets in front of the position have been heard, there was a
-- violation before each of them, and those that are left are counted. The measure is how many bytes are left. Assumes nothing.
use Prim.Native.Nat.{◌-◌}
use mathlib.Core.Path.{◌≡◌}
use lib.ListN.{length}
use Rattle.sheet.specs.Reading.{costs_at}
use Rattle.replay.proofs.Hearing.{HeardTo}
use Rattle.violations.specs.Counting.{violations_by}
use Rattle.watch.specs.Watching.{RangedCosts, none_at}
use Rattle.watch.proofs.until_cheapest.Given as goal

abbrev pub invariant-loop-at : goal.invariant-loop-at
invariant-loop-at l = record {
  priced : RangedCosts l.edges l.cost;
  heard : HeardTo l.edges l.log (costs_at l.initial.cost) (none_at (violations_by l.edges l.ranks l.end1 l.end2 l.mark l.mask))
      l.at l.count (costs_at l.cost);
  left : l.violations ≡ violations_by l.edges l.ranks l.end1 l.end2 l.mark l.mask (costs_at l.cost);
}

abbrev pub decreases-loop-at : goal.decreases-loop-at
decreases-loop-at l = length l.log - l.at
