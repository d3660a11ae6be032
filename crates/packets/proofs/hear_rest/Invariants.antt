-- `packets::hear_rest` meets its contract. The loop's invariant: what is left of the log, replayed over the costs as they are, gives what
-- all of it gives over the first costs. The measure is the bytes that are left. Assumes nothing.
use Prim.Native.Nat.{◌-◌}
use mathlib.Core.Path.{◌≡◌}
use mathlib.Core.Option.{map}
use lib.ListN.{length, drop}
use Rattle.sheet.specs.Sheet.{InRange}
use Rattle.sheet.specs.Reading.{costs_at}
use Rattle.replay.specs.Log.{replayed}
use Rattle.replay.specs.LogReading.{read_log}
use Rattle.packets.proofs.hear_rest.Given as goal

abbrev pub invariant-loop-at : goal.invariant-loop-at
invariant-loop-at l = record {
  places : length l.costs ≡ 256;
  small : InRange l.edges (costs_at l.costs);
  told : map (λ qs. replayed qs (costs_at l.costs)) (read_log l.edges (drop l.at l.log))
      ≡ map (λ qs. replayed qs (costs_at l.initial.costs)) (read_log l.edges (drop l.from l.log));
}

abbrev pub decreases-loop-at : goal.decreases-loop-at
decreases-loop-at l = length l.log - l.at
