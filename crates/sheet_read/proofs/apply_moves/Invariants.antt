-- `sheet_read::apply_moves` meets its contract. The loop's invariant: the model, run on the entries that are left, gives what it gives
-- on all of them. Assumes nothing.
use Prim.Native.Nat.{◌-◌, ◌≤◌}
use mathlib.Core.Path.{◌≡◌}
use lib.ListN.{length, drop}
use Rattle.sheet.specs.Sheet.{InRange}
use Rattle.sheet.specs.Reading.{apply_from, apply_sheet, costs_at}
use Rattle.sheet_read.proofs.apply_moves.Given as goal

abbrev pub invariant-loop : goal.invariant-loop
invariant-loop l = record {
  within : l.at ≤ length l.sheet;
  places : length l.costs ≡ 256;
  small : InRange l.edges (costs_at l.costs);
  told : apply_from l.edges (l.end - l.counter) l.least (costs_at l.costs) (drop l.at l.sheet)
      ≡ apply_sheet l.edges (costs_at l.initial.costs) l.sheet;
}
