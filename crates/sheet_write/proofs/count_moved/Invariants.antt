-- `sheet_write::count_moved` meets its contract. The loop's invariant: the entries of the links passed are counted. Assumes nothing.
use mathlib.Core.Path.{◌≡◌}
use lib.ListN.{length}
use Rattle.sheet.specs.Sheet.{moves_of}
use Rattle.sheet.specs.Reading.{costs_at}
use Rattle.sheet_write.proofs.count_moved.Given as goal

abbrev pub invariant-loop-e : goal.invariant-loop-e
invariant-loop-e l = l.count ≡ length (moves_of l.e (costs_at l.old) (costs_at l.new))
