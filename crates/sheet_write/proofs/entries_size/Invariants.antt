-- `sheet_write::entries_size` meets its contract. The loop's invariant: the entries of the links passed are measured. Assumes nothing.
use mathlib.Core.Path.{◌≡◌}
use lib.ListN.{length as size}
use Rattle.sheet.specs.Sheet.{moves_of}
use Rattle.sheet.specs.Reading.{costs_at}
use Rattle.sheet.proofs.EntryLaws.{entries_bytes}
use Rattle.sheet_write.proofs.entries_size.Given as goal

abbrev pub invariant-loop-e : goal.invariant-loop-e
invariant-loop-e l = l.length ≡ size (entries_bytes (moves_of l.e (costs_at l.old) (costs_at l.new)))
