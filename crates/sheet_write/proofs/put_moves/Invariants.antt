-- `sheet_write::put_moves` meets its contract. The loop's invariant: the entries of the links passed are put, one behind the other.
-- Assumes nothing.
use Rattle.codec.specs.Numbers.{Put}
use Rattle.sheet.specs.Sheet.{moves_of}
use Rattle.sheet.specs.Reading.{costs_at}
use Rattle.sheet.proofs.EntryLaws.{entries_bytes}
use Rattle.sheet_write.proofs.put_moves.Given as goal

abbrev pub invariant-loop-e : goal.invariant-loop-e
invariant-loop-e l = Put l.initial.area l.at (entries_bytes (moves_of l.e (costs_at l.old) (costs_at l.new))) l.next l.area
