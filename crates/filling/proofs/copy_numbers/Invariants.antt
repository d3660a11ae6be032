-- The numbers passed stand in the array.
use Rattle.filling.specs.FillLaws.{NumbersCopying}
use Rattle.filling.proofs.copy_numbers.Given as goal

abbrev pub invariant-loop-i : goal.invariant-loop-i
invariant-loop-i l = NumbersCopying l.values l.count l.initial.room l.room l.i
