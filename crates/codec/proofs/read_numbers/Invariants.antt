-- The loop's invariant: the model, run on the numbers that are left, gives what it gives on all of them.
use Rattle.std.proofs.Common.{◌≡◌, ◌-◌, length}
use Rattle.loops.specs.Loop.{scan}
use Rattle.codec.specs.Numbers.{load, loaded_at, loaded, Divided}
use Rattle.codec.proofs.read_numbers.Given as goal

abbrev pub invariant-loop-i : goal.invariant-loop-i
invariant-loop-i l =
    (scan (load l.s) (l.count - l.i) l.i (loaded_at l.next l.values) ≡ loaded l.s l.at l.count l.fn.values)
    × (length l.values ≡ length l.fn.values) × Divided l.s l.next (l.count - l.i)
