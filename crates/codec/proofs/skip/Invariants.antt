-- The loop's invariant: the model, run on the numbers that are left, gives what it gives on all of them.
use Rattle.std.proofs.Common.{◌≡◌, ◌-◌}
use Rattle.loops.specs.Loop.{scan}
use Rattle.codec.specs.Numbers.{step, skipped}
use Rattle.codec.proofs.skip.Given as goal

abbrev pub invariant-loop : goal.invariant-loop
invariant-loop l = scan (step l.s) (l.count - l.counter) l.counter l.next ≡ skipped l.s l.count l.at
