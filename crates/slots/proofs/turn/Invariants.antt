-- `slots::turn` meets its contract. The loop's invariant: what is left of the way, turned in the present links, comes to the
-- whole. Assumes nothing.
use Prim.Native.Nat.{◌-◌}
use Rattle.slots.specs.PairLaws.{Turning}
use Rattle.slots.proofs.turn.Given as goal

abbrev pub invariant-loop : goal.invariant-loop
invariant-loop l = Turning l.root.0 l.initial.v l.initial.k l.initial.links l.links l.v l.k (l.initial.k - l.counter)
