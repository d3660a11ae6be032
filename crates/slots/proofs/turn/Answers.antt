use Prim.Native.Nat.{◌+◌, ◌-◌}
use native.Mathlib.Omega.{arith}
use mathlib.Core.Path.{◌≡◌}
use Rattle.slots.specs.PairLaws.{turn_ends, turn_stops, turn_turn}
use Rattle.slots.proofs.turn.Goals as goal

pub returns-then-v-root : goal.returns-then-v-root
returns-then-v-root c =
    let a = c.args in
    turn_ends a.root.0 a.hit.0 a.slot.0 a.links.now c.loop.links c.loop.v c.loop.k _ c.loop.invariant c.if-v-root.true

pub loop-preserved : goal.loop-preserved
loop-preserved c =
    let a = c.args in
    let left : a.slot.0 - c.loop.counter - 1 ≡ a.slot.0 - (c.loop.counter + 1) = omega arith in
    rw left
    at (turn_turn a.root.0 a.hit.0 a.slot.0 a.links.now c.loop.links c.loop.v c.loop.k _ c.loop.invariant c.if-v-root.false (omega arith))

pub returns-else-v-root : goal.returns-else-v-root
returns-else-v-root c =
    let a = c.args in
    turn_stops a.root.0 a.hit.0 a.slot.0 a.links.now c.loop.links c.loop.v c.loop.k _ c.loop.invariant (omega arith)
