-- Each turn copies one number more.
use Rattle.std.proofs.Common.{◌<◌, arith, get_or-take, length-take-le}
use Rattle.filling.specs.FillLaws.{numbers_turn, numbers_end}
use Rattle.filling.proofs.copy_numbers.Goals as goal

pub loop-i-preserved : goal.loop-i-preserved
loop-i-preserved c =
    let a = c.args in
    let below : c.loop-i.i < a.count = omega (arith, length-take-le a.count a.values.now c.requires.count_in_bounds) in
    rw get_or-take (numbers_turn a.values.now a.count a.room.now _ _ below c.loop-i.invariant)

pub returns : goal.returns
returns c =
    let a = c.args in
    numbers_end a.values.now a.count a.room.now _ _
    (omega (arith, length-take-le a.count a.values.now c.requires.count_in_bounds)) c.loop-i.invariant
