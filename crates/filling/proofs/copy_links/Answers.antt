-- Each turn copies the numbers of one link more; there are 256 links.
use Rattle.std.proofs.Common.{◌<◌, ◌≤◌, length, arith, get_or-take, length-take-le}
use Rattle.records.specs.Records.{zero_link}
use Rattle.filling.specs.FillLaws.{links_turn, links_end}
use Rattle.filling.proofs.copy_links.Goals as goal

pub loop-e-preserved : goal.loop-e-preserved
loop-e-preserved c =
    let a = c.args in
    let many : a.count ≤ length a.links = omega arith in
    let below : c.loop-e.e < a.count = omega (arith, length-take-le a.count a.links many) in
    simp (get_or-take a.count a.links c.loop-e.e zero_link below) (links_turn a.links a.count a.room.now many _ _ below c.loop-e.invariant)

pub returns : goal.returns
returns c =
    let a = c.args in
    let many : a.count ≤ length a.links = omega arith in
    links_end a.links a.count a.room.now many _ _ (omega (arith, length-take-le a.count a.links many)) c.loop-e.invariant
