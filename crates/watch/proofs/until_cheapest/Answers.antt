-- `watch::until_cheapest` meets its contract. Assumes nothing.
use native.Mathlib.Omega.{arith}
use Rattle.replay.proofs.Hearing.{heard_none}
use Rattle.packets.specs.Packets.{step_in}
use Rattle.packets.specs.PacketLaws.{packet_refused, packet_inside, packet_within, packet_rest}
use Rattle.violations.specs.Counting.{violations_by}
use Rattle.watch.specs.WatchLaws.{watched_none, priced_more, watched_more}
use Rattle.watch.proofs.until_cheapest.Goals as goal

pub loop-at-init : goal.loop-at-init
loop-at-init c = record { priced = c.requires.ranged_costs; heard = heard_none _ _ _ _; left = c.count_all-violations.ensures }

pub returns-in_err-packet : goal.returns-in_err-packet
returns-in_err-packet c =
    let l = c.loop-at in
    rw c.from_residual.ensures
    (watched_none _ l.invariant.heard l.invariant.left l.invariant.priced (packet_refused _ _ l.at c.loop-at-test.true c.in_err-packet.ensures))

-- The packet's link is in the job.
pub hear-violations-requires-clause-hears : goal.hear-violations-requires-clause-hears
hear-violations-requires-clause-hears c =
    let h = c.loop-at.invariant in
    record { priced = h.priced; inside = packet_inside _ _ _ _ c.in_ok-packet.ensures; before = h.left }

pub loop-at-smaller : goal.loop-at-smaller
loop-at-smaller c = omega (arith, packet_within _ _ _ c.in_ok-packet.packet c.in_ok-packet.ensures)

pub loop-at-preserved : goal.loop-at-preserved
loop-at-preserved c =
    let a = c.args in
    let l = c.loop-at in
    let h = l.invariant in
    let p = c.in_ok-packet.packet in
    let now = c.hear-violations in
    let (far, near) = packet_within _ _ l.at p c.in_ok-packet.ensures in
    let count = violations_by a.edges a.ranks.now a.end1.now a.end2.now a.mark.now a.mask.now in
    record {
      priced = priced_more a.edges l.cost now.new.cost (step_in p) h.priced now.ensures.costs now.ensures.places
          (packet_inside _ _ _ p c.in_ok-packet.ensures);
      heard = watched_more a.edges a.log.now count a.cost.now l.cost now.new.cost _ _ _ h.heard h.left (step_in p) p.next now.ensures.costs
          (λ none. omega (arith, none)) far near (packet_rest _ _ _ p c.in_ok-packet.ensures);
      left = now.ensures.violations;
    }
