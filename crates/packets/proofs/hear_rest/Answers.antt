-- `packets::hear_rest` meets its contract. Assumes nothing.
use Prim.Native.Nat.{ℕ, ◌<◌}
use native.Mathlib.Omega.{arith}
use mathlib.Core.Path.{ap, ◌∙◌}
use mathlib.Core.Option.{map}
use lib.ListN.{length, drop, length-set}
use Rattle.sheet.specs.Reading.{costs_at}
use Rattle.sheet_read.specs.ApplyLaws.{in_range_set}
use Rattle.replay.specs.Log.{replayed}
use Rattle.replay.specs.LogReading.{read_log}
use Rattle.replay.proofs.ReplayLaws.{stepped_small}
use Rattle.packets.specs.PacketLaws.{heard_set, packet_inside, packet_within, hear_refused, hear_turn, hear_end}
use Rattle.packets.proofs.hear_rest.Goals as goal

pub returns-in_default : goal.returns-in_default
returns-in_default c = hear_refused _ _ c.loop-at.at _ _ c.loop-at-test.true c.in_default.ensures c.loop-at.invariant.told

-- The packet's link is in the job.
pub bounds-costs-place : goal.bounds-costs-place
bounds-costs-place c = omega (arith, packet_inside _ _ _ c.in-Some.packet c.in-Some.ensures)

pub step_cost-requires : goal.step_cost-requires
step_cost-requires c = c.loop-at.invariant.small _ (packet_inside _ _ _ c.in-Some.packet c.in-Some.ensures)

pub bounds-costs-place-in-loop-at : goal.bounds-costs-place-in-loop-at
bounds-costs-place-in-loop-at c = omega (arith, packet_inside _ _ _ c.in-Some.packet c.in-Some.ensures)

pub loop-at-smaller : goal.loop-at-smaller
loop-at-smaller c = omega (arith, packet_within _ _ _ c.in-Some.packet c.in-Some.ensures)

pub loop-at-preserved : goal.loop-at-preserved
loop-at-preserved c =
    let a = c.args in
    let l = c.loop-at in
    let p = c.in-Some.packet in
    let new = c.step_cost.ensures in
    let within : p.edge < a.edges = packet_inside _ _ _ p c.in-Some.ensures in
    let place : p.edge < length l.costs = omega (arith, l.invariant.places) in
    let low = stepped_small p.up (costs_at l.costs p.edge) (l.invariant.small p.edge within) in
    record {
      places = length-set l.costs p.edge _ ∙ l.invariant.places;
      small = in_range_set a.edges l.costs p.edge c.step_cost.result place (omega (arith, new, low)) l.invariant.small;
      told =
          ap (λ (c : ℕ → ℕ). map (λ qs. replayed qs c) (read_log a.edges (drop p.next a.log.now)))
          (heard_set l.costs p.edge p.up c.step_cost.result place new)
          ∙ hear_turn _ _ l.at p c.in-Some.ensures (costs_at l.costs)
          ∙ l.invariant.told;
    }

pub returns : goal.returns
returns c = hear_end _ _ c.loop-at.at (costs_at c.loop-at.costs) c.loop-at-test.false ∙ c.loop-at.invariant.told
