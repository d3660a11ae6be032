use Rattle.std.proofs.Common.{◌≡◌, ◌+◌, length, refl, ap, arith}
use mathlib.Core.List.{flat_map}
use Rattle.loops.specs.Loop.{gather}
use Rattle.frame.specs.Arrays.{columns}
use Rattle.codec.specs.WritingLaws.{put_more, put_room}
use Rattle.job_write.specs.Groups.{group}
use Rattle.job_write.specs.WritingLaws.{groups_more, groups_size, groups_within, frame_grouped}
use Rattle.job_write.proofs.put_frame.Goals as goal

pub loop-i-init : goal.loop-i-init
unfolding gather flat_map
loop-i-init c = record { next = omega arith; area = refl }

pub write_numbers-next-requires-clause-values_in_bounds : goal.write_numbers-next-requires-clause-values_in_bounds
write_numbers-next-requires-clause-values_in_bounds c =
    let held = columns c.args.end1.now c.args.end2.now c.args.cost.now c.args.mark.now in
    let groups = group c.args.nodes c.args.edges held in
    let more = groups_size groups c.loop-i.i _ c.group_at-g.ensures.listed in
    let within = groups_within groups (c.loop-i.i + 1) (c.args.edges + 1) (omega arith) in
    put_room _ _ _ _ _ _ c.loop-i.invariant
    (omega (arith, c.requires.mark_in_bounds, ap length (frame_grouped c.args.nodes c.args.edges held), more, within))

pub loop-i-preserved : goal.loop-i-preserved
loop-i-preserved c =
    let held = columns c.args.end1.now c.args.end2.now c.args.cost.now c.args.mark.now in
    let w = c.write_numbers-next in
    rw (groups_more (group c.args.nodes c.args.edges held) c.loop-i.i _ c.group_at-g.ensures.listed)
    (put_more _ _ _ _ _ _ _ _ c.loop-i.invariant w.ensures.next w.ensures.area)

pub returns : goal.returns
returns c =
    let held = columns c.args.end1.now c.args.end2.now c.args.cost.now c.args.mark.now in
    let all : c.loop-i.i ≡ c.args.edges + 1 = omega arith in
    rw (← frame_grouped c.args.nodes c.args.edges held, ← all) c.loop-i.invariant.area
