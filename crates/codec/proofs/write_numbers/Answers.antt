use Rattle.std.proofs.Common.{List, ℕ, ◌+◌, refl, sym, subst, arith}
use mathlib.Core.List.{flat_map}
use Rattle.loops.specs.Loop.{gather}
use Rattle.codec.specs.Numbers.{Put}
use Rattle.codec.specs.ListLaws.{bytes_more, size_more, size_within}
use Rattle.codec.specs.WritingLaws.{put_more, put_room}
use Rattle.codec.proofs.write_numbers.Goals as goal

pub loop-i-init : goal.loop-i-init
unfolding gather flat_map
loop-i-init c = record { next = omega arith; area = refl }

pub write_short-next-requires : goal.write_short-next-requires
write_short-next-requires c =
    let vs = c.args.values.now in
    let within = size_within vs (c.loop-i.i + 1) c.args.count (omega arith) in
    put_room _ _ _ _ _ _ c.loop-i.invariant (omega (arith, c.requires.values_in_bounds, size_more vs c.loop-i.i, within))

pub loop-i-preserved : goal.loop-i-preserved
loop-i-preserved c =
    let w = c.write_short-next in
    let put = put_more _ _ _ _ _ _ _ _ c.loop-i.invariant w.ensures.next w.ensures.area in
    let more = sym (bytes_more c.args.values.now c.loop-i.i) in
    subst (λ (bytes : List ℕ). Put c.args.area.now c.args.at bytes w.result w.new.area) more put
