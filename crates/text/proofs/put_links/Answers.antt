-- One line more each turn.
use Rattle.std.proofs.Common.{ℕ, arith, refl, List, get_or}
use Rattle.loops.specs.Loop.{gather}
use Rattle.codec.specs.WritingLaws.{put_more, put_room}
use Rattle.records.specs.Records.{zero_link}
use Rattle.text.specs.Text.{cost_line}
use Rattle.text.proofs.TextLaws.{cost_most, lines_most, lines_next}
use Rattle.text.proofs.put_links.Goals as goal

pub loop-e-init : goal.loop-e-init
unfolding gather
loop-e-init c = record { next = omega arith; area = refl }

pub put_costs-next-requires : goal.put_costs-next-requires
put_costs-next-requires c =
    let line : ℕ → List ℕ = λ e. cost_line e (get_or c.args.links e zero_link).cost (get_or c.args.costs e 0) in
    put_room _ _ _ _ _ _ c.loop-e.invariant (omega (arith, lines_most 63 c.loop-e.e line (λ e. cost_most e _ _)))

pub loop-e-preserved : goal.loop-e-preserved
loop-e-preserved c =
    let line : ℕ → List ℕ = λ e. cost_line e (get_or c.args.links e zero_link).cost (get_or c.args.costs e 0) in
    rw (lines_next c.loop-e.e line)
    (put_more _ _ _ _ _ _ _ _ c.loop-e.invariant c.put_costs-next.ensures.next c.put_costs-next.ensures.area)
