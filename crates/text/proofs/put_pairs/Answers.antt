-- One line more each turn.
use Rattle.std.proofs.Common.{ℕ, ◌+◌, ◌*◌, arith, refl, List, get_or}
use Rattle.loops.specs.Loop.{gather}
use Rattle.codec.specs.WritingLaws.{put_more, put_room}
use Rattle.text.specs.Text.{pair_line}
use Rattle.text.proofs.TextLaws.{pair_most, lines_most, lines_next}
use Rattle.text.proofs.put_pairs.Goals as goal

pub loop-i-init : goal.loop-i-init
unfolding gather
loop-i-init c = record { next = omega arith; area = refl }

pub put_pair-next-requires : goal.put_pair-next-requires
put_pair-next-requires c =
    let line : ℕ → List ℕ = λ i. pair_line (get_or c.args.pairs (2 * i) 0) (get_or c.args.pairs (2 * i + 1) 0) in
    put_room _ _ _ _ _ _ c.loop-i.invariant (omega (arith, lines_most 47 c.loop-i.i line (λ i. pair_most _ _)))

pub loop-i-preserved : goal.loop-i-preserved
loop-i-preserved c =
    let line : ℕ → List ℕ = λ i. pair_line (get_or c.args.pairs (2 * i) 0) (get_or c.args.pairs (2 * i + 1) 0) in
    rw (lines_next c.loop-i.i line)
    (put_more _ _ _ _ _ _ _ _ c.loop-i.invariant c.put_pair-next.ensures.next c.put_pair-next.ensures.area)
