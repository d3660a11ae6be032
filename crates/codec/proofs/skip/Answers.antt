use Rattle.std.proofs.Common.{◌+◌, ◌-◌, sym, ap, ◌∙◌}
use Rattle.loops.specs.Loop.{scan}
use Rattle.loops.specs.ScanLaws.{scan_turn, scan_end}
use Rattle.leb128.specs.declared.Number.{Number}
use Rattle.codec.specs.Numbers.{step}
use Rattle.codec.proofs.skip.Goals as goal

pub loop-preserved : goal.loop-preserved
loop-preserved c =
    let s = c.args.s.now in
    let i = c.loop.counter in
    ap (scan (step s) (c.args.count - (i + 1)) (i + 1)) (ap (λ (t : Number). t.next) c.number_at-next.ensures) ∙
    sym (scan_turn (step s) c.args.count i c.loop.next c.loop-test.true) ∙ c.loop.invariant

pub returns : goal.returns
returns c = sym (scan_end _ _ _ _ c.loop-test.false) ∙ c.loop.invariant
