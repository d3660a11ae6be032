use Rattle.std.proofs.Common.{sym, ◌∙◌, length-set, arith}
use Rattle.codec.specs.Numbers.{loaded_at}
use Rattle.codec.specs.ListLaws.{number_turn}
use Rattle.codec.specs.NumberLaws.{taken_value, divided_stands, divided_next}
use Rattle.loops.specs.ScanLaws.{scan_end}
use Rattle.codec.proofs.read_numbers.Goals as goal

pub read_known-n-requires : goal.read_known-n-requires
read_known-n-requires c = divided_stands _ c.loop-i.next _ c.loop-i.invariant.2 (omega arith)

pub loop-i-preserved : goal.loop-i-preserved
loop-i-preserved c =
    let l = c.loop-i in
    let n = c.read_known-n in
    let read = sym (taken_value c.args.s.now l.next n.result n.ensures) in
    let turn = number_turn _ _ l.i (loaded_at l.next l.values) _ l.invariant.0 c.loop-i-test.true n.result read in (
      turn,
      length-set l.values l.i n.result.value ∙ l.invariant.1,
      divided_next _ l.next _ l.invariant.2 _ n.result (omega arith) n.ensures,
    )

pub returns : goal.returns
returns c = sym (scan_end _ _ _ _ c.loop-i-test.false) ∙ c.loop-i.invariant.0
