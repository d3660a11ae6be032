-- `goals::united` meets its contract. Assumes nothing.
use Rattle.std.proofs.Common.{◌+◌, arith}
use Rattle.std.proofs.lemmas.List.Edits.{get_or-between}
use Rattle.goals.specs.OverLaws.{united_none, united_turn}
use Rattle.goals.proofs.united.Goals as goal

pub loop-column-init : goal.loop-column-init
loop-column-init c =
    united_none c.args.from c.args.cols.now

pub loop-column-preserved : goal.loop-column-preserved
loop-column-preserved c =
    let a = c.args in
    let l = c.loop-column in
    let column = get_or-between a.cols.now a.from (a.from + 8) l.column-index 0 (omega arith) in
    united_turn a.from a.cols.now l.column-index l.w c.either-w.result l.invariant (rw column at c.either-w.ensures)
