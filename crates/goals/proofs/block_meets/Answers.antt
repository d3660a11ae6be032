-- `goals::block_meets` meets its contract. Assumes nothing.
use Rattle.std.proofs.Common.{arith, rules, tests}
use Rattle.goals.specs.OverLaws.{block_pass}
use Rattle.goals.proofs.block_meets.Goals as goal

pub returns : goal.returns
returns c none =
    let a = c.args in
    block_pass a.from a.from a.trees a.cols.now a.from (omega arith) (omega arith) (λ x l m. absurd (omega arith)) c.united.result
    c.both.result c.united.ensures c.both.ensures (search (rules, tests))
