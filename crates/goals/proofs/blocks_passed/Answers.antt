-- `goals::blocks_passed` meets its contract. Assumes nothing.
use Rattle.std.proofs.Common.{◌+◌, ◌*◌, arith, rules, tests}
use Rattle.std.proofs.lemmas.Iterator.{first_from_Range}
use Rattle.goals.specs.OverLaws.{PassedOver, blocks_search}
use Rattle.goals.proofs.blocks_passed.Goals as goal

pub returns : goal.returns
returns c =
    let a = c.args in
    rw c.unwrap_or.ensures
    (blocks_search a.from a.spares a.trees a.cols.now _ (omega arith) (λ b. Unit {0}) c.find.result
    (first_from_Range _ _ _ _ (λ b. Unit {0}) (λ b. PassedOver (a.from + 8 * b) (a.from + 8 * b + 8) a.trees a.cols.now)
    c.find.ensures.ran (λ x q k. tt) (λ x q k. (search (rules, tests), search (rules, tests)))))
