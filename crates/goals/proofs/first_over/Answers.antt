-- `goals::first_over` meets its contract. Assumes nothing.
use Rattle.std.proofs.Common.{◌≡◌, true, false, ◌∙◌, arith, rules, tests}
use Rattle.std.proofs.lemmas.Iterator.{first_from_Range}
use Rattle.goals.specs.Over.{meets}
use Rattle.goals.specs.OverLaws.{over_search}
use Rattle.goals.proofs.first_over.Goals as goal

pub returns : goal.returns
returns c =
    let a = c.args in
    c.unwrap_or.ensures
    ∙ over_search a.from a.spares a.trees a.cols.now (omega arith) c.find.result
    (first_from_Range _ _ _ _ (λ s. meets a.trees a.cols.now s ≡ true) (λ s. meets a.trees a.cols.now s ≡ false) c.find.ensures.ran
    (λ x q k. search (rules, tests)) (λ x q k. (search (rules, tests), search (rules, tests))))
