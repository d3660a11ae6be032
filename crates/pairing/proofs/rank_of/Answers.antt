-- The place that `position` finds is the rank.
use Rattle.std.proofs.Common.{◌∙◌, ap, take, length-take-le, eqb, rules, tests, ℕ, Option}
use Rattle.std.specs.Option.{unwrap_or}
use Rattle.std.proofs.lemmas.Iterator.{YieldsList-from_slice}
use Rattle.std.proofs.lemmas.Iterator.Search.{position_from_yields_List}
use Rattle.pairing.specs.PairLaws.{rank_place}
use Rattle.pairing.proofs.rank_of.Goals as goal

pub returns-clause-result_value : goal.returns-clause-result_value
returns-clause-result_value c =
    let a = c.args in
    let run = c.position-found in
    let found =
    position_from_yields_List (λ x. eqb x a.t.0) _ _ run.result run.ensures.ran
    (YieldsList-from_slice (take a.trees a.ts.now) cc) (λ x b q k. search (rules, tests))
    in
    c.unwrap_or.ensures ∙ ap (λ (r : Option ℕ). unwrap_or r a.trees) found ∙ rank_place _ _ _ (length-take-le a.trees a.ts.now c.requires.places)
