-- `search::explore` meets its contract. Assumes nothing.
use mathlib.Core.Path.{sym, ◌∙◌}
use Rattle.search.specs.ExploreSteps.{begin_ready, root_ends, root_leads}
use Rattle.search.proofs.explore.Goals as goal

pub returns-then-has : goal.returns-then-has
returns-then-has c =
    let a = c.args in
    root_ends a.t.0 a.live a.ends a.words.now a.links.now c.requires c.with.result c.with.ensures
    (sym c.has.ensures ∙ c.if-has.true)

pub try_tree-requires : goal.try_tree-requires
try_tree-requires c =
    let a = c.args in
    begin_ready a.t.0 a.live a.ends a.words.now a.links.now c.requires c.with.result c.with.ensures

pub returns : goal.returns
returns c =
    let a = c.args in
    let r = c.try_tree in
    root_leads a.t.0 a.live a.ends a.words.now a.links.now c.requires c.with.result c.with.ensures
    (sym c.has.ensures ∙ c.if-has.false) r.new.words r.new.links r.result
    r.ensures
