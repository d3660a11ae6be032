-- Each turn takes one tree rank more.
use Rattle.matching.specs.Tables.{tables}
use Rattle.matching.specs.BuildSteps.{building_start, building_turn}
use Rattle.matching.proofs.build.Goals as goal

pub loop-t-init : goal.loop-t-init
loop-t-init c = building_start c.requires

pub loop-t-preserved : goal.loop-t-preserved
loop-t-preserved c =
    let e = c.augment-at.new in
    building_turn c.loop-t.invariant {b' = tables e.cols e.words e.links e.spare e.slot} c.loop-t-test.true
    c.augment-at.ensures
