-- `matching::augment` meets its contract. Assumes nothing.
use Rattle.std.proofs.Common.{ℕ, ◌<◌, ◌≡◌, List, arith, ltb}
use Rattle.bits.specs.Bit.{bit}
use Rattle.goals.specs.Over.{next_over}
use Rattle.graph.specs.Rank.{cost_at}
use Rattle.matching.specs.Tables.{Tables, tables}
use Rattle.matching.specs.Build.{goal_cost, Augmentable}
use Rattle.matching.specs.AugmentSteps.{Compared, augmented_none, augmented_off, pair_able, augmented_on}
use Rattle.matching.proofs.augment.Goals as goal

-- What the steps before the exploration have found: the cheapest spare rank in no pair, and the costs.
compared :
    {t slots low weight trees spares : ℕ} {cost ts ss : List ℕ} {b : Tables} {all low' high least : ℕ} (live : ℕ)
    → Augmentable t slots low weight trees spares ts ss b → ((j : ℕ) → bit all j ≡ ltb j trees)
    → low' ≡ next_over low spares all b.cols → high ≡ cost_at cost ts t → high < 4294967296 → least ≡ goal_cost spares cost ss low'
    → Compared t slots low live weight trees spares cost ts ss b all low' high least
compared live able whole low_is high_is high_small least_is =
    record { able = able; whole = whole; low_is = low_is; high_is = high_is; high_small = high_small; least_is = least_is }

pub returns-then-high-goal_cost : goal.returns-then-high-goal_cost
returns-then-high-goal_cost c =
    let a = c.args in
    let small : c.cost_at-high.result < 4294967296 = omega arith in
    let b = tables a.cols.now a.words.now a.links.now a.spare.now a.slot.now in
    let known =
    compared {b = b} a.at.live c.requires c.below.ensures c.first_over-low.ensures c.cost_at-high.ensures small
    c.goal_cost.ensures
    in
    augmented_none known c.if-high-goal_cost.true

pub returns-then-high-least : goal.returns-then-high-least
returns-then-high-least c =
    let a = c.args in
    let small : c.cost_at-high.result < 4294967296 = omega arith in
    let b = tables a.cols.now a.words.now a.links.now a.spare.now a.slot.now in
    let known =
    compared {b = b} a.at.live c.requires c.below.ensures c.first_over-low.ensures c.cost_at-high.ensures small
    c.goal_cost.ensures
    in
    augmented_off known c.if-high-goal_cost.false c.explore-live.ensures c.goal_over-goal.ensures c.goal_cost-least.ensures
    c.if-high-least.true

pub pair-requires : goal.pair-requires
pair-requires c =
    let a = c.args in
    let small : c.cost_at-high.result < 4294967296 = omega arith in
    let b = tables a.cols.now a.words.now a.links.now a.spare.now a.slot.now in
    let known =
    compared {b = b} a.at.live c.requires c.below.ensures c.first_over-low.ensures c.cost_at-high.ensures small
    c.goal_cost.ensures
    in
    pair_able known c.if-high-goal_cost.false c.explore-live.ensures c.goal_over-goal.ensures c.goal_cost-least.ensures
    c.if-high-least.false

pub returns : goal.returns
returns c =
    let a = c.args in
    let small : c.cost_at-high.result < 4294967296 = omega arith in
    let b = tables a.cols.now a.words.now a.links.now a.spare.now a.slot.now in
    let known =
    compared {b = b} a.at.live c.requires c.below.ensures c.first_over-low.ensures c.cost_at-high.ensures small
    c.goal_cost.ensures
    in
    augmented_on known c.if-high-goal_cost.false c.explore-live.ensures c.goal_over-goal.ensures c.goal_cost-least.ensures
    c.if-high-least.false c.pair.ensures c.with.result c.with.ensures
