-- `violations::after_step` meets its contract: spares that meet a tree link at the lower of its two costs and tree ranks that meet a
-- spare at the higher of its two costs are all that change. Assumes nothing.
use Prim.Native.Nat.{◌+◌, ◌*◌, ◌<◌, ◌≤◌}
use native.Mathlib.Omega.{arith}
use mathlib.Core.Path.{◌≡◌, sym, ap, ◌∙◌, fun_ext}
use lib.ListN.{set}
use Rattle.loops.specs.Loop.{first}
use Rattle.violations.specs.Counting.{violations_at}
use Rattle.violations.specs.CountingLaws.{next_within, violations_few}
use Rattle.violations.specs.StepLaws.{countable_joins, across_edge, step_risen, step_fallen, tree_below}
use Rattle.violations.specs.StepLaws.{tree_higher, tree_lower, spare_higher, spare_lower, idle_step}
use Rattle.violations.proofs.after_step.Goals as goal
use Rattle.violations.proofs.after_step.Goals.{After-lowest-k, After-ranks_within, After-ranks_within-then-is_spare}
use Rattle.violations.proofs.after_step.Goals.{After-spares_at, After-spares_at-then-is_tree, Start}

-- the violations after the step are few
after_few : (s : Start) →
    let a = s.args in
    violations_at a.edges a.ranks.now a.end1.now a.end2.now (set a.cost.now a.edge.0 a.new) a.mark.now a.mask.now ≤ a.edges * 64
after_few s =
    let a = s.args in
    violations_few a.ranks.now a.end1.now a.end2.now (set a.cost.now a.edge.0 a.new) a.mark.now a.mask.now a.edges

-- ---- a tree link

-- its rank is the only one between its ends
rank_below : (k : After-lowest-k) → k.lowest-k.result < 64
rank_below k =
    tree_below _ _ _ _ _ _ _ k.requires.by_index.1 _ _ _ _ _ k.requires.step_of
    (sym k.is_tree.ensures ∙ k.if-is_tree.true) k.lowest-k.result
    (k.lowest-k.ensures ∙ ap (first 64) (fun_ext k.between_ends.ensures))

pub spares_at-requires : goal.spares_at-requires
spares_at-requires c =
    let h = c.requires.by_index.1 in
    (h.judged.links, rank_below (goal.at.spares_at-requires c).After-lowest-k, countable_joins _ _ _ _ _ _ _ h)

tree_risen : (c : After-spares_at) →
    let a = c.args in
    a.before + c.spares_at.result ≡
    (violations_at a.edges a.ranks.now a.end1.now a.end2.now (set a.cost.now a.edge.0 a.new) a.mark.now a.mask.now)
tree_risen c =
    tree_higher _ _ _ _ _ _ _ c.requires.by_index.1 _ _ _ _ _ c.requires.step_of
    (sym c.is_tree.ensures ∙ c.if-is_tree.true) c.lowest-k.result
    (c.lowest-k.ensures ∙ ap (first 64) (fun_ext c.between_ends.ensures))
    c.spares_at.result (omega arith) c.spares_at.ensures

pub overflow_add-result : goal.overflow_add-result
overflow_add-result c =
    omega (
      arith,
      tree_risen (goal.at.overflow_add-result c).After-spares_at,
      c.requires.by_index.1.judged.links,
      after_few (goal.at.overflow_add-result c).Start,
    )

pub returns-then-old-new : goal.returns-then-old-new
returns-then-old-new c =
    tree_risen (goal.at.returns-then-old-new c).After-spares_at

pub spares_at-requires-then-is_tree : goal.spares_at-requires-then-is_tree
spares_at-requires-then-is_tree c =
    let h = c.requires.by_index.1 in
    (h.judged.links, rank_below (goal.at.spares_at-requires-then-is_tree c).After-lowest-k, countable_joins _ _ _ _ _ _ _ h)

tree_fallen : (c : After-spares_at-then-is_tree) →
    let a = c.args in
    a.before ≡ (violations_at a.edges a.ranks.now a.end1.now a.end2.now (set a.cost.now a.edge.0 a.new) a.mark.now
    a.mask.now) + c.spares_at-then-is_tree.result
tree_fallen c =
    tree_lower _ _ _ _ _ _ _ c.requires.by_index.1 _ _ _ _ _ c.requires.step_of
    (sym c.is_tree.ensures ∙ c.if-is_tree.true) c.lowest-k.result
    (c.lowest-k.ensures ∙ ap (first 64) (fun_ext c.between_ends.ensures))
    c.spares_at-then-is_tree.result (omega arith) c.spares_at-then-is_tree.ensures

pub overflow_sub-result : goal.overflow_sub-result
overflow_sub-result c =
    omega (arith, tree_fallen (goal.at.overflow_sub-result c).After-spares_at-then-is_tree)

pub returns-then-is_tree : goal.returns-then-is_tree
returns-then-is_tree c =
    omega (arith, tree_fallen (goal.at.returns-then-is_tree c).After-spares_at-then-is_tree)

-- ---- a spare

pub ranks_within-requires-clause-by_index : goal.ranks_within-requires-clause-by_index
ranks_within-requires-clause-by_index c =
    across_edge _ _ _ _ _ _ _ c.requires.by_index.1 _ _

spare_fallen :
    (c : After-ranks_within) →
    let a = c.args in
    a.before + c.ranks_within.result ≡
    (violations_at a.edges a.ranks.now a.end1.now a.end2.now (set a.cost.now a.edge.0 a.new) a.mark.now a.mask.now)
spare_fallen c =
    spare_lower _ _ _ _ _ _ _ c.requires.by_index.1 _ _ _ _ _ c.requires.step_of
    (sym c.is_spare.ensures ∙ c.if-is_spare.true) c.ranks_within.result (omega arith)
    (c.ranks_within.ensures _ (next_within _ _
    (step_fallen _ _ _ _ _ _ _ c.requires.by_index.1 _ _ _ _ _ c.requires.step_of (omega arith))))

pub overflow_add-result-then-new-old : goal.overflow_add-result-then-new-old
overflow_add-result-then-new-old c =
    omega (
      arith,
      spare_fallen (goal.at.overflow_add-result-then-new-old c).After-ranks_within,
      c.requires.by_index.1.judged.links,
      after_few (goal.at.overflow_add-result-then-new-old c).Start,
    )

pub returns-then-new-old : goal.returns-then-new-old
returns-then-new-old c =
    spare_fallen (goal.at.returns-then-new-old c).After-ranks_within

pub ranks_within-requires-then-is_spare-clause-by_index : goal.ranks_within-requires-then-is_spare-clause-by_index
ranks_within-requires-then-is_spare-clause-by_index c =
    across_edge _ _ _ _ _ _ _ c.requires.by_index.1 _ _

spare_risen :
    (c : After-ranks_within-then-is_spare) →
    let a = c.args in
    a.before ≡ (violations_at a.edges a.ranks.now a.end1.now a.end2.now (set a.cost.now a.edge.0 a.new) a.mark.now
    a.mask.now) + c.ranks_within-then-is_spare.result
spare_risen c =
    spare_higher _ _ _ _ _ _ _ c.requires.by_index.1 _ _ _ _ _ c.requires.step_of
    (sym c.is_spare.ensures ∙ c.if-is_spare.true) c.ranks_within-then-is_spare.result (omega arith)
    (c.ranks_within-then-is_spare.ensures _
    (next_within _ _ (step_risen _ _ _ _ _ _ _ c.requires.by_index.1 _ _ _ _ _ c.requires.step_of (omega arith))))

pub overflow_sub-result-then-is_spare : goal.overflow_sub-result-then-is_spare
overflow_sub-result-then-is_spare c =
    omega (arith, spare_risen (goal.at.overflow_sub-result-then-is_spare c).After-ranks_within-then-is_spare)

pub returns-then-is_spare : goal.returns-then-is_spare
returns-then-is_spare c =
    omega (arith, spare_risen (goal.at.returns-then-is_spare c).After-ranks_within-then-is_spare)

-- ---- an unplugged link

pub returns : goal.returns
returns c =
    idle_step _ _ _ _ _ _ _ c.requires.by_index.1 _ _ _ _ _ c.requires.step_of
    (sym c.is_tree.ensures ∙ c.if-is_tree.false) (sym c.is_spare.ensures ∙ c.if-is_spare.false)
