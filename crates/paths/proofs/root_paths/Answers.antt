use Prim.Native.Nat.{◌+◌, ◌-◌, ◌<◌}
use native.Mathlib.Omega.{arith}
use mathlib.Core.Path.{◌≡◌}
use Rattle.adjacency.specs.AdjacencyLaws.{adjacency_start}
use Rattle.paths.specs.WordLaws.{lowest_below}
use Rattle.paths.specs.RootLaws.{rounds_start, rounds_last, rounds_more, rounds_end}
use Rattle.paths.proofs.root_paths.Goals as goal
use Rattle.paths.proofs.root_paths.Goals.{After-lowest}

-- the lowest node that waits
node_below : (c : After-lowest) → c.lowest.result < 64
node_below c = lowest_below c.less-waiting.result (omega arith) (omega arith) c.lowest.result c.lowest.ensures

pub adjacency-requires-clause-adjacency : goal.adjacency-requires-clause-adjacency
adjacency-requires-clause-adjacency c =
    adjacency_start _ _ _

pub loop-init : goal.loop-init
loop-init c =
    let a = c.args in
    let all : a.nodes - 0 ≡ a.nodes = omega arith in
    (c.adjacency.ensures, rw all (rounds_start a.nodes a.count a.ranks.now a.end1.now a.end2.now))

pub returns-then-waiting-eq0 : goal.returns-then-waiting-eq0
returns-then-waiting-eq0 c =
    let l = c.loop in
    let a = c.args in
    rounds_last a.nodes a.count a.ranks.now a.end1.now a.end2.now (a.nodes - l.counter) l.front l.done l.mask l.invariant.1
    (omega arith) c.less-waiting.result c.less-waiting.ensures c.if-waiting-eq0.true

pub bounds-adj-at : goal.bounds-adj-at
bounds-adj-at c =
    node_below (goal.at.bounds-adj-at c).After-lowest

pub bounds-mask-at : goal.bounds-mask-at
bounds-mask-at c =
    node_below (goal.at.bounds-mask-at c).After-lowest

pub with-done-requires : goal.with-done-requires
with-done-requires c =
    node_below (goal.at.with-done-requires c).After-lowest

pub loop-preserved : goal.loop-preserved
loop-preserved c =
    let l = c.loop in
    let a = c.args in
    let left : a.nodes - (l.counter + 1) ≡ a.nodes - l.counter - 1 = omega arith in (
      l.invariant.0,
      rw left (rounds_more a.nodes a.count a.ranks.now a.end1.now a.end2.now (a.nodes - l.counter) l.front l.done l.mask
          l.invariant.1 (omega arith) c.less-waiting.result c.less-waiting.ensures (omega arith) (omega arith)
          c.lowest.result c.lowest.ensures c.requires _ l.invariant.0 c.less-word.result c.less-word.ensures
          c.expand-front.result c.with-done.result _ c.expand-front.ensures.state c.expand-front.ensures.places
          c.with-done.ensures),
    )

pub returns : goal.returns
returns c =
    let l = c.loop in
    let a = c.args in
    rounds_end a.nodes a.count a.ranks.now a.end1.now a.end2.now (a.nodes - l.counter) l.front l.done l.mask l.invariant.1
    (omega arith)
