-- `covering::undercuts` meets its contract. Assumes nothing.
use Prim.Native.Nat.{◌<◌}
use native.Mathlib.Omega.{arith}
use lib.ListN.{get_or}
use Rattle.paths.specs.WordLaws.{lowest_below}
use Rattle.covering.proofs.LowLaws.{none_dearer, none_covered, lowest_edge, lowest_tells}
use Rattle.covering.proofs.undercuts.Goals as goal
use Rattle.covering.proofs.undercuts.Goals.{After-lowest}

-- the lowest rank that is covered, and its edge
some : (c : After-lowest) → 0 < c.covered-over.result
some c = omega (arith, c.if-over-eq0.false)

below : (c : After-lowest) → c.lowest.result < 64
below c =
    let w = c.covered-over in
    lowest_below w.result (some c) w.type_inv c.lowest.result c.lowest.ensures

edge_below : (c : After-lowest) → get_or c.args.ts.now c.lowest.result 0 < 256
edge_below c =
    lowest_edge c.requires.4 c.args.e.0 c.covered-over.result c.covered-over.ensures (some c) c.covered-over.type_inv
    c.lowest.result
    c.lowest.ensures

pub returns-then-top-x : goal.returns-then-top-x
returns-then-top-x c =
    none_dearer c.requires.4 c.args.e.0 c.args.top c.requires.3 c.if-top-x.true

pub returns-then-over-eq0 : goal.returns-then-over-eq0
returns-then-over-eq0 c =
    none_covered c.requires.4 c.args.e.0 c.covered-over.result c.covered-over.ensures c.if-over-eq0.true

pub bounds-ts-lowest : goal.bounds-ts-lowest
bounds-ts-lowest c =
    omega (arith, below (goal.at.bounds-ts-lowest c).After-lowest)

pub bounds-cost-t : goal.bounds-cost-t
bounds-cost-t c =
    edge_below (goal.at.bounds-cost-t c).After-lowest

pub returns : goal.returns
returns c =
    lowest_tells c.requires.4 c.args.e.0 c.covered-over.result c.covered-over.ensures
    (some (goal.at.returns c).After-lowest) c.covered-over.type_inv c.lowest.result
    c.lowest.ensures
