use Prim.Native.Nat.{◌<◌}
use native.Mathlib.Omega.{arith}
use mathlib.Core.Path.{◌≡◌}
use mathlib.Core.Bool.{true}
use lib.ListN.{get_or}
use Rattle.bits.specs.Bit.{bit}
use Rattle.paths.specs.Arrays.{held}
use Rattle.paths.specs.WordLaws.{lowest_below, word_less}
use Rattle.paths.specs.ExpandLaws.{trying_rank, trying_turn, trying_end}
use Rattle.paths.proofs.expand.Goals as goal
use Rattle.paths.proofs.expand.Goals.{After-lowest-k}

-- the lowest rank that is left, and the edge that it names
rank_below : (c : After-lowest-k) → c.lowest-k.result < 64
rank_below c =
    let l = c.loop-untried in
    lowest_below l.untried (omega arith) l.invariant.1.fits c.lowest-k.result c.lowest-k.ensures

rank_named : (c : After-lowest-k) → bit c.args.word c.lowest-k.result ≡ true
rank_named c =
    let l = c.loop-untried in
    trying_rank _ _ _ _ _ l.untried _ l.invariant.1 (omega arith) c.lowest-k.result c.lowest-k.ensures

edge_below : (c : After-lowest-k) → get_or c.args.ranks.now c.lowest-k.result 0 < 256
edge_below c = c.requires.named.edge c.lowest-k.result (rank_named c)

pub bounds-ranks-k : goal.bounds-ranks-k
bounds-ranks-k c =
    omega (arith, rank_below (goal.at.bounds-ranks-k c).After-lowest-k)

pub bounds-end1-at : goal.bounds-end1-at
bounds-end1-at c =
    edge_below (goal.at.bounds-end1-at c).After-lowest-k

pub bounds-end2-at : goal.bounds-end2-at
bounds-end2-at c =
    edge_below (goal.at.bounds-end2-at c).After-lowest-k

pub grow-next-requires : goal.grow-next-requires
grow-next-requires c =
    let l = c.loop-untried in
    record {
      few = omega (
        arith,
        l.invariant.1.few,
        c.requires.found_bound.0,
        c.lowest-k.ensures,
        rank_below
            (goal.at.grow-next-requires c).After-lowest-k,
      );
      first = c.requires.named.first c.lowest-k.result (rank_named (goal.at.grow-next-requires c).After-lowest-k);
      second = c.requires.named.second c.lowest-k.result (rank_named (goal.at.grow-next-requires c).After-lowest-k);
      rank = rank_below (goal.at.grow-next-requires c).After-lowest-k;
      places = l.invariant.0;
    }

pub loop-untried-smaller : goal.loop-untried-smaller
loop-untried-smaller c =
    let l = c.loop-untried in
    word_less l.untried (omega arith) l.invariant.1.fits c.lowest-k.result c.lowest-k.ensures
    c.without_lowest-untried.result c.without_lowest-untried.ensures

pub loop-untried-preserved : goal.loop-untried-preserved
loop-untried-preserved c =
    let l = c.loop-untried in
    let a = c.args in (
      c.grow-next.ensures.places,
      trying_turn a.word a.ranks.now a.end1.now a.end2.now _ l.untried (held l.next l.mask) l.invariant.1 (omega arith)
          c.lowest-k.result c.lowest-k.ensures c.without_lowest-untried.result _ (omega arith)
          c.without_lowest-untried.ensures c.grow-next.ensures.state,
    )

pub returns-clause-state : goal.returns-clause-state
returns-clause-state c =
    let l = c.loop-untried in
    let a = c.args in
    trying_end a.word a.ranks.now a.end1.now a.end2.now _ l.untried _ l.invariant.1 c.loop-untried-test.false
