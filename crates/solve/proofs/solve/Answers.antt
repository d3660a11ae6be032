-- `solve::solve` meets its contract: the spares that undercut are ranked and their columns written, and what is settled from these is
-- the job's answer. Assumes nothing.
use native.Mathlib.Omega.{arith}
use mathlib.Core.Path.{refl}
use Rattle.covering.proofs.LowLaws.{low_rank, low_rise, low_ends}
use Rattle.held.specs.HeldLaws.{some_node, few_nodes, few_links}
use Rattle.solve.specs.SolveLaws.{crossed, small_cost, solvable, answer_is, none_is}
use Rattle.solve.proofs.solve.Goals as goal

pub overflow_sub-trees : goal.overflow_sub-trees
overflow_sub-trees c = some_node c.requires.job.1

pub low_ranks-spares-requires : goal.low_ranks-spares-requires
low_ranks-spares-requires c =
    let h = c.requires.job.1 in record {
      arrays = crossed h;
      costs = (small_cost h, h.stored.mark_places);
    }

pub returns-then-spares-eq0-clause-answer : goal.returns-then-spares-eq0-clause-answer
returns-then-spares-eq0-clause-answer c = λ j h. none_is h c.low_ranks-spares.ensures c.if-spares-eq0.true c.args.pairs.now

pub columns-requires : goal.columns-requires
columns-requires c =
    let h = c.requires.job.1 in
    let r = c.low_ranks-spares.ensures in
    let x = crossed h in record {
      trees = (omega (arith, few_nodes h), record { places = h.places; most = omega (arith, few_nodes h); edges = x.edge }, x.falls);
      spares = (low_rank r (few_links h), low_rise r);
      ends = low_ends r x;
      places = refl;
    }

pub settle_ranked-requires : goal.settle_ranked-requires
settle_ranked-requires c =
    let h = c.requires.job.1 in record {
      problem = (_, solvable h c.low_ranks-spares.ensures c.columns.new.cols c.columns.ensures.columns);
      rooms = record {
        cost_places = h.stored.cost_places;
        col_places = c.columns.ensures.length;
        slot_places = h.stored.end₁_places;
        pair_places = c.requires.places;
      };
    }

pub returns-clause-answer : goal.returns-clause-answer
returns-clause-answer c =
    λ j h.
    let r = c.low_ranks-spares.ensures in
    answer_is h r (c.settle_ranked.ensures.settled _ (solvable h r c.columns.new.cols c.columns.ensures.columns))
