-- `covering::low_ranks` meets its contract: the keys of the spares that undercut, ranked. Assumes nothing.
use mathlib.Core.Path.{ap, ◌∙◌}
use mathlib.Core.Bool.{false}
use native.Mathlib.Omega.{arith}
use lib.ListN.{length}
use Rattle.graph.specs.Graph.{EdgeSet}
use Rattle.ranks.proofs.KeysLaws.{keys_rise, count_ranked}
use Rattle.covering.specs.Covers.{is_low}
use Rattle.covering.proofs.LowLaws.{low_bound}
use Rattle.covering.proofs.low_ranks.Goals as goal
use Rattle.covering.proofs.low_ranks.Goals.{After-collect_low-n}

-- the spares that undercut, as far as the arrays say
abbrev low : After-collect_low-n → EdgeSet
low c =
    let a = c.args in
    is_low 64 a.cost.now a.mark.now a.ts.now a.end1.now a.end2.now a.mask.now

pub rank_keys-requires : goal.rank_keys-requires
rank_keys-requires c =
    let k = c.collect_low-n.ensures in
    let few = c.requires.arrays.few_edges in (
      omega (arith, k.few, few),
      k.size,
      keys_rise false c.args.cost.now
          {S = low (goal.at.rank_keys-requires c).After-collect_low-n} k few,
    )

pub returns : goal.returns
returns c =
    let k = c.collect_low-n.ensures in
    let cost = c.args.cost.now in
    let same = low_bound c.requires.arrays c.args.mark.now in
    record {
      size = count_ranked false cost {S = low (goal.at.returns c).After-collect_low-n} k ∙ ap length same;
      ranked = c.rank_keys.ensures.ranks false cost (low (goal.at.returns c).After-collect_low-n) c.args.edges
          c.requires.arrays.few_edges c.requires.costs.0 k ∙ same;
      places = c.rank_keys.ensures.size;
    }
