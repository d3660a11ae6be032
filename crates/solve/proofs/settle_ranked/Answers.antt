-- `solve::settle_ranked` meets its contract: matching, labels and places are the model's. Assumes nothing.
use native.Mathlib.Omega.{arith}
use mathlib.Core.Path.{refl}
use Rattle.solve.specs.SettleLaws.{buildable, labellable, slots_named, few_listed, settled, small_weight}
use Rattle.solve.proofs.settle_ranked.Goals as goal

pub build-found-requires : goal.build-found-requires
build-found-requires c = buildable c.requires.problem.1 c.requires.rooms

pub label-requires : goal.label-requires
label-requires c = labellable c.requires.problem.1 c.build-found.ensures

pub place-requires : goal.place-requires
place-requires c = record {
  pairs = slots_named c.requires.problem.1 c.build-found.ensures c.label.ensures;
  length = c.requires.rooms.cost_places;
  empty = refl;
}

pub list_pairs-count-requires : goal.list_pairs-count-requires
list_pairs-count-requires c =
    let v = c.requires.problem.1 in record {
      edges_bound = v.few_edges;
      mate_len_bound = few_listed v c.build-found.ensures c.label.ensures c.place.new.mate c.place.ensures.mate;
      pairs_len = c.build-found.ensures.sized.spare_length;
    }

pub overflow_cast-result : goal.overflow_cast-result
overflow_cast-result c = omega (arith, small_weight c.requires.problem.1 c.build-found.ensures)

pub returns-clause-few : goal.returns-clause-few
returns-clause-few c =
    omega (
      arith,
      c.list_pairs-count.ensures.count,
      few_listed c.requires.problem.1 c.build-found.ensures c.label.ensures c.place.new.mate c.place.ensures.mate,
    )

pub returns-clause-settled : goal.returns-clause-settled
returns-clause-settled c =
    λ p w.
    settled w c.build-found.ensures c.label.ensures c.place.new.mate c.place.ensures.mate c.place.new.costs
    c.place.ensures.costs c.list_pairs-count.result c.list_pairs-count.new.pairs c.list_pairs-count.ensures
