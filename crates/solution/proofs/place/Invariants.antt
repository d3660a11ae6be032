-- `solution::place` meets its contract. The loop's invariant: the model, run on the slots that are left, gives what it gives on
-- all of them. Assumes nothing.
use mathlib.Core.Path.{◌≡◌}
use lib.ListN.{length, get_or}
use Rattle.optimum.specs.Solve.{new_costs, partners}
use Rattle.solution.specs.Asked.{slot_pairs}
use Rattle.solution.specs.PlaceLaws.{placed_from, partners_from}
use Rattle.solution.proofs.place.Given as goal

abbrev pub invariant-loop-k : goal.invariant-loop-k
invariant-loop-k l =
    (length l.costs ≡ 256) × (length l.mate ≡ 256)
    × (placed_from l.slots l.ts l.ss l.links l.spare l.label l.k (λ e. get_or l.costs e 0)
    ≡ new_costs (λ e. get_or l.initial.costs e 0) l.ts l.ss (slot_pairs l.slots l.links l.spare) (λ k. get_or l.label k 0))
    × (partners_from l.slots l.ts l.ss l.links l.spare l.label l.k (λ e. get_or l.mate e 0)
    ≡ partners l.ts l.ss (slot_pairs l.slots l.links l.spare))
