-- `covering::dearer` meets its contract. The loop's invariant: the ranks from t up cost no more than x. Assumes nothing.
use Prim.Native.Nat.{ℕ, ◌≤◌, ◌<◌}
use Rattle.graph.specs.Rank.{cost_at}
use Rattle.covering.proofs.dearer.Given as goal

abbrev pub invariant-loop-t : goal.invariant-loop-t
invariant-loop-t l = (t : ℕ) → l.t ≤ t → t < l.limit → cost_at l.cost l.ts t ≤ l.x
