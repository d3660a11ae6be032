-- `covering::columns` meets its contract. The loop's invariant: the columns of the spare ranks passed are written; no tree rank
-- from the limit up costs more than a spare rank that is left. Assumes nothing.
use Prim.Native.Nat.{ℕ, ◌≤◌, ◌<◌}
use mathlib.Core.Path.{◌≡◌}
use lib.ListN.{length}
use Rattle.graph.specs.Rank.{cost_at}
use Rattle.covering.specs.Covers.{ColumnsHold}
use Rattle.covering.proofs.columns.Given as goal

abbrev pub invariant-loop-s : goal.invariant-loop-s
invariant-loop-s l =
    (l.limit ≤ l.trees) × (length l.cols ≡ 256)
    × ((t' s' : ℕ) → l.limit ≤ t' → t' < l.trees → l.s ≤ s' → s' < l.spares → cost_at l.cost l.ts t' ≤ cost_at l.cost l.ss s')
    × ColumnsHold l.trees l.s l.cost l.ts l.ss l.end1 l.end2 l.mask l.cols
