-- The proof of the cycle of calls {try_slot, try_tree}. The measures count unvisited links, tree links and spare links: they
-- fall at each call. The loop's invariant: the model's loop, run on the present state, gives what it gives on the first.
-- Assumes nothing.
use Rattle.std.proofs.Common.{suc}
use Rattle.bits.specs.Bit.{bit}
use Rattle.graph.specs.Graph.{count}
use Rattle.search.specs.Board.{unvisited}
use Rattle.search.specs.TreeSteps.{Passing}
use Rattle.search.proofs.+try_slot_try_tree.Given as goal

abbrev pub decreases-try_slot : goal.decreases-try_slot
decreases-try_slot l = unvisited l.live

abbrev pub decreases-try_tree : goal.decreases-try_tree
decreases-try_tree l = suc (unvisited l.live)

abbrev pub invariant-try_tree-loop-t : goal.invariant-try_tree-loop-t
invariant-try_tree-loop-t l = Passing l.t.0 l.live l.initial.words l.initial.links l.words l.links l.left

abbrev pub decreases-try_tree-loop-t : goal.decreases-try_tree-loop-t
decreases-try_tree-loop-t l = count 64 (bit l.left)
