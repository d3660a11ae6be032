-- `cheapest::spare_holds` meets its contract. The loop's invariant: the ranks that are left pass if and only if all covered ranks do.
-- The measure falls as the lowest rank rises. Assumes nothing.
use Prim.Native.Nat.{ℕ, ◌^◌, ◌-◌, ◌<◌}
use mathlib.Core.Path.{◌≡◌}
use mathlib.Core.Bool.{true, not, ◌||◌}
use lib.Dec.{leb}
use lib.ListN.{get_or}
use Rattle.loops.specs.Below.{all_below}
use Rattle.loops.specs.Loop.{first}
use Rattle.bits.specs.Bit.{bit}
use Rattle.graph.specs.Rank.{cost_at}
use Rattle.paths.specs.Arrays.{across}
use Rattle.cheapest.specs.JudgeLaws.{word_holds}
use Rattle.cheapest.proofs.spare_holds.Given as goal

abbrev pub invariant-loop-left : goal.invariant-loop-left
invariant-loop-left l =
    (word_holds (λ k. leb (cost_at l.cost l.ranks k) l.limit) l.left
    ≡ all_below 64 (λ k. not (across l.mask l.a l.b k) || leb (cost_at l.cost l.ranks k) l.limit)) ×
    (l.left < 2 ^ 64) ×
    ((k : ℕ) → bit l.left k ≡ true → get_or l.ranks k 0 < 256)

abbrev pub decreases-loop-left : goal.decreases-loop-left
decreases-loop-left l = 64 - first 64 (bit l.left)
