-- `violations::ranks_within` meets its contract. The loop's invariant: what is found and what is left to be found make the whole.
-- The measure falls as the lowest rank rises. Assumes nothing.
use Prim.Native.Nat.{ℕ, ◌+◌, ◌-◌, ◌^◌, ◌<◌}
use mathlib.Core.Path.{◌≡◌}
use mathlib.Core.Bool.{Bool, true}
use lib.ListN.{get_or}
use Rattle.loops.specs.Loop.{first}
use Rattle.bits.specs.Bit.{bit}
use Rattle.graph.specs.Rank.{cost_at}
use Rattle.violations.specs.Counting.{AsksWithin}
use Rattle.violations.specs.CountingLaws.{word_ones}
use Rattle.violations.proofs.ranks_within.Given as goal

abbrev pub invariant-loop-left : goal.invariant-loop-left
invariant-loop-left l =
    ((p : ℕ → Bool) → AsksWithin l.low l.high p
    → l.found + word_ones (λ k. p (cost_at l.cost l.ranks k)) l.left
    ≡ word_ones (λ k. p (cost_at l.cost l.ranks k)) l.initial.left) ×
    (l.left < 2 ^ 64) ×
    ((k : ℕ) → bit l.left k ≡ true → get_or l.ranks k 0 < 256)

abbrev pub decreases-loop-left : goal.decreases-loop-left
decreases-loop-left l = 64 - first 64 (bit l.left)
