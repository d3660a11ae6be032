-- The word has the tree ranks of the slots passed.
use Rattle.std.proofs.Common.{ℕ, ◌≡◌}
use Rattle.bits.specs.Bit.{bit}
use Rattle.labels.specs.Labels.{paired_below}
use Rattle.labels.proofs.paired_trees.Given as goal

abbrev pub invariant-loop-t : goal.invariant-loop-t
invariant-loop-t l = (t : ℕ) → bit l.w t ≡ paired_below l.t-index l.links t
