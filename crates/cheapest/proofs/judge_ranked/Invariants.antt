-- `cheapest::judge_ranked` meets its contract. The loop's invariant: the links passed hold. Assumes nothing.
use mathlib.Core.Path.{◌≡◌}
use mathlib.Core.Bool.{true}
use Rattle.loops.specs.Below.{all_below}
use Rattle.cheapest.specs.Judge.{link_holds}
use Rattle.cheapest.proofs.judge_ranked.Given as goal

abbrev pub invariant-loop-e : goal.invariant-loop-e
invariant-loop-e l = all_below l.e (link_holds l.ranks l.end1 l.end2 l.cost l.mark l.mask) ≡ true
