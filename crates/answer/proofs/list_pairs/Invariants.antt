-- `answer::list_pairs` meets its contract. The loop's invariant: the pairs of the mates passed are listed.
-- Assumes nothing.
use Rattle.answer.specs.Contents.{mate_pairs, PairsListed}
use Rattle.answer.proofs.list_pairs.Given as goal

abbrev pub invariant-loop-e : goal.invariant-loop-e
invariant-loop-e l = PairsListed (mate_pairs l.e l.mate) l.count l.pairs
