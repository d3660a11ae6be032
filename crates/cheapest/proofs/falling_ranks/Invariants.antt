-- `cheapest::falling_ranks` meets its contract. The loop's invariant: the ranks passed are in the word if they cost no more than
-- any lower one, and the lowest cost among them is known. Assumes nothing.
use Rattle.cheapest.specs.LeadLaws.{Passed}
use Rattle.cheapest.proofs.falling_ranks.Given as goal

abbrev pub invariant-loop-k : goal.invariant-loop-k
invariant-loop-k l = Passed l.k l.ranks l.cost l.falling l.least
