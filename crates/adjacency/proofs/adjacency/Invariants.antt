-- `adjacency::adjacency` meets its contract. The loop's invariant: the words hold the ranks that are passed. Assumes nothing.
use Rattle.adjacency.specs.Words.{Adjacency}
use Rattle.adjacency.proofs.adjacency.Given as goal

abbrev pub invariant-loop-k : goal.invariant-loop-k
invariant-loop-k l = Adjacency l.k l.ranks l.end1 l.end2 l.adj
