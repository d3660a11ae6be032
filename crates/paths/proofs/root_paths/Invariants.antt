-- `paths::root_paths` meets its contract. The loop's invariant: the model, run for the rounds that are left, gives what it gives
-- from the start. Assumes nothing.
use Rattle.std.proofs.Common.{◌-◌}
use Rattle.adjacency.specs.Words.{Adjacency}
use Rattle.paths.specs.RootLaws.{Rounds}
use Rattle.paths.proofs.root_paths.Given as goal

abbrev pub invariant-loop : goal.invariant-loop
invariant-loop l =
    Adjacency l.count l.ranks l.end1 l.end2 l.adj
    × Rounds l.nodes l.count l.ranks l.end1 l.end2 (l.nodes - l.counter) l.front l.done l.mask
