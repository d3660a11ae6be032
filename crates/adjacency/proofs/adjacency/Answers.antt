use Rattle.std.proofs.Common.{arith}
use Rattle.std.proofs.lemmas.Grind.{common_steps}
use Rattle.adjacency.specs.AdjacencyLaws.{adjacency_turn}
use Rattle.adjacency.proofs.adjacency.Goals as goal

pub loop-k-preserved : goal.loop-k-preserved
loop-k-preserved c =
    grind (arith, common_steps, adjacency_turn)
