-- The third demand, proved of the answer that the model computes. This is the file to open first. Assumes nothing.
use Rattle.std.specs.Prelude.{ℕ}
use Rattle.std.proofs.Common.{arith}
use Rattle.graph.specs.Graph.{Graph, Sound, EdgeSet, SpanningTree}
use Rattle.optimum.specs.Optimum.{LowestBest, Answer, chosen, Demanded}
use Rattle.optimum.specs.Solve.{solve}
use Rattle.optimum.proofs.SolveProof.{
  solve_count,
  solve_minimum,
  solve_steps,
  solve_fewest,
  solve_lowest,
  solve_matching,
  solve_rising,
  solve_falls,
  solve_weighs,
}

-- A job that has passed the questions is a graph g of stations and links (`Sound`: every link joins two different stations),
-- some of its links plugged and so usable, a marked tree tr of such links (`SpanningTree`), and old costs c, any natural
-- numbers. `solve g tr c` is the answer, and `Demanded` (Optimum.antt) has one field for each clause of the demand:
--
--   count     there is one answered cost for each link
--   minimum   "the answered costs make the marked tree cheapest"
--   steps     "the step count that the answer names is the sum, over all links, of the absolute changes from old cost to
--             answered cost"
--   fewest    "Every other choice of whole-number costs, negative ones included, that makes the marked tree cheapest has a
--             sum of absolute changes at least as large as that count."
--   lowest    "Each one whose sum equals that count gives every link at least its answered cost."
--   matching  "The answer also lists .. pairs of a tree link and a spare link whose ends the tree joins through it, no link
--             twice"
--   rising    ".. rising by tree link .."
--   falls     ".. each with the tree link's old cost above the spare's."
--   weighs    "The old costs' differences over these pairs, tree less spare, add up to exactly that count."
pub demand :
    (g : Graph) → Sound g → (tr : EdgeSet) → SpanningTree g tr
    → (c : ℕ → ℕ) → Demanded g tr c (solve g tr c)
demand g sound tr tree c =
    record {
      count = solve_count g tr c;
      minimum = solve_minimum g tr c sound tree;
      steps = solve_steps g tr c;
      fewest = solve_fewest g tr c sound tree;
      lowest = solve_lowest g tr c sound tree;
      matching = solve_matching g tr c sound tree;
      rising = solve_rising g tr c;
      falls = solve_falls g tr c;
      weighs = solve_weighs g tr c;
    }

-- So the costs of an answer as demanded are the lowest best choice.
pub lowest_best : (g : Graph) (tr : EdgeSet) (c : ℕ → ℕ) (a : Answer) → Demanded g tr c a → LowestBest g tr c (chosen a)
lowest_best g tr c a d =
    record {
      best = record { minimum = d.minimum; fewest = λ d' m. rw (← d.steps) (d.fewest d' m) };
      lowest =
          λ d' b. d.lowest d' b.minimum (omega (arith, d.steps, d.fewest d' b.minimum, b.fewest (chosen a) d.minimum));
    }
