-- The answer held in two arrays: costs in link order; pairs, tree link and spare link by turns. Definitions only.
-- Assumes nothing.
use Rattle.std.specs.Prelude.{ℕ, List, ◌++◌}
use Rattle.loops.specs.Loop.{tabulate}
use Rattle.number.specs.Number.{encode}
use Rattle.limits.specs.Limits.{number_bytes, step_bytes}
use Rattle.optimum.specs.Optimum.{Pair, Answer}
use Rattle.frame.specs.Job.{bytes_of}
use Rattle.frame.specs.Answers.{pair_from}
use Rattle.codec.specs.Numbers.{numbers_at}

-- The first n pairs.
abbrev pub pairs_at : ℕ → List ℕ → List Pair
pairs_at n ps = tabulate n (pair_from ps)

-- The bytes of an answer's frame before its pairs: the steps, the costs, the count of pairs.
abbrev pub answer_front : ℕ → ℕ → List ℕ → ℕ → List ℕ
answer_front steps edges cs count = encode step_bytes steps ++ bytes_of (numbers_at edges cs) ++ encode number_bytes count

-- The answer of the arrays.
abbrev pub answer_at : ℕ → ℕ → List ℕ → ℕ → List ℕ → Answer
answer_at steps edges cs count ps = record { steps = steps; costs = numbers_at edges cs; pairs = pairs_at count ps }
