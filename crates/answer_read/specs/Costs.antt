-- Where a link's new cost stands in an answer frame. Definitions only. Assumes nothing.
use Rattle.std.specs.Prelude.{ℕ, ◌<◌, List, length}
use Rattle.optimum.specs.Optimum.{Answer}
use Rattle.frame.specs.Services.{Place, cost_offset, cost_length}
use Rattle.frame.specs.AnswerMeaning.{AnswerOf}

-- The frame s is laid out as an answer that has a new cost for link e.
pub record CostIn (s : List ℕ) (e : ℕ) : Type 0 where
  pub answer : Answer
  pub layout : AnswerOf (length answer.costs) s answer
  pub inside : e < length answer.costs

abbrev pub cost_place_in : Answer → ℕ → Place
cost_place_in a e = record { offset = cost_offset a e; size = cost_length a e }
