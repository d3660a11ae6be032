-- What an answer frame means: its layout, and what the judge of answer frames asks of it, in document 01's words.
-- Definitions only. Assumes nothing.
use Rattle.std.specs.Prelude.{ℕ, ◌^◌, ◌<◌, ◌≡◌, pos, length}
use mathlib.Core.List.{List, ◌∷◌, ◌++◌, flat_map}
use Rattle.number.specs.Number.{encode}
use Rattle.graph.specs.Graph.{Graph, EdgeSet, Minimum}
use Rattle.optimum.specs.Optimum.{both, Matching, Rising, Falls, weight, deviation, Answer, chosen}
use Rattle.frame.specs.Job.{Job, bytes_of, graph_of, tree_of, cost_of}
use Rattle.limits.specs.Limits.{step_bytes}
use Rattle.frame.specs.Meaning.{Small}

-- The layout: the steps, one new cost for each link in link order, the count of pairs, the pairs, tree link first.
abbrev pub answer_numbers : Answer → List ℕ
answer_numbers a = a.costs ++ length a.pairs ∷ flat_map both a.pairs

abbrev pub answer_frame : Answer → List ℕ
answer_frame a = encode step_bytes a.steps ++ bytes_of (answer_numbers a)

-- The frame s is laid out as the answer a to a job of m links, with nothing following.
pub record AnswerOf (m : ℕ) (s : List ℕ) (a : Answer) : Type 0 where
  pub joined : answer_frame a ≡ s
  pub step_limit : a.steps < 128 ^ step_bytes
  pub small : Small (answer_numbers a)
  pub count : length a.costs ≡ m

-- What an answer's steps, costs and pairing must be for the three to prove each other best.
pub record Certificate (g : Graph) (tr : EdgeSet) (c : ℕ → ℕ) (a : Answer) : Type 0 where
  pub steps : a.steps ≡ deviation g c (chosen a)
  pub minimum : Minimum g tr (chosen a)
  pub matching : Matching g tr a.pairs
  pub rising : Rising a.pairs
  pub falls : Falls c a.pairs
  pub weighs : weight c a.pairs ≡ pos a.steps

-- The frame s is laid out as the answer a to the job j, with nothing following, and a proves itself best.
pub record Certified (j : Job) (s : List ℕ) (a : Answer) : Type 0 where
  pub layout : AnswerOf (length j.links) s a
  pub certificate : Certificate (graph_of j) (tree_of j) (cost_of j) a
