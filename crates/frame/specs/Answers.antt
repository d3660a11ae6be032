-- The answer to a job, the judge of its tree, and the reader and the judge of answer frames made elsewhere, as functions that compute.
-- Definitions only. Assumes nothing.
use Rattle.std.specs.Prelude.{ℕ, suc, ◌+◌, ◌*◌, ◌-◌, Bool, false, not, ◌&&◌, List, ltb, eqb, length, get_or, take, drop}
use Rattle.std.proofs.Math.Option.{Option, some, none}
use Rattle.loops.specs.Below.{choose, sum, all_below}
use Rattle.loops.specs.Loop.{first, tabulate}
use Rattle.number.specs.Number.{Decoded, decode}
use Rattle.graph.specs.Graph.{Graph, EdgeSet, spare_of}
use Rattle.graph.specs.Rank.{tree_ranks}
use Rattle.graph.specs.Paths.{rooted, covers_rank, judge}
use Rattle.optimum.specs.Optimum.{Pair, Answer}
use Rattle.optimum.specs.Solve.{solve}
use Rattle.frame.specs.Job.{Job, graph_of, tree_of, cost_of}
use Rattle.limits.specs.Limits.{step_bytes}
use Rattle.frame.specs.Questions.{numbers}

-- The answer to a job.
abbrev pub answer_of : Job → Answer
answer_of j = solve (graph_of j) (tree_of j) (cost_of j)

-- The tree cheapest by the old costs?
abbrev pub judge_tree : Job → Bool
judge_tree j = judge (graph_of j) (tree_of j) (cost_of j) (tree_ranks (graph_of j) (tree_of j) (cost_of j))

-- An answer to a job of m links out of its steps and the numbers behind them, if there are as many as there should be.
abbrev pub pair_from : List ℕ → ℕ → Pair
pair_from ns i = record { tree = get_or ns (2 * i) 0; spare = get_or ns (2 * i + 1) 0 }

abbrev pub pairs_from : ℕ → List ℕ → List Pair
pairs_from m ns = tabulate (get_or ns m 0) (pair_from (drop (suc m) ns))

unfoldable pub answer_from : ℕ → ℕ → Option (List ℕ) → Option Answer
answer_from m steps none = none
answer_from m steps (some ns) =
    choose (eqb (length ns) (m + 1 + 2 * get_or ns m 0))
    (λ _. some (record { steps = steps; costs = take m ns; pairs = pairs_from m ns }))
    (λ _. none)

unfoldable pub answer_behind : ℕ → List ℕ → Decoded → Option Answer
answer_behind m s Decoded.none = none
answer_behind m s (Decoded.number v n) = answer_from m v (numbers (drop n s))

-- What an answer frame to a job of m links holds.
abbrev pub read_answer : ℕ → List ℕ → Option Answer
read_answer m s = answer_behind m s (decode step_bytes s)

-- The tests of the judge. A pair: a tree edge, a dearer one than the non-tree edge that covers it.
abbrev pub rank_of : List ℕ → ℕ → ℕ
rank_of ranks e = first (length ranks) (λ k. eqb (get_or ranks k 0) e)

unfoldable pub pair_holds : Graph → EdgeSet → (ℕ → ℕ) → List ℕ → Pair → Bool
pair_holds g tr c ranks p =
    ltb p.tree g.edges &&
    tr p.tree &&
    ltb p.spare g.edges &&
    spare_of g tr p.spare &&
    covers_rank g (rooted g ranks) p.spare (rank_of ranks p.tree) &&
    ltb (c p.spare) (c p.tree)

abbrev pub no_pair : Pair
no_pair = record { tree = 0; spare = 0 }

-- Pairs that rise by tree edge, none with the non-tree edge of an earlier one.
abbrev pub pairs_rise : List Pair → Bool
pairs_rise ps =
    all_below (length ps) λ i.
    all_below i λ k.
    ltb (get_or ps k no_pair).tree (get_or ps i no_pair).tree &&
    not (eqb (get_or ps k no_pair).spare (get_or ps i no_pair).spare)

abbrev pub pairs_weight : (ℕ → ℕ) → List Pair → ℕ
pairs_weight c ps = sum (length ps) (λ i. c (get_or ps i no_pair).tree - c (get_or ps i no_pair).spare)

-- The absolute difference of two natural numbers.
abbrev pub gap : ℕ → ℕ → ℕ
gap x y = (x - y) + (y - x)

unfoldable pub answer_holds : Graph → EdgeSet → (ℕ → ℕ) → List ℕ → Answer → Bool
answer_holds g tr c ranks a =
    let d : (ℕ → ℕ) = λ e. get_or a.costs e 0 in
    eqb a.steps (sum g.edges (λ e. gap (d e) (c e))) &&
    judge g tr d ranks &&
    all_below (length a.pairs) (λ i. pair_holds g tr c ranks (get_or a.pairs i no_pair)) &&
    pairs_rise a.pairs &&
    eqb (pairs_weight c a.pairs) a.steps

unfoldable pub judge_read : Job → Option Answer → Bool
judge_read j none = false
judge_read j (some a) = answer_holds (graph_of j) (tree_of j) (cost_of j) (tree_ranks (graph_of j) (tree_of j) (cost_of j)) a

-- The judge of an answer frame s to the accepted job j.
abbrev pub judge_answer : Job → List ℕ → Bool
judge_answer j s = judge_read j (read_answer (length j.links) s)
