-- What the functions of the solver require and give. Definitions only. Assumes nothing.
use Rattle.std.specs.Prelude.{ℕ, ◌^◌, ◌≤◌, ◌<◌, ◌≡◌, List, length, get_or}
use Rattle.loops.specs.Loop.{gather}
use Rattle.limits.specs.Limits.{step_bytes}
use Rattle.graph.specs.Rank.{cost_at}
use Rattle.optimum.specs.Optimum.{Pair}
use Rattle.optimum.specs.Search.{Problem, built, matching}
use Rattle.optimum.specs.Lowest.{slot_marks}
use Rattle.optimum.specs.Slackness.{Ranked}
use Rattle.optimum.specs.Solve.{new_costs, partners, pair_at}
use Rattle.matching.specs.Tables.{Edges, Holds}
use Rattle.answer.specs.Contents.{PairsListed}

-- The pairs of the problem p, by links.
abbrev pub pair_list : Problem → ℕ → List ℕ → List ℕ → List Pair
pair_list p edges ts ss = gather edges (λ e. pair_at e (partners ts ss (matching p) e))

-- The arrays hold the problem p, and its answer fits the numbers and the places of the code.
pub record Solvable (p : Problem) (trees edges spares : ℕ) (cost ts ss cols : List ℕ) : Type 0 where
  pub ranked : Ranked p
  pub holds : Holds p trees spares cost ts ss cols
  pub few_trees : trees < 64
  pub few_spares : spares ≤ 256
  pub few_edges : edges ≤ 256
  pub tree_edges_lem : Edges trees ts
  pub spare_edges : Edges spares ss
  pub small_costs : (t : ℕ) → t < trees → cost_at cost ts t < 4294967295
  pub small_steps : (built p p.trees).weight < 128 ^ step_bytes
  pub few_pairs : length (pair_list p edges ts ss) ≤ 64

-- The sizes of the arrays that are changed.
pub record Rooms (cost cols slot pairs : List ℕ) : Type 0 where
  pub cost_places : length cost ≡ 256
  pub col_places : length cols ≡ 256
  pub slot_places : length slot ≡ 256
  pub pair_places : length pairs ≡ 128

-- The model's answer to the problem p: its steps, its costs by link, and the list of its pairs.
pub record SettledAs (p : Problem) (edges : ℕ) (cost ts ss : List ℕ) (steps : ℕ) (cost' : List ℕ) (count : ℕ) (pairs : List ℕ) : Type 0 where
  pub steps_are : steps ≡ (built p p.trees).weight
  pub costs_are :
      ◌≡◌ {A = ℕ → ℕ} (λ e. get_or cost' e 0)
      (new_costs (λ e. get_or cost e 0) ts ss (matching p) (slot_marks p (matching p)).label)
  pub listed : PairsListed (pair_list p edges ts ss) count pairs
