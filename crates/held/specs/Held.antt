-- When a job stands in arrays. Definitions only. Assumes nothing.
use Rattle.std.specs.Prelude.{ℕ, ◌-◌, ◌≡◌, true, length, get_or, take}
use Rattle.graph.specs.Rank.{tree_ranks}
use Rattle.graph.specs.Paths.{rooted}
use Rattle.frame.specs.Job.{Job, link, graph_of, tree_of, cost_of}
use Rattle.frame.specs.Arrays.{Columns, Arrays}
use Rattle.frame.specs.Meaning.{Accepted}
use Rattle.frame.specs.Questions.{counted}
use Rattle.frame.specs.Services.{small}
use Rattle.paths.specs.Arrays.{paths}

-- A job that passes questions 1 to 3, of so many stations and links, in four arrays; zeros behind its last link. First ends,
-- costs and marks have 256 places, so that they may be changed.
pub record Stored (j : Job) (nodes edges : ℕ) (c : Columns) : Type 0 where
  pub small : small j ≡ true
  pub counted : counted j ≡ true
  pub nodes_are : nodes ≡ j.nodes
  pub edges_are : edges ≡ length j.links
  pub end₁ : ◌≡◌ {A = ℕ → ℕ} (λ e. get_or c.end₁ e 0) (λ e. (link j e).end₁)
  pub end₁_places : length c.end₁ ≡ 256
  pub end₂ : ◌≡◌ {A = ℕ → ℕ} (λ e. get_or c.end₂ e 0) (λ e. (link j e).end₂)
  pub cost : ◌≡◌ {A = ℕ → ℕ} (λ e. get_or c.cost e 0) (cost_of j)
  pub cost_places : length c.cost ≡ 256
  pub mark : ◌≡◌ {A = ℕ → ℕ} (λ e. get_or c.mark e 0) (λ e. (link j e).mark)
  pub mark_places : length c.mark ≡ 256

-- An accepted job so stored, with its tree links by rank and its tree paths.
pub record Held (j : Job) (nodes edges : ℕ) (a : Arrays) : Type 0 where
  pub stored : Stored j nodes edges a.links
  pub accepted : Accepted j
  pub ranks : take (nodes - 1) a.ranks ≡ tree_ranks (graph_of j) (tree_of j) (cost_of j)
  pub places : length a.ranks ≡ 256
  pub paths : paths a.mask ≡ (rooted (graph_of j) (tree_ranks (graph_of j) (tree_of j) (cost_of j))).path
