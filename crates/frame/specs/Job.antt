-- A job, its layout as a frame, and the graph that it describes. Definitions only. Assumes nothing.
use Rattle.std.specs.Prelude.{ℕ, length, get_or}
use mathlib.Core.List.{List, [], ◌∷◌, flat_map}
use Rattle.limits.specs.Limits.{number_bytes, marks_tree, marks_plugged}
use Rattle.number.specs.Number.{encode}
use Rattle.graph.specs.Graph.{Graph, EdgeSet}

-- A link: two ends (station numbers), cost and mark (1 tree, 0 spare, 2 laid but not plugged).
pub record JobLink : Type 0 where
  pub end₁ : ℕ
  pub end₂ : ℕ
  pub cost : ℕ
  pub mark : ℕ

-- A job: the station count and the links. A link's number is its place in the list.
pub record Job : Type 0 where
  pub nodes : ℕ
  pub links : List JobLink

abbrev pub no_link : JobLink
no_link = record { end₁ = 0; end₂ = 0; cost = 0; mark = 0 }

abbrev pub link : Job → ℕ → JobLink
link j e = get_or j.links e no_link

-- The layout: station count, link count, then four numbers for each link, each number in its shortest form.
abbrev pub fields : JobLink → List ℕ
fields l = l.end₁ ∷ l.end₂ ∷ l.cost ∷ l.mark ∷ []

abbrev pub job_numbers : Job → List ℕ
job_numbers j = j.nodes ∷ length j.links ∷ flat_map fields j.links

-- Numbers one behind the other, each in at most k bytes; those of a job.
abbrev pub bytes_by : ℕ → List ℕ → List ℕ
bytes_by k ns = flat_map (encode k) ns

abbrev pub bytes_of : List ℕ → List ℕ
bytes_of ns = bytes_by number_bytes ns

abbrev pub job_frame : Job → List ℕ
job_frame j = bytes_of (job_numbers j)

-- The job's graph, in which the plugged links may be used; the marked tree; the old costs.
abbrev pub graph_of : Job → Graph
graph_of j =
    record {
      nodes = j.nodes;
      edges = length j.links;
      end₁ = λ e. (link j e).end₁;
      end₂ = λ e. (link j e).end₂;
      live = λ e. marks_plugged (link j e).mark;
    }

abbrev pub tree_of : Job → EdgeSet
tree_of j e = marks_tree (link j e).mark

abbrev pub cost_of : Job → ℕ → ℕ
cost_of j e = (link j e).cost
