-- Packet logs: their layout, their replay over a table of costs, and when the marked tree is first cheapest. Definitions only.
-- Assumes nothing.
use Rattle.std.specs.Prelude.{ℕ, suc, ◌-◌, ◌<◌, ◌≤◌, ◌≡◌, Bool, true, false, cond, ltb, pos, length, take}
use mathlib.Core.List.{List, [], ◌∷◌, flat_map, Memᴰ}
use Rattle.std.proofs.Math.Option.{Option, some, none}
use Rattle.limits.specs.Limits.{max_number}
use Rattle.loops.specs.Loop.{put}
use Rattle.graph.specs.Graph.{Minimum}
use Rattle.frame.specs.Job.{Job, bytes_of, graph_of, tree_of, cost_of}

-- A step packet: a link, and whether its cost goes up.
pub record Packet : Type 0 where
  pub edge : ℕ
  pub up : Bool

-- The layout: of each packet the link's number, then 1 for up or 0 for down, each in shortest form of at most three bytes; no count.
abbrev pub packet_numbers : Packet → List ℕ
packet_numbers q = q.edge ∷ cond q.up 1 0 ∷ []

abbrev pub log_frame : List Packet → List ℕ
log_frame qs = bytes_of (flat_map packet_numbers qs)

-- The bytes s are the log qs to a job of m links, up to their last byte.
pub record LogOf (m : ℕ) (s : List ℕ) (qs : List Packet) : Type 0 where
  pub joined : log_frame qs ≡ s
  pub inside : (q : Packet) → Memᴰ q qs → q.edge < m

-- One step of a cost. One that would leave 0 to 2,097,151 leaves it as it is.
abbrev pub stepped : Bool → ℕ → ℕ
stepped true x = cond (ltb x max_number) (suc x) x
stepped false x = x - 1

-- One packet, and a log, over a table of costs.
abbrev pub heard : Packet → (ℕ → ℕ) → ℕ → ℕ
heard q c = put c q.edge (stepped q.up (c q.edge))

unfoldable pub replayed : List Packet → (ℕ → ℕ) → ℕ → ℕ
replayed [] c = c
replayed (q ∷ qs) c = replayed qs (heard q c)

-- After the first k packets no spanning tree of the job's plugged links has a smaller total than the marked one.
abbrev pub CheapestAfter : Job → List Packet → ℕ → Type 0
CheapestAfter j qs k = Minimum (graph_of j) (tree_of j) (λ e. pos (replayed (take k qs) (cost_of j) e))

-- The least number of packets of the log after which it is so; or none, if it is so after none of them.
pub data FirstCheapest (j : Job) (qs : List Packet) : Option ℕ → Type 0 where
  after : (k : ℕ) → k ≤ length qs → CheapestAfter j qs k → ((i : ℕ) → i < k → CheapestAfter j qs i → ⊥) → FirstCheapest j qs (some k)
  never : ((i : ℕ) → i ≤ length qs → CheapestAfter j qs i → ⊥) → FirstCheapest j qs none
