-- What a replay gives, as functions that compute: the final costs, and the first number of packets after which the judge of trees
-- says yes. Definitions only. Assumes nothing.
use Rattle.std.specs.Prelude.{ℕ, suc, Bool, cond, List, ltb, length, take}
use Rattle.std.proofs.Math.Option.{Option, some, none, map}
use Rattle.loops.specs.Loop.{first}
use Rattle.graph.specs.Rank.{tree_ranks}
use Rattle.graph.specs.Paths.{judge}
use Rattle.frame.specs.Job.{Job, graph_of, tree_of, cost_of}
use Rattle.sheet.specs.Sheet.{costs_frame}
use Rattle.replay.specs.Log.{Packet, replayed}
use Rattle.replay.specs.LogReading.{read_log}

-- The number of links of a job.
abbrev pub job_edges : Job → ℕ
job_edges j = length j.links

-- The bytes of the final costs; none if the bytes s are no log to the job.
abbrev pub replay_bytes : Job → List ℕ → Option (List ℕ)
replay_bytes j s = map (λ qs. costs_frame (job_edges j) (replayed qs (cost_of j))) (read_log (job_edges j) s)

-- What the judge of trees says of the costs after the first k packets.
abbrev pub judged_after : Job → List Packet → ℕ → Bool
judged_after j qs k = judge (graph_of j) (tree_of j) (replayed (take k qs) (cost_of j)) (tree_ranks (graph_of j) (tree_of j) (cost_of j))

-- The least number of packets after which it says yes, of none to all of them.
unfoldable pub first_of : Job → List Packet → Option ℕ
first_of j qs =
    let most : ℕ = length qs in
    let k : ℕ = first (suc most) (judged_after j qs) in
    cond (ltb k (suc most)) (some k) none
