-- What the service that replays packet logs promises. Definitions only. Assumes nothing.
use Rattle.std.specs.Prelude.{ℕ, zero, suc, ◌≤◌, ◌≡◌, List, [], eqb, pos, Option, Some, None, Result, Ok, Err, IfOk, length, take}
use Rattle.std.specs.Bool.{then_some}
use Rattle.std.proofs.Math.Option as maybe
use Rattle.std.proofs.Math.Option.{some, none, get_or}
use Rattle.limits.specs.Limits.{costs_most}
use Rattle.limits.specs.declared.Refusal.{Refusal}
use Rattle.limits.specs.Refusals.{refusal_in}
use Rattle.graph.specs.Graph.{Minimum}
use Rattle.frame.specs.Job.{Job, graph_of, tree_of, cost_of}
use Rattle.frame.specs.Meaning.{FirstNoWith}
use Rattle.frame.specs.Services.{Outcome, Served}
use Rattle.frame.specs.Questions.{job_of, refusal, later}
use Rattle.frame.specs.Answers.{answer_of}
use Rattle.sheet.specs.Sheet.{CostsOf}
use Rattle.sheet.specs.Reading.{is_some}
use Rattle.replay.specs.Log.{Packet, LogOf, replayed, FirstCheapest}
use Rattle.replay.specs.LogReading.{read_log}
use Rattle.replay.specs.Replaying.{job_edges, replay_bytes, first_of}
use Rattle.replaying.specs.declared.Replayed.{Replayed}

-- The number of packets that the code tells, 0 for "from the start"; none for "never".
abbrev pub packets_told : Option ℕ → maybe.Option ℕ
packets_told (Some k) = some k
packets_told None = none

-- What a reply says of it, and how many bytes it says were written: beside a refusal never, and none.
abbrev pub first_told : Result Replayed Refusal → maybe.Option ℕ
first_told (Ok x) = packets_told x.first
first_told (Err q) = none

abbrev pub length_told : Result Replayed Refusal → ℕ
length_told (Ok x) = x.length
length_told (Err q) = 0

-- A reply, with the area as it then is.
abbrev pub replay_outcome : Result Replayed Refusal → List ℕ → Outcome
replay_outcome r area = record { refusal = refusal_in r; size = length_told r; area = area }

-- The bytes of the final costs, as a function of the job frame s and the log f.
abbrev pub replay_for : List ℕ → List ℕ → List ℕ
replay_for s f = get_or (replay_bytes (job_of s) f) []

-- Questions 1 to 6, and then 9: is f a log to the job?
abbrev pub replay_refusal : List ℕ → List ℕ → ℕ
replay_refusal s f = later (refusal s) (is_some (replay_bytes (job_of s) f)) 9

-- The first number of packets after which the tree is cheapest, of a log that was read; beside a refusal, and where there is no such
-- number, none.
abbrev pub first_in : Job → maybe.Option (List Packet) → maybe.Option ℕ
first_in j (some qs) = first_of j qs
first_in j none = none

abbrev pub first_for : ℕ → List ℕ → List ℕ → maybe.Option ℕ
first_for zero s f = first_in (job_of s) (read_log (job_edges (job_of s)) f)
first_for (suc r) s f = none

-- The log f to the job j leads to the costs b, and this is the first number of packets after which the marked tree was cheapest.
pub record ReplayGiven (j : Job) (f b : List ℕ) (told : maybe.Option ℕ) : Type 0 where
  pub packets : List Packet
  pub log : LogOf (job_edges j) f packets
  -- what a plain table of costs holds after these packets
  pub costs : CostsOf (job_edges j) b (replayed packets (cost_of j))
  pub first : FirstCheapest j packets told
  -- a log whose final costs make the tree cheapest is not shorter than the steps of our own answer
  pub least : Minimum (graph_of j) (tree_of j) (λ e. pos (replayed packets (cost_of j) e)) → (answer_of j).steps ≤ length packets
  pub most : length b ≤ costs_most

-- The reply r to the job frame s and the log f, with the area before and after.
pub record LogReplayed (s f area : List ℕ) (r : Result Replayed Refusal) (after : List ℕ) : Type 0 where
  -- number, length and every byte, as a function of the two frames and the area
  pub served : Served (replay_refusal s f) (replay_for s f) area (replay_outcome r after)
  -- the number before question 7 is that of the first "no"
  pub question : FirstNoWith s 9 ((qs : List Packet) × LogOf (job_edges (job_of s)) f qs) (replay_refusal s f)
  -- what is said beside it, as such a function too: never, on every refusal
  pub first : first_told r ≡ first_for (refusal_in r) s f
  pub done : IfOk r (λ x. ReplayGiven (job_of s) f (take x.length after) (packets_told x.first))

-- ---- the steps of the code

-- The first number, by the violations that are left after so many packets: the tree is cheapest if there are none.
abbrev pub when_left : ℕ → ℕ → Option ℕ
when_left v count = then_some (eqb v 0) count

-- What was written, with the first number: a refusal has none beside it.
abbrev pub with_first : Result ℕ Refusal → Option ℕ → Result Replayed Refusal
with_first (Ok n) first = Ok (record { length = n; first = first })
with_first (Err q) first = Err q
