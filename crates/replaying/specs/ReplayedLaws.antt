-- A reply by the definition keeps what the service that replays packet logs promises. Assumes nothing.
use Rattle.std.specs.Prelude.{ℕ, ◌*◌, ◌≤◌, ◌≡◌, refl, true, List, [], Result, Ok, Err, IfOk, length, take}
use Rattle.std.proofs.Common.{arith, sym, subst}
use Rattle.std.proofs.Math.Option.{Option, some, none, get_or, map}
use Rattle.loops.specs.TestLaws.{clash}
use Rattle.limits.specs.declared.Refusal.{Refusal}
use Rattle.limits.specs.Refusals.{refusal_in}
use Rattle.number.specs.Number.{Bytes}
use Rattle.frame.specs.Job.{Job, graph_of, tree_of, cost_of}
use Rattle.frame.specs.Meaning.{Accepted}
use Rattle.frame.specs.Services.{written, Served}
use Rattle.frame.specs.Questions.{job_of, refusal}
use Rattle.frame.specs.Answers.{answer_of}
use Rattle.frame.proofs.Form.{later_first, later_none}
use Rattle.frame.proofs.Accepted.{accepted, cost_small}
use Rattle.frame.proofs.OwnAnswer.{own}
use Rattle.frame.proofs.Outcomes.{served_of, served_none}
use Rattle.sheet.specs.Sheet.{costs_frame}
use Rattle.sheet.specs.Reading.{is_some}
use Rattle.sheet.proofs.SheetLaws.{costs_most_lem}
use Rattle.replay.specs.Log.{Packet, LogOf, replayed, FirstCheapest}
use Rattle.replay.specs.LogReading.{read_log}
use Rattle.replay.specs.Replaying.{job_edges, replay_bytes, first_of}
use Rattle.replay.proofs.LogLaws.{log_means, log_found, log_size}
use Rattle.replay.proofs.ReplayLaws.{replayed_range, log_least, first_cheapest}
use Rattle.replaying.specs.declared.Replayed.{Replayed}
use Rattle.replaying.specs.Replayed.{packets_told, first_told, replay_outcome, replay_for, replay_refusal, first_in, first_for, ReplayGiven, LogReplayed}

-- The log of an accepted job, read.
module _ (j : Job) (a : Accepted j) (f : List ℕ) (bytes : Bytes f) where
  given_of_lem : (qs : List Packet) → read_log (job_edges j) f ≡ some qs → ReplayGiven j f (costs_frame (job_edges j) (replayed qs (cost_of j))) (first_of j qs)
  given_of_lem qs q =
      let log : LogOf (job_edges j) f qs = (log_means (job_edges j) a.edge_limit f bytes qs).0 q in
      record {
        packets = qs;
        log = log;
        costs = record { joined = refl; limit = replayed_range (job_edges j) qs (cost_of j) log.inside (λ e _. cost_small j a.small e) };
        first = first_cheapest j a qs;
        least = log_least (graph_of j) (tree_of j) (cost_of j) (answer_of j) (own j a) qs;
        most = costs_most_lem (job_edges j) a.edge_limit (replayed qs (cost_of j));
      }

  -- What the model gives.
  model_given :
      (o : Option (List Packet)) → read_log (job_edges j) f ≡ o
      → is_some (map (λ qs. costs_frame (job_edges j) (replayed qs (cost_of j))) o) ≡ true
      → ReplayGiven j f (get_or (map (λ qs. costs_frame (job_edges j) (replayed qs (cost_of j))) o) []) (first_in j o)
  model_given (some qs) q there = given_of_lem qs q
  model_given none q there = clash there refl

found_log : {A B : Type 0} (g : A → B) (o : Option A) → is_some (map g o) ≡ is_some o
found_log g (some x) = refl
found_log g none = refl

module _ (s f area : List ℕ) (bytes : Bytes s) (bytes-in : Bytes f) (r : Result Replayed Refusal) (after : List ℕ) where
  pub log_replayed_of :
      replay_outcome r after ≡ written (replay_refusal s f) (replay_for s f) 0 area → first_told r ≡ first_for (refusal_in r) s f
      → LogReplayed s f area r after
  log_replayed_of e told =
      let served = served_of (replay_refusal s f) (replay_for s f) area (replay_outcome r after) e in
      record {
        served = served;
        question =
            later_first s 9 (is_some (replay_bytes j f)) _ bytes
            (λ six. rw (found_log _ (read_log (job_edges j) f)) (log_found (job_edges j) (accepted s bytes six).edge_limit f bytes-in));
        first = told;
        done = whole r served told;
      }
    where
      j : Job
      j = job_of s

      whole :
          (r : Result Replayed Refusal) → Served (replay_refusal s f) (replay_for s f) area (replay_outcome r after)
          → first_told r ≡ first_for (refusal_in r) s f → IfOk r (λ x. ReplayGiven j f (take x.length after) (packets_told x.first))
      whole (Ok x) served told =
          let (six, there) = later_none (refusal s) (is_some (replay_bytes j f)) 8 (served_none served refl) in
          subst (λ (b : List ℕ). ReplayGiven j f b (packets_told x.first)) (sym (served.front refl))
          (subst (ReplayGiven j f (replay_for s f)) (sym told)
          (model_given j (accepted s bytes six) f bytes-in (read_log (job_edges j) f) refl there))
      whole (Err q) served told = tt

-- A number of packets that is told is at most that of the log's packets, of two bytes at least.
first_few : (j : Job) (qs : List Packet) (o : Option ℕ) (k : ℕ) → FirstCheapest j qs o → o ≡ some k → k ≤ length qs
first_few j qs o k (FirstCheapest.after i l h before) e = let same : i ≡ k = cc in omega (arith, same)
first_few j qs o k (FirstCheapest.never n) e = let z : ◌≡◌ {A = ℕ} 0 1 = cc in absurd (omega arith)

pub told_few :
    (s f area : List ℕ) (r : Result Replayed Refusal) (after : List ℕ) → LogReplayed s f area r after → (k : ℕ) → first_told r ≡ some k
    → 2 * k ≤ length f
told_few s f area (Ok x) after p k e =
    let g = p.done in
    omega (arith, first_few (job_of s) g.packets (packets_told x.first) k g.first e, log_size (job_edges (job_of s)) f g.packets g.log)
told_few s f area (Err q) after p k e = let none : 0 ≡ k = cc in omega (arith, none)
