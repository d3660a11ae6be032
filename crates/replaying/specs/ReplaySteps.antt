-- The service that replays packet logs, by the steps of the code: the first number by the violations that are left, a refusal by the
-- six, one by our own question, and what is written. Assumes nothing.
use Prim.Native.Nat.{ℕ, zero, suc, ◌≤◌}
use Rattle.std.proofs.Common.{arith, ◌∙◌, inl, inr, eq-eqb, ne_eqb}
use Rattle.std.specs.Prelude as prelude
use Rattle.std.specs.Prelude.{◌≡◌, refl, ◌⊎◌, Bool, List, [], None, Some, Result, Ok, Err, ltb, length, take, drop}
use Rattle.std.proofs.Math.Path.{sym, ap, fun_ext}
use Rattle.std.proofs.Math.Bool.{cond}
use Rattle.std.proofs.Math.Option.{Option, some, none, map, get_or}
use Rattle.loops.specs.Loop.{first}
use Rattle.graph.specs.Rank.{tree_ranks}
use Rattle.graph.specs.Paths.{judge}
use Rattle.frame.specs.Job.{Job, bytes_of, graph_of, tree_of, cost_of}
use Rattle.frame.specs.Arrays.{Arrays}
use Rattle.frame.specs.Services.{written}
use Rattle.frame.specs.Questions.{job_of, refusal, later}
use Rattle.frame.proofs.Form.{later_refused}
use Rattle.limits.specs.declared.Refusal.{Refusal}
use Rattle.limits.specs.declared.Refusal.TheVariants.{Log}
use Rattle.limits.specs.Refusals.{number_of, refusal_in}
use Rattle.limits.specs.ResultLaws.{refusal_nonzero}
use Rattle.codec.specs.Numbers.{numbers_at, outcome}
use Rattle.codec.specs.WritingLaws.{put_refused}
use Rattle.job.specs.declared.Header.{Header}
use Rattle.accept.specs.Accepting.{Asked}
use Rattle.sheet.specs.Sheet.{costs_frame}
use Rattle.sheet.specs.Reading.{is_some, costs_at}
use Rattle.replay.specs.Log.{Packet, replayed}
use Rattle.replay.specs.LogReading.{read_log}
use Rattle.replay.specs.Replaying.{job_edges, replay_bytes, first_of}
use Rattle.replay.proofs.Hearing.{rest_unread, all_packets, all_read, all_costs, first_here, first_nowhere}
use Rattle.watch.specs.declared.Heard.{Heard}
use Rattle.violations.specs.Counting.{violations_by}
use Rattle.watch.specs.Watching.{none_at, HeardSoFar}
use Rattle.replaying.specs.Replayed.{packets_told, first_told, replay_outcome, replay_for, replay_refusal, first_in, first_for}
use Rattle.replaying.specs.Replayed.{when_left, with_first}
use Rattle.replaying.specs.HeldCounts.{cheapest_held}

-- ---- the first number

pub when_never : (v count : ℕ) → (v ≡ 0 → ⊥) → None ≡ when_left v count
when_never v count n = rw (ne_eqb v 0 n)

pub when_after : (v count : ℕ) → v ≡ 0 → Some count ≡ when_left v count
when_after v count e = rw e

-- ---- a refusal

asked_not : (r : ℕ) (o : Option (List Packet)) (g : List Packet → List ℕ) → r ≡ 0 → o ≡ none → later r (is_some (map g o)) 9 ≡ 9
asked_not r o g z e = rw (z, e)

pub told_refused : (r : ℕ) (s f : List ℕ) → (r ≡ 0 → ⊥) → none ≡ first_for r s f
told_refused zero s f n = absurd (n refl)
told_refused (suc r) s f n = refl

-- By the six.
module _ {s : List ℕ} {q : Refusal} {a : Arrays} (k : Asked s (Err q) a) (f area : List ℕ) where
  pub replay_six : replay_outcome (Err q) area ≡ written (replay_refusal s f) (replay_for s f) 0 area
  replay_six =
      let number : number_of q ≡ refusal s = k.headed.number in
      put_refused (number_of q) _ 0 area (refusal_nonzero q) ∙
      ap (λ (r : ℕ). written r (replay_for s f) 0 area)
      (number ∙ sym (later_refused (refusal s) 9 (is_some (replay_bytes (job_of s) f)) (λ z. refusal_nonzero q (number ∙ z))))

-- Accepted by the six.
module _ {s : List ℕ} {h : Header} {a : Arrays} (k : Asked s (Ok h) a) (f area : List ℕ) where
  six : refusal s ≡ 0
  six = sym k.headed.number

  edges : h.edges ≡ job_edges (job_of s)
  edges = k.held.stored.edges_are

  -- By our own question.
  pub replay_nine : read_log h.edges f ≡ none → replay_outcome (Err Log) area ≡ written (replay_refusal s f) (replay_for s f) 0 area
  replay_nine e =
      ap (λ (r : ℕ). written r (replay_for s f) 0 area)
      (sym (asked_not (refusal s) (read_log (job_edges (job_of s)) f) _ six (sym (ap (λ (m : ℕ). read_log m f) edges) ∙ e)))

  -- ---- what is written

  abbrev counted : (ℕ → ℕ) → ℕ
  counted = violations_by h.edges a.ranks a.links.end₁ a.links.end₂ a.links.mark a.mask

  module _ (r : Heard) (cs : List ℕ) (w : HeardSoFar h.edges f counted a.links.cost r cs) where
    -- The packets behind those that were watched are none.
    pub replay_broken : none ≡ map (λ qs. replayed qs (costs_at cs)) (read_log h.edges (drop r.at f)) → read_log h.edges f ≡ none
    replay_broken e = rest_unread h.edges f (costs_at a.links.cost) (none_at counted) r.at r.count (costs_at cs) w.heard e

    module _ (xs : List ℕ) (e : some (costs_at xs) ≡ map (λ qs. replayed qs (costs_at cs)) (read_log h.edges (drop r.at f))) where
      qs : List Packet
      qs = all_packets h.edges f (costs_at a.links.cost) (none_at counted) r.at r.count (costs_at cs) w.heard (costs_at xs) e

      log : read_log (job_edges (job_of s)) f ≡ some qs
      unfolding qs
      log =
          sym (ap (λ (m : ℕ). read_log m f) edges)
          ∙ all_read h.edges f (costs_at a.links.cost) (none_at counted) r.at r.count (costs_at cs) w.heard (costs_at xs) e

      old : costs_at a.links.cost ≡ cost_of (job_of s)
      old = k.held.stored.cost

      costs : costs_at xs ≡ replayed qs (cost_of (job_of s))
      unfolding qs
      costs =
          all_costs h.edges f (costs_at a.links.cost) (none_at counted) r.at r.count (costs_at cs) w.heard (costs_at xs) e
          ∙ ap (replayed qs) old

      pub replay_whole : written 0 (bytes_of (numbers_at h.edges xs)) 0 area ≡ written (replay_refusal s f) (replay_for s f) 0 area
      replay_whole =
          (λ i. written 0 (costs_frame (edges i) (costs i)) 0 area)
          ∙ sym (λ i. written (later (six i) (is_some (map frame (log i))) 9) (get_or (map frame (log i)) []) 0 area)
        where
          frame : List Packet → List ℕ
          frame qs = costs_frame (job_edges (job_of s)) (replayed qs (cost_of (job_of s)))

      -- The first number of packets, by the test over the arrays.
      abbrev asked : ℕ → Bool
      asked i = none_at counted (replayed (take i qs) (costs_at a.links.cost))

      abbrev found : Option ℕ
      found = cond (ltb (first (suc (length qs)) asked) (suc (length qs))) (some (first (suc (length qs)) asked)) none

      model_first : found ≡ first_for 0 s f
      unfolding first_of
      model_first =
          (λ i. cond (ltb (first (suc (length qs)) (same i)) (suc (length qs))) (some (first (suc (length qs)) (same i))) none)
          ∙ sym (λ i. first_in (job_of s) (log i))
        where
          j : Job
          j = job_of s

          same : ◌≡◌ {A = ℕ → Bool} asked (λ i. judge (graph_of j) (tree_of j) (replayed (take i qs) (cost_of j))
              (tree_ranks (graph_of j) (tree_of j) (cost_of j)))
          same =
              (λ i n. none_at counted (replayed (take n qs) (old i)))
              ∙ fun_ext (λ n. cheapest_held k.held (replayed (take n qs) (cost_of j)))

      pub replay_first : packets_told (when_left r.violations r.count) ≡ first_for 0 s f
      unfolding qs
      replay_first = of r.violations w.left w.ends ∙ model_first
        where
          of :
              (v : ℕ) → v ≡ counted (costs_at cs) → (v ≡ 0) ⊎ (length f ≤ r.at)
              → packets_told (when_left v r.count) ≡ found
          of zero left ends =
              sym (first_here h.edges f (costs_at a.links.cost) (none_at counted) r.at r.count (costs_at cs) w.heard (costs_at xs) e
              (eq-eqb (counted (costs_at cs)) 0 (sym left)))
          of (suc v) left (inl q) = absurd (omega (arith, q))
          of (suc v) left (inr l) =
              sym (ap packets_told (when_never (suc v) r.count (λ q. omega (arith, q))))
              ∙ sym (first_nowhere h.edges f (costs_at a.links.cost) (none_at counted) r.at r.count (costs_at cs) w.heard (costs_at xs) e
              (ne_eqb (counted (costs_at cs)) 0 (λ q. omega (arith, left, q))) l)

-- ---- what was written, with the first number

pub first_refused : (q : Refusal) (when : prelude.Option ℕ) → Err q ≡ with_first (Err q) when
first_refused q when = refl

pub first_written : (n : ℕ) (when : prelude.Option ℕ) → Ok (record { length = n; first = when }) ≡ with_first (Ok n) when
first_written n when = refl

pub with_outcome :
    (reply : Result ℕ Refusal) (after bytes area : List ℕ) (when : prelude.Option ℕ) → outcome reply after ≡ written 0 bytes 0 area
    → replay_outcome (with_first reply when) after ≡ written 0 bytes 0 area
with_outcome (Ok n) after bytes area when e = e
with_outcome (Err q) after bytes area when e = e

pub with_told :
    (r : Result ℕ Refusal) (when : prelude.Option ℕ) (s f : List ℕ) → packets_told when ≡ first_for 0 s f
    → first_told (with_first r when) ≡ first_for (refusal_in (with_first r when)) s f
with_told (Ok n) when s f e = e
with_told (Err q) when s f e = told_refused (number_of q) s f (refusal_nonzero q)
