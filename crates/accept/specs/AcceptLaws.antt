-- Questions 1 to 6 by the steps of the code: those of the frame first, then those of the job. Assumes nothing.
use Rattle.std.specs.Prelude.{ℕ, ◌≤◌, ◌≡◌, List, Ok, Err, length}
use Rattle.std.proofs.Common.{arith, sym, ap, ◌∙◌}
use Rattle.number.specs.Number.{Bytes}
use Rattle.limits.specs.declared.Refusal.{Refusal}
use Rattle.limits.specs.Refusals.{number_of}
use Rattle.limits.specs.ResultLaws.{refusal_nonzero}
use Rattle.frame.specs.Questions.{job_of, layout_refusal, job_refusal, refusal}
use Rattle.frame.proofs.Form.{layout_refused, layout_passed}
use Rattle.frame.proofs.Accepted.{accepted}
use Rattle.job.specs.declared.Header.{Header}
use Rattle.job.specs.Reading.{Headed}

-- The reader refused: so does the whole.
pub accept_refused : (s : List ℕ) (r : Refusal) → Headed (layout_refusal s) (job_of s) (Err r) → Headed (refusal s) (job_of s) (Err r)
accept_refused s r k =
    let some = λ (z : layout_refusal s ≡ 0). refusal_nonzero r (k.number ∙ z) in
    record { number = k.number ∙ sym (layout_refused s some); counts = tt }

-- The reader gave the counts h: what questions 4 to 6 then say.
module _ (s : List ℕ) (h : Header) (k : Headed (layout_refusal s) (job_of s) (Ok h)) where
  pub layout_zero : layout_refusal s ≡ 0
  layout_zero = sym k.number

  pub header_nodes : h.nodes ≡ (job_of s).nodes
  header_nodes = ap (λ (h : Header). h.nodes) k.counts

  pub header_edges : h.edges ≡ length (job_of s).links
  header_edges = ap (λ (h : Header). h.edges) k.counts

  pub job_refused : (r : Refusal) → number_of r ≡ job_refusal (job_of s) → Headed (refusal s) (job_of s) (Err r)
  job_refused r said = record { number = said ∙ sym (layout_passed s layout_zero); counts = tt }

  pub job_accepted : 0 ≡ job_refusal (job_of s) → Headed (refusal s) (job_of s) (Ok h)
  job_accepted said = record { number = said ∙ sym (layout_passed s layout_zero); counts = k.counts }

-- What `accept` said of an accepted frame.
module _ (s : List ℕ) (h : Header) (k : Headed (refusal s) (job_of s) (Ok h)) where
  pub accepted_number : refusal s ≡ 0
  accepted_number = sym k.number

  pub accepted_nodes : h.nodes ≡ (job_of s).nodes
  accepted_nodes = ap (λ (h : Header). h.nodes) k.counts

  pub accepted_edges : h.edges ≡ length (job_of s).links
  accepted_edges = ap (λ (h : Header). h.edges) k.counts

  -- It has at most 256 links.
  pub accepted_few : Bytes s → h.edges ≤ 256
  accepted_few b = omega (arith, accepted_edges, (accepted s b accepted_number).edge_limit)
