-- What follows of a frame that was asked questions 1 to 6: its refusal and its counts; and arrays that hold a job were so
-- filled for a frame. Assumes nothing.
use Rattle.std.specs.Prelude.{ℕ, ◌≡◌, List, Result, Ok, Err, IfOk, length}
use Rattle.std.proofs.Common.{sym, ap, subst, ◌∙◌}
use Rattle.limits.specs.declared.Refusal.{Refusal}
use Rattle.limits.specs.Refusals.{refusal_in}
use Rattle.frame.specs.Job.{Job, job_numbers, job_frame}
use Rattle.frame.specs.Arrays.{Arrays}
use Rattle.frame.specs.Questions.{job_of, refusal}
use Rattle.frame.proofs.Accepted.{numbers_bytes, read_write6}
use Rattle.held.specs.Held.{Held}
use Rattle.job.specs.declared.Header.{Header}
use Rattle.job.specs.Reading.{header_of}
use Rattle.accept.specs.Accepting.{Asked, SomeHeld}

pub asked_number : {s : List ℕ} {r : Result Header Refusal} {a : Arrays} → Asked s r a → refusal s ≡ refusal_in r
asked_number k = sym k.headed.number

pub asked_edges : {s : List ℕ} {h : Header} {a : Arrays} → Asked s (Ok h) a → h.edges ≡ length (job_of s).links
asked_edges k = k.held.stored.edges_are

-- A job that the arrays hold was accepted as its own frame would be.
pub held_asked : {h : Header} {a : Arrays} → SomeHeld {E = Refusal} (Ok h) a → (s : List ℕ) × Asked s (Ok h) a
held_asked {h} {a} (j, k) =
    let (none, same) = read_write6 j k.accepted in (
      job_frame j,
      record {
        bytes = numbers_bytes (job_numbers j);
        headed =
            record {
              number = sym none;
              counts = (λ i. record { nodes = k.stored.nodes_are i; edges = k.stored.edges_are i }) ∙ sym (ap header_of same);
            };
        held = subst (λ (j : Job). Held j h.nodes h.edges a) (sym same) k;
      },
    )

-- Arrays that hold the job of an accepted frame hold some job.
pub some_held : (r : Result Header Refusal) (j : Job) (a : Arrays) → IfOk r (λ h. Held j h.nodes h.edges a) → SomeHeld r a
some_held (Ok h) j a k = (j, k)
some_held (Err q) j a k = tt
