-- A list of records is accepted as its frame is. Assumes nothing.
use Rattle.std.specs.Prelude.{ℕ, ◌≡◌, true, false, Result, Ok, Err}
use Rattle.std.proofs.Common.{sym, ap, subst, ◌∙◌}
use Rattle.loops.specs.TestLaws.{clash}
use Rattle.frame.specs.Job.{Job, job_numbers, job_frame}
use Rattle.frame.specs.Arrays.{Arrays}
use Rattle.frame.specs.Questions.{refusal, list_refusal}
use Rattle.frame.specs.Services.{small}
use Rattle.frame.proofs.Lists.{list_as_frame, list_passed, list_read}
use Rattle.frame.proofs.Accepted.{numbers_bytes}
use Rattle.held.specs.Held.{Held}
use Rattle.job.specs.declared.Header.{Header}
use Rattle.limits.specs.declared.Refusal.{Refusal}
use Rattle.limits.specs.Refusals.{number_of, refusal_in}
use Rattle.job.specs.Reading.{header_of}
use Rattle.accept.specs.Accepting.{tree_refusal}
use Rattle.accept_lists.specs.Given.{ListAccepted}

-- The first refusal of a list whose numbers are small is its frame's; of any other it is 1.
pub frame_number : (j : Job) → small j ≡ true → refusal (job_frame j) ≡ list_refusal j
frame_number j y = sym (list_as_frame tree_refusal j y)

pub large_number : (j : Job) → small j ≡ false → list_refusal j ≡ 1
large_number j f = rw f

-- What is said of a refused list, and of an accepted one.
pub list_refused : (j : Job) (r : Refusal) (a : Arrays) → number_of r ≡ list_refusal j → ListAccepted j (Err r) a
list_refused j r a e =
    record {
      large = λ f. e ∙ large_number j f;
      asked = λ y.
          record {
            bytes = numbers_bytes (job_numbers j);
            headed = record { number = e ∙ sym (frame_number j y); counts = tt };
            held = tt;
          };
    }

pub list_held :
    (j : Job) (nodes edges : ℕ) (a : Arrays) → list_refusal j ≡ 0 → Held j nodes edges a →
    ListAccepted j (Ok (record { nodes = nodes; edges = edges })) a
list_held j nodes edges a e hold =
    let y = (list_passed tree_refusal j e).0.small in
    record {
      large = λ f. absurd (clash y f);
      asked = λ _.
          record {
            bytes = numbers_bytes (job_numbers j);
            headed =
                record {
                  number = sym (frame_number j y ∙ e);
                  counts =
                      (λ i. record { nodes = hold.stored.nodes_are i; edges = hold.stored.edges_are i }) ∙
                      sym (ap header_of (list_read j y));
                };
            held = subst (λ (k : Job). Held k nodes edges a) (sym (list_read j y)) hold;
          };
    }

-- A large number is refused by question 1.
pub asked_large : {j : Job} {r : Result Header Refusal} {a : Arrays} → small j ≡ false → ListAccepted j r a → refusal_in r ≡ 1
asked_large n k = k.large n
