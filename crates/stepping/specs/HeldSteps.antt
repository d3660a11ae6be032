-- The services on step sheets, by the steps of the code: a refusal by the six, one by our own question, and what is written.
-- Assumes nothing.
use Rattle.std.specs.Prelude.{ℕ, ◌≡◌, Bool, List, [], Result, Ok, Err, IfOk, get_or}
use Rattle.std.proofs.Common.{arith, sym, ap, ◌∙◌}
use Rattle.std.proofs.Math.Option
use Rattle.std.proofs.Math.Option.{Option, some, none, map}
use Rattle.loops.specs.GatherLaws.{gather_same, get_d_tabulate}
use Rattle.number.specs.Number.{Bytes}
use Rattle.frame.specs.Job.{Job, bytes_of, cost_of}
use Rattle.frame.specs.Arrays.{Columns}
use Rattle.frame.specs.Services.{written}
use Rattle.frame.specs.Questions.{job_of, refusal, later}
use Rattle.frame.proofs.Form.{later_refused}
use Rattle.limits.specs.declared.Refusal.{Refusal}
use Rattle.limits.specs.declared.Refusal.TheVariants.{Sheet}
use Rattle.limits.specs.Refusals.{number_of}
use Rattle.limits.specs.ResultLaws.{refusal_nonzero}
use Rattle.codec.specs.Numbers.{numbers_at, outcome}
use Rattle.codec.specs.WritingLaws.{put_refused}
use Rattle.job.specs.declared.Header.{Header}
use Rattle.held.specs.Held.{Stored}
use Rattle.job.specs.Reading.{Headed}
use Rattle.accept.specs.AcceptLaws.{accepted_number, accepted_edges}
use Rattle.accept.specs.ArrayLaws.{edges_most, costs_small}
use Rattle.sheet.specs.Sheet.{Move, InRange, sheet_frame, moves_of, move_of, costs_frame}
use Rattle.sheet.specs.Reading.{is_some, read_costs, apply_sheet, costs_at, sheet_bytes, costs_bytes}
use Rattle.sheet.proofs.SheetLaws.{costs_sound}
use Rattle.stepping.specs.Stepping.{link_count, sheet_for, costs_for, sheet_refusal, costs_refusal, AskedCosts, SomeCosts}

-- ---- an accepted job

-- The costs of a job that was asked questions 1 to 6 and accepted are in the array.
pub asked_costs :
    (s : List ℕ) (r : Result Header Refusal) (c : Columns) → Bytes s → Headed (refusal s) (job_of s) r
    → IfOk r (λ h. Stored (job_of s) h.nodes h.edges c) → AskedCosts s r c.cost
asked_costs s (Ok h) c b e k = record { bytes = b; headed = e; costs = k.cost }
asked_costs s (Err q) c b e k = record { bytes = b; headed = e; costs = tt }

pub asked_has : (j : Job) (r : Result Header Refusal) (c : Columns) → IfOk r (λ h. Stored j h.nodes h.edges c) → SomeCosts r c.cost
asked_has j (Ok h) c k = record { few = edges_most k; places = k.cost_places; limit = costs_small k }
asked_has j (Err q) c k = tt

-- ---- our own question

asked_not : (r : ℕ) (o : Option (List ℕ)) → r ≡ 0 → o ≡ none → later r (is_some o) 8 ≡ 8
asked_not r o z e = rw (z, e)

-- Refused by the six.
module _ {s : List ℕ} {q : Refusal} {cs : List ℕ} (k : AskedCosts s (Err q) cs) (f area : List ℕ) where
  six : (holds : Bool) (bytes : List ℕ) → outcome (Err q) area ≡ written (later (refusal s) holds 8) bytes 0 area
  six holds bytes =
      let number : number_of q ≡ refusal s = k.headed.number in
      put_refused (number_of q) bytes 0 area (refusal_nonzero q) ∙
      ap (λ (r : ℕ). written r bytes 0 area) (number ∙ sym (later_refused (refusal s) 8 holds (λ z. refusal_nonzero q (number ∙ z))))

  pub sheet_six : outcome (Err q) area ≡ written (sheet_refusal s f) (sheet_for s f) 0 area
  sheet_six = six _ _

  pub costs_six : outcome (Err q) area ≡ written (costs_refusal s f) (costs_for s f) 0 area
  costs_six = six _ _

-- Accepted by the six.
module _ {s : List ℕ} {h : Header} {cs : List ℕ} (k : AskedCosts s (Ok h) cs) (f area : List ℕ) where
  number : refusal s ≡ 0
  number = accepted_number s h k.headed

  edges : h.edges ≡ link_count (job_of s)
  edges = accepted_edges s h k.headed

  eight :
      (o : Option (List ℕ)) (bytes : List ℕ) → o ≡ none
      → outcome (Err Sheet) area ≡ written (later (refusal s) (is_some o) 8) bytes 0 area
  eight o bytes e = ap (λ (r : ℕ). written r bytes 0 area) (sym (asked_not (refusal s) o number e))

  whole :
      (o : Option (List ℕ)) (bytes : List ℕ) → o ≡ some bytes
      → written 0 bytes 0 area ≡ written (later (refusal s) (is_some o) 8) (Option.get_or o []) 0 area
  whole o bytes e = sym (λ i. written (later (number i) (is_some (e i)) 8) (Option.get_or (e i) []) 0 area)

  -- The costs that go in.
  module _ (o : Option (List ℕ)) (read : o ≡ read_costs h.edges f) where
    sheet_read : sheet_bytes (link_count (job_of s)) (cost_of (job_of s)) f ≡ map (λ ns. sheet_frame (moves_of h.edges (costs_at cs) (costs_at ns))) o
    sheet_read =
        sym ((λ i. map (λ ns. sheet_frame (moves_of h.edges (costs_at cs) (costs_at ns))) (read i)) ∙ (λ i. sheet_bytes (edges i) (k.costs i) f))

  pub sheet_eight : none ≡ read_costs h.edges f → outcome (Err Sheet) area ≡ written (sheet_refusal s f) (sheet_for s f) 0 area
  sheet_eight e = eight (sheet_bytes (link_count (job_of s)) (cost_of (job_of s)) f) _ (sheet_read none e)

  pub sheet_whole :
      (xs : List ℕ) → some (numbers_at h.edges xs) ≡ read_costs h.edges f
      → written 0 (sheet_frame (moves_of h.edges (costs_at cs) (costs_at xs))) 0 area ≡ written (sheet_refusal s f) (sheet_for s f) 0 area
  sheet_whole xs e =
      let m = h.edges in
      let same : moves_of m (costs_at cs) (costs_at xs) ≡ moves_of m (costs_at cs) (costs_at (numbers_at m xs)) =
      gather_same m (λ i. move_of i (costs_at cs i) (costs_at xs i)) (λ i. move_of i (costs_at cs i) (costs_at (numbers_at m xs) i))
      (λ i l. ap (move_of i (costs_at cs i)) (sym (get_d_tabulate (costs_at xs) m i 0 l))) in
      ap (λ (ks : List Move). written 0 (sheet_frame ks) 0 area) same ∙
      whole (sheet_bytes (link_count (job_of s)) (cost_of (job_of s)) f) _ (sheet_read (some (numbers_at m xs)) e)

  -- The sheet that goes in.
  module _ (o : Option (ℕ → ℕ)) (applied : o ≡ apply_sheet h.edges (costs_at cs) f) where
    costs_applied : costs_bytes (link_count (job_of s)) (cost_of (job_of s)) f ≡ map (costs_frame h.edges) o
    costs_applied = sym ((λ i. map (costs_frame h.edges) (applied i)) ∙ (λ i. costs_bytes (edges i) (k.costs i) f))

  pub costs_eight :
      none ≡ apply_sheet h.edges (costs_at cs) f → outcome (Err Sheet) area ≡ written (costs_refusal s f) (costs_for s f) 0 area
  costs_eight e = eight (costs_bytes (link_count (job_of s)) (cost_of (job_of s)) f) _ (costs_applied none e)

  pub costs_whole :
      (xs : List ℕ) → some (costs_at xs) ≡ apply_sheet h.edges (costs_at cs) f
      → written 0 (bytes_of (numbers_at h.edges xs)) 0 area ≡ written (costs_refusal s f) (costs_for s f) 0 area
  costs_whole xs e = whole (costs_bytes (link_count (job_of s)) (cost_of (job_of s)) f) _ (costs_applied (some (costs_at xs)) e)

-- Costs that were read are in range.
pub read_in_range : (m : ℕ) (f xs : List ℕ) → Bytes f → some (numbers_at m xs) ≡ read_costs m f → InRange m (costs_at xs)
read_in_range m f xs h e i l =
    omega (arith, (costs_sound m f h (numbers_at m xs) (sym e)).limit i l, get_d_tabulate (λ i. get_or xs i 0) m i 0 l)
