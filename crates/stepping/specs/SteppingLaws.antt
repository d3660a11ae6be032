-- A reply by the definition keeps what the services on step sheets promise. Assumes nothing.
use Rattle.std.specs.Prelude.{ℕ, ◌≡◌, refl, true, List, [], ◌++◌, pos, nat_abs, ◌-ℤ◌, Result, Ok, Err, IfOk, length, get_or, take}
use Rattle.std.proofs.Common.{arith, sym, ap, subst, ◌∙◌}
use Rattle.std.proofs.Math.Decide.{dec_lt}
use Rattle.std.proofs.Math.Option
use Rattle.std.proofs.Math.Option.{Option, some, none}
use Rattle.std.proofs.Math.ListN.{get_or-append, get_or-eq_default}
use Rattle.loops.specs.SumLaws.{sum_same}
use Rattle.loops.specs.TestLaws.{clash}
use Rattle.number.specs.Number.{Bytes}
use Rattle.optimum.specs.Optimum.{Answer}
use Rattle.frame.specs.Job.{Job, bytes_of, cost_of}
use Rattle.frame.specs.Meaning.{Small, Divides, Accepted}
use Rattle.frame.specs.AnswerMeaning.{Certified}
use Rattle.frame.specs.Services.{written, Served}
use Rattle.frame.specs.Questions.{job_of, refusal}
use Rattle.frame.proofs.Form.{later_first, later_none}
use Rattle.frame.proofs.Accepted.{accepted, cost_small}
use Rattle.frame.proofs.Outcomes.{served_of, served_none}
use Rattle.limits.specs.declared.Refusal.{Refusal}
use Rattle.codec.specs.Numbers.{outcome}
use Rattle.sheet.specs.Sheet.{InRange, Translated, move_sum}
use Rattle.sheet.specs.Reading.{is_some, sheet_bytes, costs_bytes}
use Rattle.sheet.proofs.SheetLaws.{sheet_found, costs_found, sheet_means, costs_means, translated_sheet, translated_costs}
use Rattle.sheet.proofs.SheetLaws.{translated_sum, translated_most, translated_costs_most, translated_costs_are}
use Rattle.stepping.specs.Stepping.{link_count, sheet_for, costs_for, sheet_refusal, costs_refusal, SheetGiven, CostsGiven, SheetMade, SheetApplied}

-- What is there was found.
found_is : (o : Option (List ℕ)) → is_some o ≡ true → o ≡ some (Option.get_or o [])
found_is (some x) e = refl
found_is none e = clash e refl

-- Numbers in front of others are as small.
small_front : (xs ys : List ℕ) → Small (xs ++ ys) → Small xs
small_front xs ys h i =
    elim (dec_lt i (length xs)) [
      | yes l ↦ rw (get_or-append xs ys 0 i l) at (h i)
      | no l ↦ rw (get_or-eq_default xs 0 {n = i} (omega arith)) (omega arith)
    ]

-- An accepted job has few links, of costs in range.
module _ (j : Job) (a : Accepted j) where
  old : InRange (link_count j) (cost_of j)
  old e _ = cost_small j a.small e

  -- The sheet of the costs of an answer judged yes: its absolute changes are the answer's steps.
  answer_steps : (s f : List ℕ) (t : Translated (link_count j) (cost_of j) s f) (g : List ℕ) (b : Answer) → Certified j g b → bytes_of b.costs ≡ f
      → move_sum t.moves ≡ b.steps
  answer_steps s f t g b k same =
      let divides : Divides f b.costs = record { small = small_front b.costs _ k.layout.small; joined = same } in
      let costs = translated_costs_are (link_count j) a.edge_limit (cost_of j) old s f t b.costs divides in
      translated_sum (link_count j) a.edge_limit (cost_of j) old s f t ∙
      sum_same (link_count j) (λ e. nat_abs (pos (t.new e) -ℤ pos (cost_of j e))) (λ e. nat_abs (pos (get_or b.costs e 0) -ℤ pos (cost_of j e)))
      (λ e l. ap (λ (x : ℕ). nat_abs (pos x -ℤ pos (cost_of j e))) (costs e l)) ∙
      sym k.certificate.steps

  sheet_given : (f b : List ℕ) → Bytes f → sheet_bytes (link_count j) (cost_of j) f ≡ some b → SheetGiven j f b
  sheet_given f b h q =
      let t = (sheet_means (link_count j) a.edge_limit (cost_of j) old b f h).0 q in
      record {
        translated = t;
        again = translated_costs (link_count j) a.edge_limit (cost_of j) old b f t;
        steps = answer_steps b f t;
        most = translated_most (link_count j) a.edge_limit (cost_of j) old b f t;
      }

  costs_given : (f b : List ℕ) → Bytes f → costs_bytes (link_count j) (cost_of j) f ≡ some b → CostsGiven j f b
  costs_given f b h q =
      let t = (costs_means (link_count j) a.edge_limit (cost_of j) old f b h).0 q in
      record {
        translated = t;
        again = translated_sheet (link_count j) a.edge_limit (cost_of j) old f b t;
        most = translated_costs_most (link_count j) a.edge_limit (cost_of j) old f b t;
      }

module _ (s f area : List ℕ) (bytes : Bytes s) (bytes-in : Bytes f) (r : Result ℕ Refusal) (after : List ℕ) where
  pub sheet_made_of : outcome r after ≡ written (sheet_refusal s f) (sheet_for s f) 0 area → SheetMade s f area r after
  sheet_made_of e =
      let served = served_of (sheet_refusal s f) (sheet_for s f) area (outcome r after) e in
      record {
        served = served;
        first = later_first s 8 (is_some sheet) _ bytes (λ _. sheet_found (link_count j) (cost_of j) f bytes-in);
        done = whole r served;
      }
    where
      j : Job
      j = job_of s

      sheet : Option (List ℕ)
      sheet = sheet_bytes (link_count j) (cost_of j) f

      whole :
          (r : Result ℕ Refusal) → Served (sheet_refusal s f) (sheet_for s f) area (outcome r after)
          → IfOk r (λ n. SheetGiven j f (take n after))
      whole (Ok n) served =
          let (six, there) = later_none (refusal s) (is_some sheet) 7 (served_none served refl) in
          subst (SheetGiven j f) (sym (served.front refl)) (sheet_given j (accepted s bytes six) f (sheet_for s f) bytes-in (found_is sheet there))
      whole (Err q) served = tt

  pub sheet_applied_of : outcome r after ≡ written (costs_refusal s f) (costs_for s f) 0 area → SheetApplied s f area r after
  sheet_applied_of e =
      let served = served_of (costs_refusal s f) (costs_for s f) area (outcome r after) e in
      record {
        served = served;
        first =
            later_first s 8 (is_some costs) _ bytes
            (λ six. let a = accepted s bytes six in costs_found (link_count j) a.edge_limit (cost_of j) (old j a) f bytes-in);
        done = whole r served;
      }
    where
      j : Job
      j = job_of s

      costs : Option (List ℕ)
      costs = costs_bytes (link_count j) (cost_of j) f

      whole :
          (r : Result ℕ Refusal) → Served (costs_refusal s f) (costs_for s f) area (outcome r after)
          → IfOk r (λ n. CostsGiven j f (take n after))
      whole (Ok n) served =
          let (six, there) = later_none (refusal s) (is_some costs) 7 (served_none served refl) in
          subst (CostsGiven j f) (sym (served.front refl)) (costs_given j (accepted s bytes six) f (costs_for s f) bytes-in (found_is costs there))
      whole (Err q) served = tt
