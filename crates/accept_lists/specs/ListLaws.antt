-- A list of links in arrays: the arrays store its job, and questions 4 to 6 come behind questions 1 and 2. Assumes nothing.
use Rattle.std.specs.Prelude.{ℕ, ◌≤◌, ◌≡◌, refl}
use Rattle.std.proofs.Math.Decide.{dec_lt}
use Rattle.std.proofs.Common.{arith, sym, ap, ◌∙◌}
use Rattle.std.proofs.Math.Path.{fun_ext}
use Rattle.std.proofs.Math.ListN.{get_or-eq_default}
use Rattle.loops.specs.GatherLaws.{get_d_tabulate}
use Rattle.frame.specs.Job.{JobLink, Job, no_link, link}
use Rattle.frame.specs.Questions.{counted, job_refusal, list_layout_refusal, list_refusal}
use Rattle.frame.proofs.Form.{two_refused, two_passed}
use Rattle.frame.specs.Services.{small}
use Rattle.frame.proofs.Lists.{layout_listed}
use Rattle.frame.specs.Arrays.{Columns, link_at, links_at, job_at}
use Rattle.links.specs.ColumnLaws.{rows_length}
use Rattle.accept_lists.specs.Lists.{ListHeld}
use Rattle.held.specs.Held.{Stored}

-- A refusal by questions 1 and 2 is that of the list; without one it is that of the job.
pub list_layout_refused : (j : Job) → (list_layout_refusal j ≡ 0 → ⊥) → list_refusal j ≡ list_layout_refusal j
list_layout_refused j n = two_refused (small j) (counted j) 1 2 (job_refusal j) n

pub list_layout_passed : (j : Job) → list_layout_refusal j ≡ 0 → list_refusal j ≡ job_refusal j
list_layout_passed j z = two_passed (small j) (counted j) 0 1 (job_refusal j) z

module _ (nodes edges : ℕ) (c : Columns) (h : ListHeld edges c) where
  -- At every place the arrays say what the list says.
  said :
      (f : JobLink → ℕ) →
      f no_link ≡ 0 →
      ((e : ℕ) → edges ≤ e → f (link_at c e) ≡ 0) →
      ◌≡◌ {A = ℕ → ℕ} (λ e. f (link_at c e)) (λ e. f (link (job_at nodes edges c) e))
  said f z past =
      fun_ext λ e.
      elim (dec_lt e edges) [
        | yes l ↦ sym (ap f (get_d_tabulate (link_at c) edges e no_link l))
        | no l ↦
            past e (omega arith) ∙
            sym (ap f (get_or-eq_default (links_at edges c) no_link (omega (arith, rows_length edges c))) ∙ z)
      ]

  pub list_stored : list_layout_refusal (job_at nodes edges c) ≡ 0 → Stored (job_at nodes edges c) nodes edges c
  list_stored z =
      let (small, counted) = layout_listed (job_at nodes edges c) z in
      record {
        small = small;
        counted = counted;
        nodes_are = refl;
        edges_are = sym (rows_length edges c);
        end₁ = said (λ (l : JobLink). l.end₁) refl h.end₁;
        end₁_places = h.places.end₁;
        end₂ = said (λ (l : JobLink). l.end₂) refl h.end₂;
        cost = said (λ (l : JobLink). l.cost) refl h.cost;
        cost_places = h.places.cost;
        mark = said (λ (l : JobLink). l.mark) refl h.mark;
        mark_places = h.places.mark;
      }
