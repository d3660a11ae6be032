-- Questions 1 to 3 by the steps of the code: the counts, and then the links in their arrays. Assumes nothing.
use Rattle.std.specs.Prelude.{ℕ, ◌*◌, ◌≤◌, ◌≡◌, refl, ◌⊎◌, true, false, List, Ok, Err, length, take, drop}
use Rattle.std.proofs.Common.{arith, ap, ◌∙◌, inl, inr, length-append, length-drop}
use Rattle.std.proofs.Math.Path.{sym}
use Rattle.std.proofs.Math.Option.{Option, some, none}
use Rattle.loops.specs.TestLaws.{truth}
use Rattle.number.specs.Number.{Bytes}
use Rattle.frame.specs.Job.{JobLink, Job, bytes_of}
use Rattle.frame.specs.Questions.{numbers, job_of, question2, question3, layout_refusal}
use Rattle.frame.specs.Meaning.{links_of, node_count, edge_count, job_from, Divides}
use Rattle.frame.proofs.Division.{division}
use Rattle.frame.proofs.Form.{question2_means, question3_means}
use Rattle.frame.proofs.RoundTrip.{length_links}
use Rattle.job.specs.declared.Counts.{Counts}
use Rattle.codec.specs.Numbers.{Divided}
use Rattle.limits.specs.declared.Refusal.{Refusal}
use Rattle.limits.specs.declared.Refusal.TheVariants.{Numbers, Counts as OutOfRange, Length}
use Rattle.limits.specs.Refusals.{number_of}
use Rattle.limits.specs.ResultLaws.{same_ok, same_err, ok-err}
use Rattle.job.specs.Reading.{LinksLoaded, links_loaded, load_links, filled, counts_of, Headed}
use Rattle.job.specs.LoadLaws.{load_all}
use Rattle.codec.specs.NumberLaws.{parts_join, drop_divides}

-- Questions 1 to 3 passed: what is known of the counts k.
pub record CountsPassed (s : List ℕ) (k : Counts) : Type 0 where
  pub ns : List ℕ
  pub nodes : (job_of s).nodes ≡ k.nodes
  pub links : (job_of s).links ≡ links_of (drop 2 ns)
  pub edges : length (job_of s).links ≡ k.edges
  pub limit : k.edges ≤ 256
  pub four : length (drop 2 ns) ≡ 4 * k.edges
  pub within : k.behind ≤ length s
  pub rest : Divides (drop k.behind s) (drop 2 ns)
  pub layout : layout_refusal s ≡ 0

-- Either one of questions 1 to 3 refuses, or the frame divides into numbers that pass 2 and 3.
data Case (s : List ℕ) : Type 0 where
  refused : (r : Refusal) → counts_of (numbers s) ≡ Err r → layout_refusal s ≡ number_of r → Case s
  passed : (ns : List ℕ) → numbers s ≡ some ns → question2 ns ≡ true → question3 ns ≡ true → Case s

case_of : (s : List ℕ) (o : Option (List ℕ)) → numbers s ≡ o → Case s
unfolding counts_of
case_of s none e = refused Numbers (rw e) (rw e)
case_of s (some ns) e = second (truth (question2 ns))
  where
    third : question2 ns ≡ true → (question3 ns ≡ true) ⊎ (question3 ns ≡ false) → Case s
    third q₂ (inl q₃) = passed ns e q₂ q₃
    third q₂ (inr q₃) = refused Length (rw (e, q₂, q₃)) (rw (e, q₂, q₃))

    second : (question2 ns ≡ true) ⊎ (question2 ns ≡ false) → Case s
    second (inl q₂) = third q₂ (truth (question3 ns))
    second (inr q₂) = refused OutOfRange (rw (e, q₂)) (rw (e, q₂))

passed_of : (s : List ℕ) → Bytes s → (k : Counts) → Ok k ≡ counts_of (numbers s) → Case s → CountsPassed s k
unfolding counts_of
passed_of s h k e (refused r c f) = absurd (ok-err k r (e ∙ c))
passed_of s h k e (passed ns d q₂ q₃) =
    record {
      ns = ns;
      nodes = ap (λ (j : Job). j.nodes) job ∙ sym (ap (λ (k : Counts). k.nodes) counts);
      links = ap (λ (j : Job). j.links) job;
      edges = ap (λ (j : Job). length j.links) job ∙ length_links (edge_count ns) (drop 2 ns) four ∙ sym edges;
      limit = omega (arith, edges, ((question2_means ns).0 q₂).edge_limit);
      four = four ∙ ap (λ (m : ℕ). 4 * m) (sym edges);
      within = omega (arith, behind, length-append (bytes_of (take 2 ns)) (bytes_of (drop 2 ns)), ap length (parts_join s ns 2 whole));
      rest = rw behind (drop_divides s ns 2 whole);
      layout = rw (d, q₂, q₃);
    }
  where
    whole : Divides s ns
    whole = (division s ns h).0 d

    job : job_of s ≡ job_from ns
    job = rw d

    counts : k ≡ record { nodes = node_count ns; edges = edge_count ns; behind = length (bytes_of (take 2 ns)) }
    counts = same_ok _ _ (e ∙ rw (d, q₂, q₃))

    edges : k.edges ≡ edge_count ns
    edges = ap (λ (k : Counts). k.edges) counts

    behind : k.behind ≡ length (bytes_of (take 2 ns))
    behind = ap (λ (k : Counts). k.behind) counts

    four : length (drop 2 ns) ≡ 4 * edge_count ns
    four = omega (arith, length-drop 2 ns, (question3_means ns).0 q₃)

pub counts_passed : (s : List ℕ) → Bytes s → (k : Counts) → Ok k ≡ counts_of (numbers s) → CountsPassed s k
counts_passed s h k e = passed_of s h k e (case_of s (numbers s) refl)

refused_of : (s : List ℕ) (r : Refusal) → Err r ≡ counts_of (numbers s) → Case s → number_of r ≡ layout_refusal s
unfolding counts_of
refused_of s r e (refused q c f) = ap number_of (same_err _ _ (e ∙ c)) ∙ sym f
refused_of s r e (passed ns d q₂ q₃) =
    let counts : Counts = record { nodes = node_count ns; edges = edge_count ns; behind = length (bytes_of (take 2 ns)) } in
    let right : counts_of (numbers s) ≡ Ok counts = rw (d, q₂, q₃) in
    absurd (ok-err counts r (sym (e ∙ right)))

pub counts_refused : (s : List ℕ) (r : Refusal) → Err r ≡ counts_of (numbers s) → Headed (layout_refusal s) (job_of s) (Err r)
counts_refused s r e = record { number = refused_of s r e (case_of s (numbers s) refl); counts = tt }

module _ (s : List ℕ) (k : Counts) (p : CountsPassed s k) where
  -- Behind the two counts four numbers are left for each link.
  pub links_left : (part : List ℕ) → part ≡ drop k.behind s → Divided part 0 (4 * k.edges)
  links_left part e = record { ns = drop 2 p.ns; enough = omega (arith, p.four); within = omega arith; rest = rw e p.rest }

  -- The links are read into their arrays.
  pub links_read :
      (part : List ℕ) →
      part ≡ drop k.behind s →
      (l : LinksLoaded) →
      l.at ≡ 0 →
      load_links part k.edges l ≡ links_loaded (length part) (filled (job_of s).links 0 l.links)
  links_read part e l z =
      load_all part k.edges 0 (drop 2 p.ns) l p.four (omega arith) (rw (z, e) p.rest) ∙
      ap (λ (ls : List JobLink). links_loaded (length part) (filled ls 0 l.links)) (sym p.links)

  -- What the reader then says.
  pub counts_read : Headed (layout_refusal s) (job_of s) (Ok (record { nodes = k.nodes; edges = k.edges }))
  counts_read = record { number = sym p.layout; counts = λ i. record { nodes = sym p.nodes i; edges = sym p.edges i } }
