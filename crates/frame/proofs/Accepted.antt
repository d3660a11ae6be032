-- Accepted jobs, those that pass questions 1 to 6: what they are, and that a frame or a list of links passes exactly if it is one;
-- the round trips of accepted jobs; when question 6 refuses. Assumes nothing.
use Rattle.std.specs.Prelude.{ℕ, zero, suc, ◌≤◌, ◌<◌, ◌≡◌, refl, ◌↔◌, true, ◌&&◌, leb, length, get_or}
use Rattle.std.proofs.Math.Decide.{ℕ_discrete}
use Rattle.std.proofs.Common.{arith, sym, subst, ap, ◌∙◌, le-leb}
use mathlib.Core.List.{List, [], ◌∷◌, ◌++◌, flat_map}
use Rattle.std.proofs.Math.Option.{Option}
use Rattle.loops.specs.TestLaws.{and_both, all_of}
use Rattle.number.specs.Number.{Bytes, encode}
use Rattle.number.proofs.Laws.{bytes_nil, bytes_append, encode_bytes}
use Rattle.graph.specs.Graph.{Sound}
use Rattle.frame.specs.Job.{JobLink, Job, no_link, link, fields, job_numbers, bytes_of, job_frame, graph_of, cost_of}
use Rattle.limits.specs.Limits.{max_nodes, max_edges, max_number, number_bytes}
use Rattle.frame.specs.Questions.{job_of, numbers, question1, question2, question3, question6}
use Rattle.frame.specs.Questions.{ask, layout_refusal, form_refusal, refusal, counted, list_refusal}
use Rattle.frame.specs.Services.{small_numbers, small}
use Rattle.frame.specs.Meaning.{Small, Divides, Counted, Complete, EndsHold, TreeHolds, Formed, FirstNo, Accepted, job_from}
use Rattle.frame.specs.Meaning.FirstNo.{no1, no2, no3, no4, no5, no6, none}
use Rattle.frame.proofs.Division.{division}
use Rattle.frame.proofs.Form.{question2_means, question3_means, question4_means, question5_means, question6_means, ends_sound}
use Rattle.frame.proofs.Form.{first_no, first_no_unique, form_refusal_lem, before_tree, layout_refused}
use Rattle.frame.proofs.RoundTrip.{job_numbers_lem, formed, job_of_lem, write_read}
use Rattle.frame.proofs.Lists.{Listed, ask_passed, list_passed, small_job, counted_limits, list_as_frame, list_read}

-- ---- jobs that pass questions 1 to 5

small_edge : (l : JobLink) (rest : List ℕ) → Small (fields l ++ rest) → small_numbers l ≡ true
small_edge l rest h =
    rw (le-leb l.end₁ max_number (h 0), le-leb l.end₂ max_number (h 1), le-leb l.cost max_number (h 2), le-leb l.mark max_number (h 3))

small_edges : (ls : List JobLink) → Small (flat_map fields ls) → (e : ℕ) → e < length ls → small_numbers (get_or ls e no_link) ≡ true
unfolding flat_map
small_edges [] h e l = absurd (omega arith)
small_edges (k ∷ ls) h zero l = small_edge k (flat_map fields ls) h
small_edges (k ∷ ls) h (suc e) l = small_edges ls (λ i. h (suc (suc (suc (suc i))))) e (omega arith)

job_small : (j : Job) → Small (job_numbers j) → small j ≡ true
unfolding small
job_small j h =
    and_both (leb j.nodes max_number && leb (length j.links) max_number) _
    (and_both (leb j.nodes max_number) _ (le-leb j.nodes max_number (h 0)) (le-leb (length j.links) max_number (h 1)))
    (all_of (length j.links) (λ e. small_numbers (link j e)) (small_edges j.links (λ i. h (suc (suc i)))))

-- A job that passes questions 1 to 5 is an accepted one if its marked links are a spanning tree.
tree_accepted : (j : Job) → Listed j → TreeHolds j → Accepted j
tree_accepted j q t =
    let (some, nodes, edges) = counted_limits j q.counted in
    record {
      some_node = some;
      node_limit = nodes;
      edge_limit = edges;
      small = small_job j q.small;
      sound = ends_sound j q.ends;
      marks = q.marks;
      tree = t;
    }

pub listed_accepted : (j : Job) → Listed j → question6 j ≡ true → Accepted j
listed_accepted j q y = tree_accepted j q ((question6_means j (counted_limits j q.counted).0 q.ends).0 y)

-- ---- frames

passed : {s : List ℕ} {r : ℕ} → FirstNo s r → r ≡ 0 → (ns : List ℕ) × Formed s ns × TreeHolds (job_from ns)
passed (no1 q) e = absurd (omega arith)
passed (no2 ns d q) e = absurd (omega arith)
passed (no3 ns d h₂ q) e = absurd (omega arith)
passed (no4 ns d h₂ h₃ q) e = absurd (omega arith)
passed (no5 ns d h₂ h₃ h₄ q) e = absurd (omega arith)
passed (no6 ns f q) e = absurd (omega arith)
passed (none ns f t) e = (ns, f, t)

-- Numbers that pass questions 1 to 3 are a job of small numbers and counts.
laid_small : {s ns : List ℕ} → Divides s ns → Counted ns → Complete ns → (small (job_from ns) ≡ true) × (counted (job_from ns) ≡ true)
unfolding counted
laid_small {ns = ns} d c k =
    let same : job_numbers (job_from ns) ≡ ns = job_numbers_lem ns c.two k in
    let edges : length (job_from ns).links ≤ max_edges = rw (ap (λ ms. get_or ms 1 0) same) c.edge_limit in (
      job_small (job_from ns) (subst Small (sym same) d.small),
      rw (
        le-leb 1 (job_from ns).nodes c.some_node,
        le-leb (job_from ns).nodes max_nodes c.node_limit,
        le-leb (length (job_from ns).links) max_edges edges,
      ),
    )

formed_listed : {s ns : List ℕ} → Formed s ns → Listed (job_from ns)
formed_listed f =
    let (small, counted) = laid_small f.divides f.counted f.complete in
    record { small = small; counted = counted; ends = f.ends; marks = f.marks }

-- The numbers of a frame that passes questions 1 to 3, and its job.
pub laid : (s : List ℕ) → Bytes s → layout_refusal s ≡ 0 → (ns : List ℕ) × Divides s ns × Counted ns × Complete ns
laid s h = of (numbers s) refl
  where
    of :
        (o : Option (List ℕ)) → numbers s ≡ o → (question1 o λ ns. ask (question2 ns) 2 λ _. ask (question3 ns) 3 λ _. 0) ≡ 0 →
        (ns : List ℕ) × Divides s ns × Counted ns × Complete ns
    of (Option.some ns) e z =
        let (y₂, r) = ask_passed (question2 ns) 1 (λ _. ask (question3 ns) 3 λ _. 0) z in
        let (y₃, _) = ask_passed (question3 ns) 2 (λ _. 0) r in
        (ns, (division s ns h).0 e, (question2_means ns).0 y₂, (question3_means ns).0 y₃)
    of Option.none e z = absurd (omega (arith, z))

pub laid_job : (s : List ℕ) → Bytes s → layout_refusal s ≡ 0 → (small (job_of s) ≡ true) × (counted (job_of s) ≡ true)
laid_job s h e =
    let (ns, d, c, k) = laid s h e in
    rw (job_of_lem s ns h d) (laid_small d c k)

pub accepted : (s : List ℕ) → Bytes s → refusal s ≡ 0 → Accepted (job_of s)
accepted s h e =
    let (ns, f, t) = passed (first_no s h) e in
    rw (job_of_lem s ns h f.divides) (tree_accepted (job_from ns) (formed_listed f) t)

pub accepted_form : (s : List ℕ) → refusal s ≡ 0 → form_refusal s ≡ 0
accepted_form s e = form_refusal_lem s ∙ ap before_tree e

pub accepted_layout : (s : List ℕ) → refusal s ≡ 0 → layout_refusal s ≡ 0
accepted_layout s e = elim (ℕ_discrete (layout_refusal s) 0) [ yes z ↦ z | no n ↦ absurd (n (sym (layout_refused s n) ∙ e)) ]

-- ---- lists of links

job_counted : (j : Job) → Accepted j → counted j ≡ true
unfolding counted
job_counted j a =
    rw (le-leb 1 j.nodes a.some_node, le-leb j.nodes max_nodes a.node_limit, le-leb (length j.links) max_edges a.edge_limit)

sound_ends : (j : Job) → Sound (graph_of j) → EndsHold j
sound_ends j s = record { first = s.first; second = s.second; differ = s.differ }

-- A list of links passes questions 1 to 6 exactly if it is an accepted job.
pub list_accepted : (j : Job) → (list_refusal j ≡ 0) ↔ Accepted j
list_accepted j = (to, from)
  where
    to : list_refusal j ≡ 0 → Accepted j
    to h =
        let (q, r) = list_passed (λ j. ask (question6 j) 6 λ _. 0) j h in
        listed_accepted j q (ask_passed (question6 j) 5 (λ _. 0) r).0

    from : Accepted j → list_refusal j ≡ 0
    from a =
        let ends : EndsHold j = sound_ends j a.sound in
        rw (
          job_small j a.small,
          job_counted j a,
          (question4_means j).1 ends,
          (question5_means j).1 a.marks,
          (question6_means j a.some_node ends).1 a.tree,
        )

-- A frame that is written of numbers holds bytes.
pub numbers_bytes : (ns : List ℕ) → Bytes (bytes_of ns)
unfolding flat_map
numbers_bytes [] = bytes_nil
numbers_bytes (n ∷ ns) = bytes_append (encode number_bytes n) (bytes_of ns) (encode_bytes number_bytes n) (numbers_bytes ns)

-- What is written of an accepted job is accepted and reads as that job.
pub read_write6 : (j : Job) → Accepted j → (refusal (job_frame j) ≡ 0) × (job_of (job_frame j) ≡ j)
read_write6 j a =
    let y : small j ≡ true = job_small j a.small in
    (sym (list_as_frame (λ j. ask (question6 j) 6 λ _. 0) j y) ∙ (list_accepted j).1 a, list_read j y)

-- A frame that is accepted, read and written again, is the same bytes.
pub write_read6 : (s : List ℕ) → Bytes s → refusal s ≡ 0 → job_frame (job_of s) ≡ s
write_read6 s h e = write_read s h (accepted_form s e)

-- A frame is accepted exactly if it is the frame of an accepted job.
pub frame_accepted : (s : List ℕ) → Bytes s → (refusal s ≡ 0) ↔ (Accepted (job_of s) × (job_frame (job_of s) ≡ s))
frame_accepted s h = (
  λ e. (accepted s h e, write_read6 s h e),
  λ r. subst (λ f. refusal f ≡ 0) r.1 (read_write6 (job_of s) r.0).0,
)

-- Question 6 refuses exactly the frames that pass questions 1 to 5 and whose marked links are no spanning tree.
pub refused6 : (s : List ℕ) → Bytes s → (refusal s ≡ 6) ↔ ((form_refusal s ≡ 0) × (TreeHolds (job_of s) → ⊥))
refused6 s h = (
  λ e. let form : form_refusal s ≡ 0 = form_refusal_lem s ∙ ap before_tree e in (form, λ t. passes (formed s h form) e t),
  λ r. let (ns, f) = formed s h r.0 in
      first_no_unique s 6 h (no6 ns f (λ t. r.1 (subst TreeHolds (sym (job_of_lem s ns h f.divides)) t))),
)
  where
    passes : ((ns : List ℕ) × Formed s ns) → refusal s ≡ 6 → TreeHolds (job_of s) → ⊥
    passes (ns, f) e t =
        omega (arith, e, first_no_unique s 0 h (none ns f (subst TreeHolds (job_of_lem s ns h f.divides) t)))

-- No cost is above 2,097,151 if no number of the job is.
links_small_lem : (ls : List JobLink) → Small (flat_map fields ls) → (e : ℕ) → (get_or ls e no_link).cost ≤ max_number
unfolding flat_map
links_small_lem [] h e = omega arith
links_small_lem (l ∷ ls) h zero = h 2
links_small_lem (l ∷ ls) h (suc e) = links_small_lem ls (λ i. h (suc (suc (suc (suc i))))) e

pub cost_small : (j : Job) → Small (job_numbers j) → (e : ℕ) → cost_of j e ≤ max_number
cost_small j h e = links_small_lem j.links (λ i. h (suc (suc i))) e
