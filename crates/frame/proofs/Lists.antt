-- A list of links is refused as its frame is, and a frame written of one reads as that list. Assumes nothing.
use Rattle.std.specs.Prelude.{ℕ, suc, ◌+◌, ◌*◌, ◌-◌, ◌<◌, ◌≤◌, ◌≡◌, refl, ◌⊎◌, Bool, true, false, ◌&&◌, leb, length, get_or}
use Rattle.std.proofs.Common.{arith, sym, ap, ◌∙◌, length-append, leb-true, le-leb}
use mathlib.Core.List.{List, [], ◌∷◌, ◌++◌, flat_map}
use Rattle.std.proofs.Math.Option.{some}
use Rattle.loops.specs.Below.{all_below}
use Rattle.loops.specs.TestLaws.{and_first, and_second, all_at}
use Rattle.number.specs.Number.{encode}
use Rattle.number.proofs.Laws.{encode_size_last, encode_size_most, encode_size_below}
use Rattle.frame.specs.Job.{JobLink, Job, no_link, link, fields, job_numbers, bytes_of, job_frame}
use Rattle.limits.specs.Limits.{max_nodes, max_edges, max_number, number_bytes, job_most, unplugged_mark}
use Rattle.frame.specs.Questions.{job_of, numbers, question1, question2, question4, question5}
use Rattle.frame.specs.Questions.{ask, number_questions, layout_refusal, form_refusal, counted, list_questions, list_layout_refusal, list_form_refusal}
use Rattle.frame.specs.Services.{small_numbers, small}
use Rattle.frame.specs.Meaning.{Small, Complete, EndsHold, MarksHold}
use Rattle.frame.proofs.Division.{small_cons, divide_complete}
use Rattle.frame.proofs.Form.{mark_means, question3_means, question4_means, question5_means}
use Rattle.frame.proofs.RoundTrip.{flat_map_append, numbers_job}

small_link_lem : (l : JobLink) → small_numbers l ≡ true → (rest : List ℕ) → Small rest → Small (fields l ++ rest)
small_link_lem l h rest k =
    small_cons l.end₁ (l.end₂ ∷ l.cost ∷ l.mark ∷ rest) (leb-true l.end₁ max_number (and_first a b ab))
    (small_cons l.end₂ (l.cost ∷ l.mark ∷ rest) (leb-true l.end₂ max_number (and_second a b ab))
    (small_cons l.cost (l.mark ∷ rest) (leb-true l.cost max_number (and_second (a && b) c abc))
    (small_cons l.mark rest (leb-true l.mark max_number (and_second (a && b && c) d h)) k)))
  where
    a : Bool
    a = leb l.end₁ max_number

    b : Bool
    b = leb l.end₂ max_number

    c : Bool
    c = leb l.cost max_number

    d : Bool
    d = leb l.mark max_number

    abc : (a && b && c) ≡ true
    abc = and_first (a && b && c) d h

    ab : (a && b) ≡ true
    ab = and_first (a && b) c abc

small_links : (ls : List JobLink) → ((e : ℕ) → e < length ls → small_numbers (get_or ls e no_link) ≡ true) → Small (flat_map fields ls)
unfolding flat_map
small_links [] h = λ i. omega arith
small_links (l ∷ ls) h = small_link_lem l (h 0 (omega arith)) (flat_map fields ls) (small_links ls (λ e k. h (suc e) (omega arith)))

pub small_job : (j : Job) → small j ≡ true → Small (job_numbers j)
unfolding small
small_job j h =
    small_cons j.nodes (length j.links ∷ flat_map fields j.links) (leb-true j.nodes max_number (and_first n m nm))
    (small_cons (length j.links) (flat_map fields j.links) (leb-true (length j.links) max_number (and_second n m nm))
    (small_links j.links (all_at (length j.links) (λ e. small_numbers (link j e)) (and_second (n && m) every h))))
  where
    n : Bool
    n = leb j.nodes max_number

    m : Bool
    m = leb (length j.links) max_number

    every : Bool
    every = all_below (length j.links) λ e. small_numbers (link j e)

    nm : (n && m) ≡ true
    nm = and_first (n && m) every h

-- The frame of a list of links divides into its numbers.
pub list_numbers : (j : Job) → small j ≡ true → numbers (job_frame j) ≡ some (job_numbers j)
list_numbers j h = divide_complete (length (job_frame j)) (job_numbers j) (small_job j h) (omega arith)

length_fields : (ls : List JobLink) → length (flat_map fields ls) ≡ 4 * length ls
unfolding flat_map
length_fields [] = refl
length_fields (l ∷ ls) = omega (arith, length_fields ls)

pub list_complete : (j : Job) → Complete (job_numbers j)
list_complete j = omega (arith, length_fields j.links)

list_counted : (j : Job) → question2 (job_numbers j) ≡ counted j
unfolding question2 counted
list_counted j = rw (le-leb 2 (length (job_numbers j)) (omega arith))

-- Where no number is above 2,097,151 the questions say of a list of links what they say of its frame.
pub list_as_frame : (rest : Job → ℕ) (j : Job) → small j ≡ true → list_questions rest j ≡ question1 (numbers (job_frame j)) (number_questions rest)
list_as_frame rest j h =
    rw (h, list_numbers j h, list_counted j, (question3_means (job_numbers j)).1 (list_complete j), numbers_job j)

pub layout_as_frame : (j : Job) → small j ≡ true → list_layout_refusal j ≡ layout_refusal (job_frame j)
layout_as_frame j h = rw (h, list_numbers j h, list_counted j, (question3_means (job_numbers j)).1 (list_complete j))

-- A question passed: its answer was "yes", and the rest passed too.
pub ask_passed : (b : Bool) (n : ℕ) (rest : Unit {0} → ℕ) → ask b (suc n) rest ≡ 0 → (b ≡ true) × (rest tt ≡ 0)
ask_passed true n rest h = (refl, h)
ask_passed false n rest h = absurd (omega arith)

pub layout_listed : (j : Job) → list_layout_refusal j ≡ 0 → (small j ≡ true) × (counted j ≡ true)
layout_listed j h =
    let (y₁, r₁) = ask_passed (small j) 0 (λ _. ask (counted j) 2 λ _. 0) h in
    (y₁, (ask_passed (counted j) 1 (λ _. 0) r₁).0)

-- A list of links that passes questions 1 to 5.
pub record Listed (j : Job) : Type 0 where
  pub small : small j ≡ true
  pub counted : counted j ≡ true
  pub ends : EndsHold j
  pub marks : MarksHold j

pub list_passed : (rest : Job → ℕ) (j : Job) → list_questions rest j ≡ 0 → Listed j × (rest j ≡ 0)
list_passed rest j h =
    let (y₁, r₁) = ask_passed (small j) 0 (λ _. ask (counted j) 2 λ _. ask (question4 j) 4 λ _. ask (question5 j) 5 λ _. rest j) h in
    let (y₂, r₂) = ask_passed (counted j) 1 (λ _. ask (question4 j) 4 λ _. ask (question5 j) 5 λ _. rest j) r₁ in
    let (y₄, r₄) = ask_passed (question4 j) 3 (λ _. ask (question5 j) 5 λ _. rest j) r₂ in
    let (y₅, r₅) = ask_passed (question5 j) 4 (λ _. rest j) r₄ in
    (record { small = y₁; counted = y₂; ends = (question4_means j).0 y₄; marks = (question5_means j).0 y₅ }, r₅)

pub listed : (j : Job) → list_form_refusal j ≡ 0 → Listed j
listed j h = (list_passed (λ _. 0) j h).0

-- What is written of a list of links that passes questions 1 to 5 passes them too and reads as that list.
pub list_read : (j : Job) → small j ≡ true → job_of (job_frame j) ≡ j
list_read j y = rw (list_numbers j y) (numbers_job j)

pub read_write : (j : Job) → list_form_refusal j ≡ 0 → (form_refusal (job_frame j) ≡ 0) × (job_of (job_frame j) ≡ j)
read_write j h =
    let y = (listed j h).small in
    (sym (list_as_frame (λ _. 0) j y) ∙ h, list_read j y)

pub counted_limits : (j : Job) → counted j ≡ true → (1 ≤ j.nodes) × (j.nodes ≤ max_nodes) × (length j.links ≤ max_edges)
unfolding counted
counted_limits j h =
    let low = and_first (leb 1 j.nodes && leb j.nodes max_nodes) (leb (length j.links) max_edges) h in (
      leb-true 1 j.nodes (and_first (leb 1 j.nodes) (leb j.nodes max_nodes) low),
      leb-true j.nodes max_nodes (and_second (leb 1 j.nodes) (leb j.nodes max_nodes) low),
      leb-true (length j.links) max_edges (and_second (leb 1 j.nodes && leb j.nodes max_nodes) (leb (length j.links) max_edges) h),
    )

mark_small : (m : ℕ) → (m ≡ 0) ⊎ (m ≡ 1) ⊎ (m ≡ 2) → m < 128
mark_small m h = omega (arith, leb-true m unplugged_mark ((mark_means m).1 h))

-- A link takes a byte for each of its ends and for its mark, where these are below 128, and those of its cost.
link_size : (l : JobLink) → l.end₁ < 128 → l.end₂ < 128 → l.mark < 128 → length (bytes_of (fields l)) ≤ 3 + number_bytes
unfolding flat_map
link_size l a b m =
    let one : (x : ℕ) → x < 128 → length (encode number_bytes x) ≡ 1 = encode_size_last (number_bytes - 1) in
    simp length-append (omega (arith, one l.end₁ a, one l.end₂ b, encode_size_most number_bytes l.cost, one l.mark m))

links_size :
    (ls : List JobLink) →
    ((e : ℕ) → e < length ls → length (bytes_of (fields (get_or ls e no_link))) ≤ 3 + number_bytes) →
    length (bytes_of (flat_map fields ls)) ≤ (3 + number_bytes) * length ls
unfolding flat_map
links_size [] h = omega arith
links_size (l ∷ ls) h =
    omega (
      arith,
      ap length (flat_map_append (encode number_bytes) (fields l) (flat_map fields ls)),
      length-append (bytes_of (fields l)) (bytes_of (flat_map fields ls)),
      h 0 (omega arith),
      links_size ls (λ e k. h (suc e) (omega arith)),
    )

-- The longest job has 1,539 bytes: the link count takes two at most, 256 links six each.
pub longest : (j : Job) → list_form_refusal j ≡ 0 → length (job_frame j) ≤ job_most
unfolding flat_map
longest j h =
    let q = listed j h in
    let limits = counted_limits j q.counted in
    let links = links_size j.links (λ e k.
    link_size (link j e) (omega (arith, q.ends.first e k)) (omega (arith, q.ends.second e k)) (mark_small (link j e).mark (q.marks e k))) in
    simp length-append (omega (
      arith,
      encode_size_last (number_bytes - 1) j.nodes (omega arith),
      encode_size_below 2 number_bytes (length j.links) (omega arith) (omega (arith, limits)),
    ))
