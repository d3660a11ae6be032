-- The job of a list of records: the arrays hold it, and what is said of what is given of a lent list is said of its job.
-- Assumes nothing.
use Rattle.std.specs.Prelude.{ℕ, min, ◌<◌, ◌≤◌, ◌≡◌, refl, Bool, true, false, ◌&&◌, List, map, length, get_or, take}
use Rattle.std.proofs.Math.Decide.{dec_le}
use Rattle.std.proofs.Common.{arith, ap, subst, ◌∙◌, ⊎_elim, ext_get_or, get_or-take, length-take-le, le-leb}
use Rattle.std.proofs.Math.Path.{sym}
use Rattle.std.proofs.Math.Bool.{and-false}
use Rattle.std.proofs.Math.Dec.{leb}
use Rattle.std.proofs.Math.ListN.{length-map, get_or-map}
use Rattle.std.proofs.lemmas.Bool.{lt-leb}
use Rattle.loops.specs.Below.{all_below}
use Rattle.loops.specs.TestLaws.{truth, all_same}
use Rattle.loops.specs.GatherLaws.{get_d_tabulate}
use Rattle.records.specs.declared.Link.{Link}
use Rattle.records.specs.Records.{zero_link, column_put, small_link, all_small, list_copy}
use Rattle.records.proofs.RecordsLaws.{firsts_take, filled_length, filled_at, filled_past, all_small_whole}
use Rattle.frame.specs.Job.{JobLink, Job, no_link, link, job_frame}
use Rattle.limits.specs.Limits.{max_nodes, max_edges, max_number}
use Rattle.frame.specs.Questions.{ask, refusal, counted, list_refusal}
use Rattle.frame.specs.Services.{small_numbers, small}
use Rattle.frame.specs.Arrays.{Columns, Arrays, link_at, links_at, job_at}
use Rattle.links.specs.ColumnLaws.{rows_length, zeros, length_zeros, zero_at}
use Rattle.accept.specs.Accepting.{Empty}
use Rattle.accept_lists.specs.Lists.{ListHeld}
use Rattle.accept_lists.specs.ListAcceptLaws.{frame_number}
use Rattle.accept.specs.ListJobs.{job_link, list_job}
use Rattle.accept_lists.specs.Given.{count_refusal, Given}

-- Question 1: the numbers of the job's links are small if the list's are.
abbrev links_test : Job → Bool
links_test j = all_below (length j.links) λ e. small_numbers (link j e)

links_test_lem : (nodes : ℕ) (ys : List Link) → length ys ≤ max_number → links_test (list_job nodes ys) ≡ all_small ys
links_test_lem nodes ys l =
    ap (λ (n : ℕ). all_below n λ e. small_numbers (link (list_job nodes ys) e)) (length-map ys job_link) ∙
    all_same (length ys) (λ e. small_numbers (link (list_job nodes ys) e)) (λ e. small_link (get_or ys e zero_link))
    (λ e l. ap small_numbers (get_or-map job_link ys e zero_link)) ∙
    sym (all_small_whole ys l)

and_middle : (a b : Bool) → (a && false && b) ≡ false
and_middle true b = refl
and_middle false b = refl

-- A list that is too long is refused by question 1, whatever its links are.
long_large : (j : Job) → max_number < length j.links → small j ≡ false
unfolding small
long_large j l = rw (lt-leb (length j.links) max_number l) (and_middle (leb j.nodes max_number) (links_test j))

-- More than 256 links do not pass question 2.
many_counted : (j : Job) → 256 < length j.links → counted j ≡ false
unfolding counted
many_counted j l = rw (lt-leb (length j.links) max_edges l) (and-false (leb 1 j.nodes && leb j.nodes max_nodes))

-- The refusal by the word and the counts, in the code's order.
module _ (nodes count : ℕ) (word : Bool) where
  pub nodes_large : max_number < nodes → 1 ≡ count_refusal nodes count word
  nodes_large l = rw (lt-leb nodes max_number l)

  pub count_large : nodes ≤ max_number → max_number < count → 1 ≡ count_refusal nodes count word
  count_large k l = rw (le-leb nodes max_number k, lt-leb count max_number l)

  module _ (k : nodes ≤ max_number) (l : count ≤ max_number) where
    pub word_large : word ≡ false → 1 ≡ count_refusal nodes count word
    word_large f = rw (le-leb nodes max_number k, le-leb count max_number l, f)

    pub count_many : word ≡ true → max_edges < count → 2 ≡ count_refusal nodes count word
    count_many y m = rw (le-leb nodes max_number k, le-leb count max_number l, y, lt-leb count max_edges m)

    pub count_passed : word ≡ true → count ≤ max_edges → 0 ≡ count_refusal nodes count word
    count_passed y m = rw (le-leb nodes max_number k, le-leb count max_number l, y, le-leb count max_edges m)

  -- If there is none, there are at most 256 links.
  pub list_count_few : count_refusal nodes count word ≡ 0 → count ≤ 256
  list_count_few z =
      elim (dec_le count max_edges) [
        | yes l ↦ l
        | no l ↦
            absurd
            (many_nonzero (leb nodes max_number && leb count max_number && word) (rw (lt-leb count max_edges (omega arith)) at z))
      ]
    where
      many_nonzero : (b : Bool) → (ask b 1 λ _. 2) ≡ 0 → ⊥
      many_nonzero true q = omega (arith, q)
      many_nonzero false q = omega (arith, q)

-- ---- a lent list

module _ (nodes : ℕ) (ys : List Link) where
  -- The word and the counts say whether every number of the list is small.
  word_small : (leb nodes max_number && leb (length ys) max_number && all_small ys) ≡ small (list_job nodes ys)
  unfolding small
  word_small =
      elim (dec_le (length ys) max_number) [
        | yes l ↦ λ i. leb nodes max_number && leb (sym (length-map ys job_link) i) max_number && sym (links_test_lem nodes ys l) i
        | no l ↦
            rw (lt-leb (length ys) max_number (omega arith)) (and_middle (leb nodes max_number) (all_small ys)) ∙
            sym (long_large (list_job nodes ys) (omega (arith, length-map ys job_link)))
      ]

  -- More than 256 links whose numbers are small: question 2.
  many_two : small (list_job nodes ys) ≡ true → max_edges < length ys → refusal (job_frame (list_job nodes ys)) ≡ 2
  many_two y l =
      let beyond : counted (list_job nodes ys) ≡ false = many_counted (list_job nodes ys) (omega (arith, length-map ys job_link)) in
      let two : list_refusal (list_job nodes ys) ≡ 2 = rw (y, beyond) in
      frame_number (list_job nodes ys) y ∙ two

  -- What is said of what is given of a list is said of its job, if a refusal before the links are looked at says as much: by
  -- question 1, and by question 2 of a list whose numbers are small.
  pub lent : (Refused : ℕ → Type 0) (Said : Job → Type 0)
      → (small (list_job nodes ys) ≡ false → Refused 1 → Said (list_job nodes ys))
      → (small (list_job nodes ys) ≡ true → refusal (job_frame (list_job nodes ys)) ≡ 2 → Refused 2 → Said (list_job nodes ys))
      → Given nodes (list_copy ys) Refused Said → Said (list_job nodes ys)
  lent Refused Said large long g =
      ⊎_elim
      (λ (y : small (list_job nodes ys) ≡ true).
      elim (dec_le (length ys) max_edges) [
        | yes l ↦
            let none : count_refusal nodes (length ys) (all_small ys) ≡ 0 = rw (word_small ∙ y, le-leb (length ys) max_edges l) in
            subst (λ (zs : List Link). Said (list_job nodes zs)) (firsts_take 256 ys l) (g.said none)
        | no l ↦
            let two : count_refusal nodes (length ys) (all_small ys) ≡ 2 =
            rw (word_small ∙ y, lt-leb (length ys) max_edges (omega arith)) in
            long y (many_two y (omega arith)) (subst Refused two (g.refused (λ z. omega (arith, two, z))))
      ])
      (λ (f : small (list_job nodes ys) ≡ false).
      let one : count_refusal nodes (length ys) (all_small ys) ≡ 1 = rw (word_small ∙ f) in
      large f (subst Refused one (g.refused (λ z. omega (arith, one, z)))))
      (truth (small (list_job nodes ys)))

-- ---- arrays

-- Columns of links put into arrays of zeros.
module _ (count : ℕ) (links : List Link) (before : Arrays) (c : Columns) (size : length links ≡ 256) (empty : Empty before)
    (so₁ : c.end₁ ≡ column_put (λ l. l.end1) (min count 256) links before.links.end₁)
    (so₂ : c.end₂ ≡ column_put (λ l. l.end2) (min count 256) links before.links.end₂)
    (so₃ : c.cost ≡ column_put (λ l. l.cost) (min count 256) links before.links.cost)
    (so₄ : c.mark ≡ column_put (λ l. l.mark) (min count 256) links before.links.mark) where
  zeros_size : {z : List ℕ} → z ≡ zeros 256 → length z ≡ 256
  zeros_size e = ap length e ∙ length_zeros 256

  column_size : (f : Link → ℕ) {z xs : List ℕ} → z ≡ zeros 256 → xs ≡ column_put f (min count 256) links z → length xs ≡ 256
  column_size f {z} e so =
      ap length so ∙ filled_length f (min count 256) links z (omega (arith, size)) (omega (arith, zeros_size e)) ∙ zeros_size e

  column_past :
      (f : Link → ℕ) {z xs : List ℕ} →
      z ≡ zeros 256 →
      xs ≡ column_put f (min count 256) links z →
      (e : ℕ) →
      count ≤ e →
      get_or xs e 0 ≡ 0
  column_past f {z} is so e l =
      ap (λ (r : List ℕ). get_or r e 0) so ∙
      filled_past f (min count 256) links z e (omega (arith, size)) (omega (arith, zeros_size is)) (omega arith) ∙
      ap (λ (r : List ℕ). get_or r e 0) is ∙ zero_at 256 e

  pub columns_held : ListHeld count c
  columns_held =
      record {
        places = record {
          end₁ = column_size (λ l. l.end1) empty.end₁ so₁;
          end₂ = column_size (λ l. l.end2) empty.end₂ so₂;
          cost = column_size (λ l. l.cost) empty.cost so₃;
          mark = column_size (λ l. l.mark) empty.mark so₄;
        };
        end₁ = column_past (λ l. l.end1) empty.end₁ so₁;
        end₂ = column_past (λ l. l.end2) empty.end₂ so₂;
        cost = column_past (λ l. l.cost) empty.cost so₃;
        mark = column_past (λ l. l.mark) empty.mark so₄;
      }

  -- The arrays hold the job of the first so many links.
  module _ (few : count ≤ 256) where
    column_is :
        (f : Link → ℕ) {z xs : List ℕ} →
        z ≡ zeros 256 →
        xs ≡ column_put f (min count 256) links z →
        (e : ℕ) →
        e < count →
        get_or xs e 0 ≡ f (get_or (take count links) e zero_link)
    column_is f {z} is so e k =
        ap (λ (r : List ℕ). get_or r e 0) so ∙
        filled_at f (min count 256) links z e (omega (arith, size)) (omega (arith, zeros_size is)) (omega arith) ∙
        ap f (sym (get_or-take count links e zero_link k))

    row_is : (e : ℕ) → e < count → link_at c e ≡ job_link (get_or (take count links) e zero_link)
    row_is e k i =
        record {
          end₁ = column_is (λ l. l.end1) empty.end₁ so₁ e k i;
          end₂ = column_is (λ l. l.end2) empty.end₂ so₂ e k i;
          cost = column_is (λ l. l.cost) empty.cost so₃ e k i;
          mark = column_is (λ l. l.mark) empty.mark so₄ e k i;
        }

    pub columns_job : (nodes : ℕ) → job_at nodes count c ≡ list_job nodes (take count links)
    columns_job nodes =
        let taken : length (take count links) ≡ count = length-take-le count links (omega (arith, size)) in
        ap (λ (ls : List JobLink). record { nodes = nodes; links = ls })
        (ext_get_or no_link (links_at count c) (map job_link (take count links))
        (rows_length count c ∙ sym (length-map (take count links) job_link ∙ taken))
        λ e k.
        let below : e < count = omega (arith, rows_length count c) in
        get_d_tabulate (link_at c) count e no_link below ∙ row_is e below ∙
        sym (get_or-map job_link (take count links) e zero_link))
