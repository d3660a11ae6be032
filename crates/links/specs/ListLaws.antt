-- The questions of the links of four arrays, by the tests of the code. Assumes nothing.
use Rattle.std.specs.Prelude.{ℕ, ◌<◌, ◌≤◌, min, ◌≡◌, true, false, Bool, ◌&&◌, length}
use Rattle.std.proofs.Common.{arith, sym, ◌∙◌, le-leb, ⊎_elim}
use Rattle.std.proofs.Math.Path.{ap}
use Rattle.std.proofs.Math.ListN.{get_or-eq_default}
use Rattle.std.proofs.lemmas.Bool.{lt-leb}
use Rattle.loops.specs.Below.{all_below}
use Rattle.loops.specs.GatherLaws.{get_d_tabulate}
use Rattle.frame.specs.Job.{JobLink, no_link, link}
use Rattle.limits.specs.Limits.{max_number, max_nodes, max_edges, unplugged_mark}
use Rattle.frame.specs.Services.{small_numbers, small}
use Rattle.frame.specs.Questions.{ask, counted, list_layout_refusal, question4, question5}
use Rattle.frame.specs.Arrays.{Columns, link_at, links_at, job_at}
use Rattle.links.specs.Columns.{Places, ends_apart, ends_hold, marks_hold, links_refusal, links_small}
use Rattle.std.proofs.Math.Decide.{dec_lt}
use Rattle.std.proofs.Math.Dec.{leb}
use Rattle.loops.specs.TestLaws.{truth, clash, all_at, all_of, all_same}
use Rattle.links.specs.ColumnLaws.{rows_length}

-- Question 1 of one link, by the tests of the code.
module _ (l : JobLink) where
  pub large_first : max_number < l.end₁ → small_numbers l ≡ false
  large_first m = rw (lt-leb l.end₁ max_number m)

  pub large_second : l.end₁ ≤ max_number → max_number < l.end₂ → small_numbers l ≡ false
  large_second k₁ m = rw (le-leb l.end₁ max_number k₁, lt-leb l.end₂ max_number m)

  pub large_third : l.end₁ ≤ max_number → l.end₂ ≤ max_number → max_number < l.cost → small_numbers l ≡ false
  large_third k₁ k₂ m = rw (le-leb l.end₁ max_number k₁, le-leb l.end₂ max_number k₂, lt-leb l.cost max_number m)

  module _ (k₁ : l.end₁ ≤ max_number) (k₂ : l.end₂ ≤ max_number) (k₃ : l.cost ≤ max_number) where
    pub large_mark : max_number < l.mark → small_numbers l ≡ false
    large_mark m = rw (le-leb l.end₁ max_number k₁, le-leb l.end₂ max_number k₂, le-leb l.cost max_number k₃, lt-leb l.mark max_number m)

    pub small_holds : l.mark ≤ max_number → small_numbers l ≡ true
    small_holds k₄ = rw (le-leb l.end₁ max_number k₁, le-leb l.end₂ max_number k₂, le-leb l.cost max_number k₃, le-leb l.mark max_number k₄)

-- What holds from k on need be tested below k only.
all_cut : (n k : ℕ) (p : ℕ → Bool) → ((i : ℕ) → k ≤ i → p i ≡ true) → all_below n p ≡ all_below (min n k) p
all_cut n k p h = ⊎_elim (λ y. whole y ∙ sym y) (λ m. part m ∙ sym m) (truth (all_below (min n k) p))
  where
    whole : all_below (min n k) p ≡ true → all_below n p ≡ true
    whole y = all_of n p λ i l. elim (dec_lt i k) [ yes b ↦ all_at (min n k) p y i (omega arith) | no b ↦ h i (omega arith) ]

    part : all_below (min n k) p ≡ false → all_below n p ≡ false
    part m =
        ⊎_elim (λ y. clash (all_of (min n k) p (λ i l. all_at n p y i (omega arith))) m) (λ f. f) (truth (all_below n p))

module _ (nodes edges : ℕ) (c : Columns) where
  -- The links of the job of the arrays are those at their places.
  rows_link : (e : ℕ) → e < edges → link (job_at nodes edges c) e ≡ link_at c e
  rows_link e l = get_d_tabulate (link_at c) edges e no_link l

  -- A test of every link is a test of every row.
  rows_all :
      (p : JobLink → Bool) →
      all_below (length (links_at edges c)) (λ e. p (link (job_at nodes edges c) e)) ≡ all_below edges (λ e. p (link_at c e))
  rows_all p =
      ap (λ (n : ℕ). all_below n (λ e. p (link (job_at nodes edges c) e))) (rows_length edges c) ∙
      all_same edges (λ e. p (link (job_at nodes edges c) e)) (λ e. p (link_at c e)) (λ e l. ap p (rows_link e l))

  pub list_ends : question4 (job_at nodes edges c) ≡ ends_hold nodes edges c.end₁ c.end₂
  unfolding question4
  list_ends = rows_all (λ (l : JobLink). ends_apart nodes l.end₁ l.end₂)

  pub list_marks : question5 (job_at nodes edges c) ≡ marks_hold edges c.mark
  unfolding question5
  list_marks = rows_all (λ (l : JobLink). leb l.mark unplugged_mark)

  -- The first refusal of the two, over arrays.
  pub list_links :
      let j = job_at nodes edges c in
      links_refusal nodes edges c.end₁ c.end₂ c.mark ≡ (ask (question4 j) 4 λ _. ask (question5 j) 5 λ _. 0)
  list_links = rw (list_ends, list_marks)

  pub list_counted : counted (job_at nodes edges c) ≡ (leb 1 nodes && leb nodes max_nodes && leb edges max_edges)
  unfolding counted
  list_counted = rw (rows_length edges c)

  -- Past the arrays' ends there are zeros, which are small.
  module _ (p : Places c) where
    past : (e : ℕ) → 256 ≤ e → small_numbers (link_at c e) ≡ true
    past e l =
        rw (
          get_or-eq_default c.end₁ 0 (at p.end₁),
          get_or-eq_default c.end₂ 0 (at p.end₂),
          get_or-eq_default c.cost 0 (at p.cost),
          get_or-eq_default c.mark 0 (at p.mark),
        )
      where
        at : {n : ℕ} → n ≡ 256 → n ≤ e
        at h = omega arith

    held_all : links_small edges c ≡ links_small (min edges 256) c
    held_all = all_cut edges 256 (λ e. small_numbers (link_at c e)) past

    pub list_small : small (job_at nodes edges c) ≡ (leb nodes max_number && leb edges max_number && links_small (min edges 256) c)
    unfolding small
    list_small = rw (rows_length edges c) (ap (λ (b : Bool). leb nodes max_number && leb edges max_number && b) (by_rows ∙ held_all))
      where
        by_rows : all_below edges (λ e. small_numbers (link (job_at nodes edges c) e)) ≡ links_small edges c
        by_rows =
            all_same edges (λ e. small_numbers (link (job_at nodes edges c) e)) (λ e. small_numbers (link_at c e)) (λ e l. ap small_numbers (rows_link e l))

    -- The first "no", test by test.
    module _ (q : links_small (min edges 256) c ≡ true) (n₁ : nodes ≤ max_number) (e₁ : edges ≤ max_number) where
      all_small : small (job_at nodes edges c) ≡ true
      all_small = list_small ∙ rw (le-leb nodes max_number n₁, le-leb edges max_number e₁, q)

      pub check_empty : nodes < 1 → list_layout_refusal (job_at nodes edges c) ≡ 2
      check_empty l = rw (all_small, list_counted, lt-leb 1 nodes l)

      pub check_nodes : 1 ≤ nodes → max_nodes < nodes → list_layout_refusal (job_at nodes edges c) ≡ 2
      check_nodes k l = rw (all_small, list_counted, le-leb 1 nodes k, lt-leb nodes max_nodes l)

      pub check_edges : 1 ≤ nodes → nodes ≤ max_nodes → max_edges < edges → list_layout_refusal (job_at nodes edges c) ≡ 2
      check_edges k₁ k₂ l = rw (all_small, list_counted, le-leb 1 nodes k₁, le-leb nodes max_nodes k₂, lt-leb edges max_edges l)

      module _ (k₁ : 1 ≤ nodes) (k₂ : nodes ≤ max_nodes) (k₃ : edges ≤ max_edges) where
        all_counted : counted (job_at nodes edges c) ≡ true
        all_counted = list_counted ∙ rw (le-leb 1 nodes k₁, le-leb nodes max_nodes k₂, le-leb edges max_edges k₃)

        pub check_passed : list_layout_refusal (job_at nodes edges c) ≡ 0
        check_passed = rw (all_small, all_counted)

    pub check_large_nodes : max_number < nodes → list_layout_refusal (job_at nodes edges c) ≡ 1
    check_large_nodes l = rw (list_small, lt-leb nodes max_number l)

    pub check_large_edges : nodes ≤ max_number → max_number < edges → list_layout_refusal (job_at nodes edges c) ≡ 1
    check_large_edges k l = rw (list_small, le-leb nodes max_number k, lt-leb edges max_number l)

    pub check_large :
        nodes ≤ max_number →
        edges ≤ max_number →
        links_small (min edges 256) c ≡ false →
        list_layout_refusal (job_at nodes edges c) ≡ 1
    check_large k₁ k₂ n = rw (list_small, le-leb nodes max_number k₁, le-leb edges max_number k₂, n)
