-- Questions 1 to 6: what is computed is the first question whose answer is "no", by what the questions mean.
-- Assumes nothing.
use Rattle.std.specs.Prelude.{ℕ, zero, suc, ◌+◌, ◌*◌, ◌<◌, ◌≤◌, ◌≡◌, refl, ◌↔◌, ◌⊎◌, Bool, true, false, not, ◌&&◌, List, [], leb, ltb, eqb, length}
use Rattle.std.proofs.Common.{arith, ap, ◌∙◌, inl, inr, ⊎_elim, leb-true, ltb-true, eqb-true, le-leb, lt-ltb, eq-eqb, ne_eqb}
use Rattle.std.proofs.Math.Option.{Option, some, get_or}
use Rattle.std.proofs.lemmas.Bool.{eqb-false, not-true}
use Rattle.loops.specs.Below.{choose}
use Rattle.loops.specs.TestLaws.{truth, clash, and_first, and_second, all_at, all_of}
use Rattle.number.specs.Number.{Bytes}
use Rattle.graph.specs.Graph.{Sound}
use Rattle.graph.specs.RankLaws.{tree_lists}
use Rattle.graph.proofs.Tree.{tree_means}
use Rattle.frame.specs.Job.{Job, link, graph_of, tree_of, cost_of}
use Rattle.limits.specs.Limits.{max_nodes, max_edges, tree_mark, unplugged_mark}
use Rattle.frame.specs.Questions.{numbers, question1, question2, question3, question4, question5}
use Rattle.frame.specs.Questions.{question6, ask, number_questions, job_of, layout_refusal, job_refusal, form_refusal, refusal, later}
use Rattle.frame.specs.Meaning.{Divides, Counted, Complete, EndsHold, MarksHold, TreeHolds, Formed, FirstNo, FirstNoWith, node_count, edge_count, job_from}
use Rattle.frame.specs.Meaning.FirstNo.{no1, no2, no3, no4, no5, no6, none}
use Rattle.frame.specs.Meaning.FirstNoWith.{earlier, own, passed}
use Rattle.frame.proofs.Division.{division}

pub question2_means : (ns : List ℕ) → (question2 ns ≡ true) ↔ Counted ns
unfolding question2
question2_means ns = (
  λ h. holds h,
  λ h. rw (le-leb 2 (length ns) h.two, le-leb 1 (node_count ns) h.some_node, le-leb (node_count ns) max_nodes h.node_limit)
      (le-leb (edge_count ns) max_edges h.edge_limit),
)
  where
    two : Bool
    two = leb 2 (length ns)

    node : Bool
    node = leb 1 (node_count ns)

    low : Bool
    low = leb (node_count ns) max_nodes

    high : Bool
    high = leb (edge_count ns) max_edges

    holds : question2 ns ≡ true → Counted ns
    holds h =
        let h₃ = and_first (two && node && low) high h in
        let h₂ = and_first (two && node) low h₃ in
        record {
          two = leb-true 2 (length ns) (and_first two node h₂);
          some_node = leb-true 1 (node_count ns) (and_second two node h₂);
          node_limit = leb-true (node_count ns) max_nodes (and_second (two && node) low h₃);
          edge_limit = leb-true (edge_count ns) max_edges (and_second (two && node && low) high h);
        }

pub question3_means : (ns : List ℕ) → (question3 ns ≡ true) ↔ Complete ns
unfolding question3
question3_means ns = (eqb-true (length ns) (4 * edge_count ns + 2), eq-eqb (length ns) (4 * edge_count ns + 2))

pub question4_means : (j : Job) → (question4 j ≡ true) ↔ EndsHold j
unfolding question4
question4_means j = (
  λ h. record {
    first = λ e l. ltb-true (link j e).end₁ j.nodes (and_first (below₁ e) (below₂ e) (and_first (below₁ e && below₂ e) (apart e) (at h e l)));
    second = λ e l. ltb-true (link j e).end₂ j.nodes (and_second (below₁ e) (below₂ e) (and_first (below₁ e && below₂ e) (apart e) (at h e l)));
    differ =
        λ e l. eqb-false (link j e).end₁ (link j e).end₂
        (not-true (eqb (link j e).end₁ (link j e).end₂) (and_second (below₁ e && below₂ e) (apart e) (at h e l)));
  },
  λ h. all_of (length j.links) (λ e. below₁ e && below₂ e && apart e)
      (λ e l. rw (
        lt-ltb (link j e).end₁ j.nodes (h.first e l),
        lt-ltb (link j e).end₂ j.nodes (h.second e l),
        ne_eqb (link j e).end₁ (link j e).end₂ (h.differ e l),
      )),
)
  where
    below₁ : ℕ → Bool
    below₁ e = ltb (link j e).end₁ j.nodes

    below₂ : ℕ → Bool
    below₂ e = ltb (link j e).end₂ j.nodes

    apart : ℕ → Bool
    apart e = not (eqb (link j e).end₁ (link j e).end₂)

    at : question4 j ≡ true → (e : ℕ) → e < length j.links → (below₁ e && below₂ e && apart e) ≡ true
    at h e l = all_at (length j.links) (λ e. below₁ e && below₂ e && apart e) h e l

pub mark_means : (m : ℕ) → (leb m unplugged_mark ≡ true) ↔ ((m ≡ 0) ⊎ (m ≡ 1) ⊎ (m ≡ 2))
mark_means m = (λ h. split m (leb-true m unplugged_mark h), λ h. le-leb m unplugged_mark (join h))
  where
    split : (m : ℕ) → m ≤ 2 → (m ≡ 0) ⊎ (m ≡ 1) ⊎ (m ≡ 2)
    split zero h = inl refl
    split (suc zero) h = inr (inl refl)
    split (suc (suc m)) h = inr (inr (omega arith))

    join : (m ≡ 0) ⊎ (m ≡ 1) ⊎ (m ≡ 2) → m ≤ 2
    join (inl p) = omega arith
    join (inr (inl p)) = omega arith
    join (inr (inr p)) = omega arith

pub question5_means : (j : Job) → (question5 j ≡ true) ↔ MarksHold j
unfolding question5
question5_means j = (
  λ h e l. (mark_means (link j e).mark).0 (all_at (length j.links) (λ e. leb (link j e).mark unplugged_mark) h e l),
  λ h. all_of (length j.links) (λ e. leb (link j e).mark unplugged_mark) (λ e l. (mark_means (link j e).mark).1 (h e l)),
)

-- Question 4 makes the graph sound.
pub ends_sound : (j : Job) → EndsHold j → Sound (graph_of j)
ends_sound j h = record { first = h.first; second = h.second; differ = h.differ }

-- Tree links are plugged.
pub tree_usable : (j : Job) (e : ℕ) → tree_of j e ≡ true → (graph_of j).live e ≡ true
tree_usable j e t = rw (eqb-true (link j e).mark tree_mark t) refl

pub question6_means : (j : Job) → 1 ≤ j.nodes → EndsHold j → (question6 j ≡ true) ↔ TreeHolds j
unfolding question6
question6_means j l h = tree_means (ends_sound j h) (tree_lists (graph_of j) (tree_of j) (cost_of j)) l (λ e b. tree_usable j e)

-- A question is answered "no" exactly where what it means does not hold.
refutes : {A : Type 0} {b : Bool} → (b ≡ true) ↔ A → b ≡ false → A → ⊥
refutes means n a = clash (means.1 a) n

pub refuted : {A : Type 0} {b : Bool} → (b ≡ true) ↔ A → (A → ⊥) → b ≡ false
refuted {b = b} means n = ⊎_elim (λ y. absurd (n (means.0 y))) (λ f. f) (truth b)

-- The questions in turn, each by the two words that it may have.
module _ (s ns : List ℕ) (d : Divides s ns) where
  turn6 : Formed s ns → FirstNo s (ask (question6 (job_from ns)) 6 λ _. 0)
  turn6 f =
      let means = question6_means (job_from ns) f.counted.some_node f.ends in
      ⊎_elim (λ y. rw y (none ns f (means.0 y))) (λ n. rw n (no6 ns f (refutes means n))) (truth (question6 (job_from ns)))

  turn5 : Counted ns → Complete ns → EndsHold (job_from ns) → FirstNo s (ask (question5 (job_from ns)) 5 λ _. ask (question6 (job_from ns)) 6 λ _. 0)
  turn5 h₂ h₃ h₄ =
      ⊎_elim
      (λ y. rw y (turn6 (record { divides = d; counted = h₂; complete = h₃; ends = h₄; marks = (question5_means (job_from ns)).0 y })))
      (λ n. rw n (no5 ns d h₂ h₃ h₄ (refutes (question5_means (job_from ns)) n)))
      (truth (question5 (job_from ns)))

  turn4 : Counted ns → Complete ns → FirstNo s
      (ask (question4 (job_from ns)) 4 λ _. ask (question5 (job_from ns)) 5 λ _. ask (question6 (job_from ns)) 6 λ _. 0)
  turn4 h₂ h₃ =
      ⊎_elim
      (λ y. rw y (turn5 h₂ h₃ ((question4_means (job_from ns)).0 y)))
      (λ n. rw n (no4 ns d h₂ h₃ (refutes (question4_means (job_from ns)) n)))
      (truth (question4 (job_from ns)))

  turn3 :
      Counted ns →
      FirstNo s (ask (question3 ns) 3 λ _. ask (question4 (job_from ns)) 4 λ _. ask (question5 (job_from ns)) 5 λ _. ask (question6 (job_from ns)) 6 λ _. 0)
  turn3 h₂ =
      ⊎_elim
      (λ y. rw y (turn4 h₂ ((question3_means ns).0 y)))
      (λ n. rw n (no3 ns d h₂ (refutes (question3_means ns) n)))
      (truth (question3 ns))

  turn2 : FirstNo s (number_questions (λ j. ask (question6 j) 6 λ _. 0) ns)
  turn2 =
      ⊎_elim
      (λ y. rw y (turn3 ((question2_means ns).0 y)))
      (λ n. rw n (no2 ns d (refutes (question2_means ns) n)))
      (truth (question2 ns))

-- Numbers that pass questions 2 to 5.
pub formed_pass : {s ns : List ℕ} → Formed s ns → (rest : Job → ℕ) → number_questions rest ns ≡ rest (job_from ns)
formed_pass {ns = ns} f rest =
    rw (
      (question2_means ns).1 f.counted,
      (question3_means ns).1 f.complete,
      (question4_means (job_from ns)).1 f.ends,
      (question5_means (job_from ns)).1 f.marks,
    )

turn1 : (s : List ℕ) → Bytes s → (r : Option (List ℕ)) → numbers s ≡ r → FirstNo s (question1 r (number_questions λ j. ask (question6 j) 6 λ _. 0))
turn1 s h (some ns) e = turn2 s ns ((division s ns h).0 e)
turn1 s h Option.none e = no1 (λ ns d. let z : ◌≡◌ {A = ℕ} 0 1 = cc ((division s ns h).1 d) in omega arith)

-- What is computed is the first question whose answer is "no".
pub first_no : (s : List ℕ) → Bytes s → FirstNo s (refusal s)
first_no s h = turn1 s h (numbers s) refl

-- And with a question of a service's own behind them, which is understood of accepted jobs.
pub later_first :
    (s : List ℕ) (number : ℕ) (holds : Bool) (Holds : Type 0) → Bytes s → (refusal s ≡ 0 → (holds ≡ true) ↔ Holds) →
    FirstNoWith s number Holds (later (refusal s) holds number)
later_first s number holds Holds h means = of (refusal s) (first_no s h) means
  where
    of : (r : ℕ) → FirstNo s r → (r ≡ 0 → (holds ≡ true) ↔ Holds) → FirstNoWith s number Holds (later r holds number)
    of zero f m = ⊎_elim (λ y. rw y (passed f ((m refl).0 y))) (λ n. rw n (own f (λ k. clash ((m refl).1 k) n))) (truth holds)
    of (suc r) f m = earlier (suc r) (λ e. omega (arith, e)) f

-- Where the six refuse, it is not asked; where nothing was refused, all were passed.
pub later_refused : (r number : ℕ) (holds : Bool) → (r ≡ 0 → ⊥) → later r holds number ≡ r
later_refused zero number holds n = absurd (n refl)
later_refused (suc r) number holds n = refl

pub later_none : (r : ℕ) (holds : Bool) (number : ℕ) → later r holds (suc number) ≡ 0 → (r ≡ 0) × (holds ≡ true)
later_none zero true number e = (refl, refl)
later_none zero false number e = absurd (omega (arith, e))
later_none (suc r) holds number e = absurd (omega (arith, e))

-- There is one first "no" only.
pub first_no_unique : (s : List ℕ) (r : ℕ) → Bytes s → FirstNo s r → refusal s ≡ r
first_no_unique s r h (no1 q) = ⊎_elim (λ e. rw e) (λ e. absurd (q e.0 ((division s e.0 h).0 e.1))) (either (numbers s))
  where
    either : (o : Option (List ℕ)) → (o ≡ Option.none) ⊎ ((ns : List ℕ) × (o ≡ some ns))
    either (some ns) = inr (ns, refl)
    either Option.none = inl refl
first_no_unique s r h (no2 ns d q) = rw ((division s ns h).1 d, refuted (question2_means ns) q)
first_no_unique s r h (no3 ns d h₂ q) = rw ((division s ns h).1 d, (question2_means ns).1 h₂, refuted (question3_means ns) q)
first_no_unique s r h (no4 ns d h₂ h₃ q) =
    rw ((division s ns h).1 d, (question2_means ns).1 h₂, (question3_means ns).1 h₃, refuted (question4_means (job_from ns)) q)
first_no_unique s r h (no5 ns d h₂ h₃ h₄ q) =
    rw (
      (division s ns h).1 d,
      (question2_means ns).1 h₂,
      (question3_means ns).1 h₃,
      (question4_means (job_from ns)).1 h₄,
      refuted (question5_means (job_from ns)) q,
    )
first_no_unique s r h (no6 ns f q) =
    rw (
      (division s ns h).1 f.divides,
      formed_pass f (λ j. ask (question6 j) 6 λ _. 0),
      refuted (question6_means (job_from ns) f.counted.some_node f.ends) q,
    )
first_no_unique s r h (none ns f t) =
    rw ((division s ns h).1 f.divides, formed_pass f (λ j. ask (question6 j) 6 λ _. 0), (question6_means (job_from ns) f.counted.some_node f.ends).1 t)

-- Questions 1 to 5 alone say the same, but that nothing is refused by question 6.
abbrev pub before_tree : ℕ → ℕ
before_tree r = choose (ltb r 6) (λ _. r) (λ _. 0)

first_five :
    (b₂ b₃ b₄ b₅ b₆ : Bool) →
    (ask b₂ 2 λ _. ask b₃ 3 λ _. ask b₄ 4 λ _. ask b₅ 5 λ _. 0) ≡ before_tree (ask b₂ 2 λ _. ask b₃ 3 λ _. ask b₄ 4 λ _. ask b₅ 5 λ _. ask b₆ 6 λ _. 0)
first_five false b₃ b₄ b₅ b₆ = refl
first_five true false b₄ b₅ b₆ = refl
first_five true true false b₅ b₆ = refl
first_five true true true false b₆ = refl
first_five true true true true false = refl
first_five true true true true true = refl

pub form_refusal_lem : (s : List ℕ) → form_refusal s ≡ before_tree (refusal s)
form_refusal_lem s = of (numbers s)
  where
    of : (r : Option (List ℕ)) → question1 r (number_questions λ _. 0) ≡ before_tree (question1 r (number_questions λ j. ask (question6 j) 6 λ _. 0))
    of (some ns) = first_five (question2 ns) (question3 ns) (question4 (job_from ns)) (question5 (job_from ns)) (question6 (job_from ns))
    of Option.none = refl

pub form : (s : List ℕ) (r : ℕ) → Bytes s → FirstNo s r → form_refusal s ≡ before_tree r
form s r h q = form_refusal_lem s ∙ ap before_tree (first_no_unique s r h q)

-- Two questions in turn, and then x.
pub two_refused :
    (a b : Bool) (m n x : ℕ) → ((ask a m λ _. ask b n λ _. 0) ≡ 0 → ⊥) → (ask a m λ _. ask b n λ _. x) ≡ (ask a m λ _. ask b n λ _. 0)
two_refused true true m n x h = absurd (h refl)
two_refused true false m n x h = refl
two_refused false b m n x h = refl

pub two_passed :
    (a b : Bool) (m n x : ℕ) → (ask a (suc m) λ _. ask b (suc n) λ _. 0) ≡ 0 → (ask a (suc m) λ _. ask b (suc n) λ _. x) ≡ x
two_passed true true m n x h = refl
two_passed true false m n x h = absurd (omega arith)
two_passed false b m n x h = absurd (omega arith)

-- A refusal by questions 1 to 3 is that of the frame; without one it is that of the job.
pub layout_refused : (s : List ℕ) → (layout_refusal s ≡ 0 → ⊥) → refusal s ≡ layout_refusal s
layout_refused s = of (numbers s)
  where
    of :
        (o : Option (List ℕ)) →
        ((question1 o λ ns. ask (question2 ns) 2 λ _. ask (question3 ns) 3 λ _. 0) ≡ 0 → ⊥) →
        question1 o (number_questions λ j. ask (question6 j) 6 λ _. 0) ≡ (question1 o λ ns. ask (question2 ns) 2 λ _. ask (question3 ns) 3 λ _. 0)
    of (some ns) n = two_refused (question2 ns) (question3 ns) 2 3 (job_refusal (job_from ns)) n
    of Option.none n = refl

pub layout_passed : (s : List ℕ) → layout_refusal s ≡ 0 → refusal s ≡ job_refusal (job_of s)
layout_passed s = of (numbers s)
  where
    of :
        (o : Option (List ℕ)) →
        (question1 o λ ns. ask (question2 ns) 2 λ _. ask (question3 ns) 3 λ _. 0) ≡ 0 →
        question1 o (number_questions λ j. ask (question6 j) 6 λ _. 0) ≡ job_refusal (job_from (get_or o []))
    of (some ns) z = two_passed (question2 ns) (question3 ns) 1 2 (job_refusal (job_from ns)) z
    of Option.none z = absurd (omega (arith, z))
