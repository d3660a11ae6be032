-- The loop over the tree ranks in no pair: the model, run on what is left, gives what it gives on the whole. Assumes nothing.
use Rattle.std.specs.Prelude.{ℕ, zero, suc, ◌+◌, ◌-◌, ◌^◌, ◌≤◌, ◌<◌, ◌≡◌, refl, ◌≢◌, Bool, true, false, cond, not, ◌&&◌, List, leb, ltb, eqb, length, get_or}
use Rattle.std.proofs.Math.Decide.{dec_lt}
use Rattle.std.proofs.Common.{arith, sym, ap, ◌∙◌, inl, inr, lt-ltb, le-ltb, ltb-true, le-leb, eq-eqb, ne_eqb}
use Rattle.std.proofs.Math.Path.{fun_ext}
use Rattle.std.proofs.Math.Bool.{and-false}
use Rattle.std.proofs.Math.Dec.{eqb-suc-zero}
use Rattle.std.proofs.lemmas.Bool.{lt-leb}
use Rattle.loops.specs.Loop.{first}
use Rattle.loops.specs.TestLaws.{truth, clash, and_first, and_second, and_both}
use Rattle.loops.specs.FirstLaws.{first_is, first_same}
use Rattle.bits.specs.Bit.{bit}
use Rattle.bits.specs.BitLaws.{bit_zero, first_below}
use Rattle.graph.specs.Rank.{cost_at}
use Rattle.optimum.specs.Search.{Problem, Slots, mates_in, tree_slot, never, search}
use Rattle.optimum.specs.Slackness.{Ranked}
use Rattle.optimum.proofs.SlotLaws.{Distinct, mates_at, mates_view, slot_found, slot_none}
use Rattle.optimum.specs.Lowest.{Marks, marked, label_tree, label_from, unlabelled, slot_marks}
use Rattle.search.specs.Board.{Kept}
use Rattle.search.specs.SlotSteps.{kept_both}
use Rattle.search.specs.BoardLaws.{Fits}
use Rattle.matching.specs.Tables.{Holds, tables, HoldsPairs}
use Rattle.labels.specs.Labels.{marks_of, paired_below, AreSlots, LabelledFrom, HoldsSpare, SparesLabelled, Labellable, Labelled}
use Rattle.labels.specs.TurnLaws.{tree_next, from_end, from_tree, tree_free, pass_all, from_none}
use Rattle.labels.specs.LabelSteps.{kept_all, fits_kept}

-- The arrays hold a problem and its pairs, as far as labelling reads them.
pub record Reading (p : Problem) (q : Slots) (trees spares slots : ℕ) (cost ts ss cols slot words links : List ℕ) : Type 0 where
  pub trees_are : p.trees ≡ trees
  pub spares_are : p.spares ≡ spares
  pub slots_are : q.slots ≡ slots
  pub fall : (t t' : ℕ) → t ≤ t' → t' < p.trees → p.tree_cost t' ≤ p.tree_cost t
  pub fits : Fits p q words links
  pub tree_cost_lem : (t : ℕ) → t < trees → p.tree_cost t ≡ cost_at cost ts t
  pub held : (s : ℕ) → s < spares → HoldsSpare p q s cost ss cols slot

module _
    (p : Problem)
    (q : Slots)
    (trees spares : ℕ)
    (cost ts ss cols₀ cols words links spare slot : List ℕ)
    (h : Holds p trees spares cost ts ss cols₀)
    (pairs : HoldsPairs p q cols₀ (tables cols words links spare slot))
  where
    distinct : Distinct q.slots q.spare_of
    distinct k k' a b e = sym (pairs.places k a) ∙ ap (λ (s : ℕ). get_or slot s 0) e ∙ pairs.places k' b

    -- A spare rank has a slot if its column is 0.
    holds_spare : (s : ℕ) → s < spares → HoldsSpare p q s cost ss cols slot
    holds_spare s l =
        record {
          costs = h.spare_cost_lem s l;
          without = λ d. slot_none q.slots q.spare_of s (λ k a e. d (empty k a e));
          own = λ z. found z (mates_in q s) refl;
        }
      where
        column : get_or cols s 0 ≡ cond (eqb (mates_in q s) 0) (get_or cols₀ s 0) 0
        column = pairs.columns s (omega (arith, h.spares_are))

        empty : (k : ℕ) → k < q.slots → q.spare_of k ≡ s → get_or cols s 0 ≡ 0
        empty k a e =
            let mate : mates_in q s ≡ suc (q.tree_of k) = rw e at (mates_at q.slots q.spare_of q.tree_of distinct k a) in
            column ∙ rw (mate, eqb-suc-zero (q.tree_of k))

        found :
            get_or cols s 0 ≡ 0 → (m : ℕ) → mates_in q s ≡ m
            → (first q.slots (λ k. eqb (q.spare_of k) s) ≡ get_or slot s 0)
            × (first q.slots (λ k. eqb (q.spare_of k) s) < q.slots)
        found z zero e = absurd (h.some s l (sym (rw e at column) ∙ z))
        found z (suc t) e =
            let (k, a, is, _) = mates_view q.slots q.spare_of q.tree_of s t e in
            let at : first q.slots (λ j. eqb (q.spare_of j) s) ≡ k = rw is at (slot_found q.slots q.spare_of distinct k a) in
            (at ∙ sym (rw is at (pairs.places k a)), rw at a)

    pub reading : trees < 64 → (slots : ℕ) → q.slots ≡ slots → Ranked p
        → Reading p q trees spares slots cost ts ss cols slot words links
    reading few slots e ranked =
        record {
          trees_are = h.trees_are;
          spares_are = h.spares_are;
          slots_are = e;
          fall = ranked.fall;
          fits =
              record {
                few = omega (arith, pairs.few, h.trees_are);
                ranks = omega (arith, h.trees_are);
                covered = pairs.rows;
                own = λ k l. sym (pairs.own k l);
                below = pairs.below;
              };
          tree_cost_lem = h.tree_cost_lem;
          held = holds_spare;
        }

-- What the loop keeps: `free` holds the tree ranks from `next` on that are in no pair.
pub record LabelTurns
    (trees spares slots : ℕ)
    (cost ts ss cols slot words₀ links₀ : List ℕ)
    (free left live : ℕ)
    (words links label : List ℕ)
    : Type 0
  where
    pub kept : Kept words₀ links₀ words links
    pub size : length label ≡ 64
    pub small : free < 2 ^ 64
    pub fewer : left ≤ spares
    pub next : ℕ
    pub within : next ≤ trees
    pub members : (u : ℕ) → bit free u ≡ true → (next ≤ u) × (u < trees) × (paired_below slots links₀ u ≡ false)
    pub others : (u : ℕ) → next ≤ u → u < trees → bit free u ≡ false → paired_below slots links₀ u ≡ true
    pub equal :
        (p : Problem) (q : Slots) → Reading p q trees spares slots cost ts ss cols slot words₀ links₀
        → AreSlots q live × (label_from p q ((trees - next) + left) next left (marks_of live label) ≡ slot_marks p q)

module _ (trees spares slots : ℕ) (cost ts ss cols slot words₀ links₀ : List ℕ) where
  abbrev Turn : ℕ → ℕ → ℕ → List ℕ → List ℕ → List ℕ → Type 0
  Turn = LabelTurns trees spares slots cost ts ss cols slot words₀ links₀

  abbrev Read : Problem → Slots → Type 0
  Read p q = Reading p q trees spares slots cost ts ss cols slot words₀ links₀

  pub labelling_start :
      (label : List ℕ) → Labellable trees spares slots cost ts ss cols slot words₀ links₀ label
      → (all paired free live : ℕ) → ((u : ℕ) → bit all u ≡ ltb u trees) → ((u : ℕ) → bit paired u ≡ paired_below slots links₀ u)
      → ((u : ℕ) → bit free u ≡ (bit all u && not (bit paired u))) → ((u : ℕ) → bit live u ≡ ltb u slots) → free < 2 ^ 64
      → Turn free spares live words₀ links₀ label
  labelling_start label need all paired free live alls paireds frees lives l =
      record {
        kept = kept_all words₀ links₀ label need.room;
        size = need.room.label_length;
        small = l;
        fewer = omega arith;
        next = 0;
        within = omega arith;
        members = λ u h.
            let both : (ltb u trees && not (paired_below slots links₀ u)) ≡ true = sym (is u) ∙ h in (
              omega arith,
              ltb-true u trees (and_first _ _ both),
              unnot (paired_below slots links₀ u)
                  (and_second (ltb u trees) _ both),
            );
        others = λ u a b h. elim (truth (paired_below slots links₀ u))
            [ inl e ↦ e | inr e ↦ clash (is u ∙ rw (e, lt-ltb u trees b)) h ];
        equal = λ p q r. (
          λ k h. rw r.slots_are (ltb-true k slots (sym (lives k) ∙ h)),
          let turns : (trees - 0) + spares ≡ p.trees + p.spares = omega (arith, r.trees_are, r.spares_are) in
              let none : marks_of live label ≡ unlabelled q =
              let a : bit live ≡ (λ k. ltb k q.slots) = fun_ext (λ k. lives k ∙ rw r.slots_are) in
              let b : (λ k. get_or label k 0) ≡ (unlabelled q).label = fun_ext need.unlabelled in
              λ i. record { live = a i; label = b i } in
              ap (label_from p q ((trees - 0) + spares) 0 spares) none ∙ rw (turns, r.spares_are),
        );
      }
    where
      is : (u : ℕ) → bit free u ≡ (ltb u trees && not (paired_below slots links₀ u))
      is u = frees u ∙ rw (alls u, paireds u)

      unnot : (b : Bool) → not b ≡ true → b ≡ false
      unnot true h = sym h
      unnot false h = refl

  -- A rank is in a pair of the arrays if it is in one of the model's.
  paired_same : (p : Problem) (q : Slots) → Read p q → (u : ℕ) → ltb (tree_slot q u) q.slots ≡ paired_below slots links₀ u
  paired_same p q r u =
      rw (
        first_same q.slots (λ k. eqb (q.tree_of k) u) (λ k. eqb (get_or links₀ k 0) u) (λ k l. rw (r.fits.own k l)),
        r.slots_are,
      )

  module _ (free left live : ℕ) (words links label : List ℕ) (h : Turn free left live words links label) where
    -- The tree ranks before the next one in no pair are passed over.
    passed :
        (t : ℕ) → h.next ≤ t → t ≤ trees → ((u : ℕ) → u < t → bit free u ≡ false)
        → (p : Problem) (q : Slots) → Read p q → label_from p q ((trees - t) + left) t left (marks_of live label) ≡ slot_marks p q
    passed t a b none p q r =
        let m : Marks = marks_of live label in
        let d : ℕ = t - h.next in
        let on : t ≡ h.next + d = omega arith in
        let before : (p.trees - h.next) + left ≡ (trees - h.next) + left = omega (arith, r.trees_are) in
        let after : (trees - t) + left ≡ (p.trees - (h.next + d)) + left = omega (arith, r.trees_are) in
        ap (λ (n : ℕ). label_from p q n t left m) after
        ∙ ap (λ (u : ℕ). label_from p q ((p.trees - (h.next + d)) + left) u left m) on
        ∙ sym (pass_all p q r.fall h.next d left m (omega (arith, r.trees_are))
        (λ u c e. paired_same p q r u ∙ h.others u c (omega arith) (none u (omega arith))))
        ∙ ap (λ (n : ℕ). label_from p q n h.next left m) before
        ∙ (h.equal p q r).1

    -- Every slot has a label.
    pub labelling_done : live ≡ 0 → trees < 64 → Labelled trees spares slots cost ts ss cols slot words₀ links₀ words links label
    labelling_done e few =
        record {
          kept = h.kept;
          size = h.size;
          labels = λ p q cols₀ spare ranked holds pairs is k.
              let r : Read p q = reading p q trees spares cost ts ss cols₀ cols words₀ links₀ spare slot holds pairs few
              slots is ranked in
              ap (λ (m : Marks). m.label k)
              (sym (from_none p q (marks_of live label) (λ j. rw e (bit_zero j)) ((trees - h.next) + left) h.next left)
              ∙ (h.equal p q r).1);
        }

    -- The last spare ranks.
    pub labelling_end :
        free ≡ 0 → trees < 64 → (words' links' label' : List ℕ) (left' live' : ℕ)
        → SparesLabelled left live 0 cost ss cols slot words links label words' links' label' left' live'
        → (0 < left' → cost_at cost ss (left' - 1) < 0)
        → Labelled trees spares slots cost ts ss cols slot words₀ links₀ words' links' label'
    labelling_end e few words' links' label' left' live' f cheaper =
        record {
          kept = kept_both words₀ links₀ words links words' links' h.kept f.kept;
          size = f.size;
          labels = λ p q cols₀ spare ranked holds pairs is k.
              let r : Read p q = reading p q trees spares cost ts ss cols₀ cols words₀ links₀ spare slot holds pairs few
              slots is ranked in
              ap (λ (m : Marks). m.label k) (whole p q r);
        }
      where
        over : left' ≡ 0
        over = last left' refl
          where
            last : (n : ℕ) → left' ≡ n → left' ≡ 0
            last zero z = z
            last (suc n) z = absurd (omega (arith, cheaper (omega arith)))

        whole : (p : Problem) (q : Slots) → Read p q → marks_of live' label' ≡ slot_marks p q
        whole p q r =
            let none : (trees - trees) + left ≡ 0 + left = omega arith in
            let held : (s : ℕ) → s < left → HoldsSpare p q s cost ss cols slot = λ s l. r.held s (omega (arith, h.fewer)) in
            let g = f.equal p q (fits_kept words₀ links₀ words links h.kept p q r.fits) held (h.equal p q r).0 in
            sym (rw over at (from_end p q trees left' (marks_of live' label')))
            ∙ rw over at (g.1 0 trees (λ x _. rw (r.trees_are, le-ltb trees trees (omega arith))))
            ∙ rw none at (passed trees h.within (omega arith) (λ u _. rw e (bit_zero u)) p q r)

    module _ (some : free ≢ 0) (t : ℕ) (lowest : t ≡ first 64 (bit free)) where
      hit : bit free t ≡ true
      hit = rw lowest ((first_is 64 (bit free)).hit (first_below 64 free (omega arith) h.small))

      pub next_rank_below : t < trees
      next_rank_below = (h.members t hit).1

      -- A tree rank in no pair, after the spare ranks that come before it.
      pub labelling_turn :
          (x : ℕ) → x ≡ cost_at cost ts t
          → (words₁ links₁ label₁ : List ℕ) (left₁ live₁ : ℕ)
          → SparesLabelled left live (x + 1) cost ss cols slot words links label words₁ links₁ label₁ left₁ live₁
          → (0 < left₁ → cost_at cost ss (left₁ - 1) < x + 1)
          → (words₂ links₂ label₂ : List ℕ) (live₂ : ℕ) → LabelledFrom t x live₁ live₁ words₁ links₁ label₁ words₂ links₂
          label₂ live₂
          → (free' : ℕ) → ((u : ℕ) → bit free' u ≡ (bit free u && not (eqb u (first 64 (bit free))))) → free' < 2 ^ 64
          → Turn free' left₁ live₂ words₂ links₂ label₂
      labelling_turn x xe words₁ links₁ label₁ left₁ live₁ f cheaper words₂ links₂ label₂ live₂ g free' less small =
          record {
            kept = kept_both words₀ links₀ words₁ links₁ words₂ links₂ kept₁ g.kept;
            size = g.size;
            small = small;
            fewer = omega (arith, f.fewer, h.fewer);
            next = suc t;
            within = next_rank_below;
            members = λ u m.
                let old : (bit free u && not (eqb u t)) ≡ true = sym (off u) ∙ m in
                let is : bit free u ≡ true = and_first _ _ old in (
                  later u is (λ e. clash (and_second (bit free u) _ old) (rw (eq-eqb u t e))),
                  (h.members u is).1,
                  (h.members u is).2,
                );
            others = λ u a b m. h.others u (omega (arith, (h.members t hit).0)) b (gone u (omega arith) m);
            equal = λ p q r. turned p q r;
          }
        where
          kept₁ : Kept words₀ links₀ words₁ links₁
          kept₁ = kept_both words₀ links₀ words links words₁ links₁ h.kept f.kept

          off : (u : ℕ) → bit free' u ≡ (bit free u && not (eqb u t))
          off u = less u ∙ rw lowest

          before : (u : ℕ) → u < t → bit free u ≡ false
          before u l = (first_is 64 (bit free)).before u (omega arith)

          later : (u : ℕ) → bit free u ≡ true → u ≢ t → suc t ≤ u
          later u is d = elim (dec_lt t u) [ yes l ↦ l | no l ↦ clash is (before u (omega arith)) ]

          gone : (u : ℕ) → u ≢ t → bit free' u ≡ false → bit free u ≡ false
          gone u d m = elim (truth (bit free u)) [ inr e ↦ e | inl e ↦ clash (off u ∙ rw (e, ne_eqb u t d)) m ]

          turned :
              (p : Problem) (q : Slots) → Read p q
              → AreSlots q live₂ × (label_from p q ((trees - suc t) + left₁) (suc t) left₁ (marks_of live₂ label₂)
              ≡ slot_marks p q)
          turned p q r =
              let l : t < p.trees = rw r.trees_are next_rank_below in
              let costs : p.tree_cost t ≡ x = r.tree_cost_lem t next_rank_below ∙ sym xe in
              let m : Marks = marks_of live₁ label₁ in
              let held : (s : ℕ) → s < left → HoldsSpare p q s cost ss cols slot = λ s a. r.held s (omega (arith, h.fewer)) in
              let (a, b) = f.equal p q (fits_kept words₀ links₀ words links h.kept p q r.fits) held (h.equal p q r).0 in
              let (c, d) = g.equal p q (fits_kept words₀ links₀ words₁ links₁ kept₁ p q r.fits) l a in
              let origin : label_tree p q t m ≡ marked x (search p q never (bit live₁) t) m =
              tree_free p q t m (paired_same p q r t ∙ (h.members t hit).2)
              ∙ ap (λ (y : ℕ). marked y (search p q never (bit live₁) t) m) costs in
              let one : (trees - t) + left₁ ≡ suc ((trees - suc t) + left₁) = omega (arith, next_rank_below) in (
                c,
                ap (label_from p q ((trees - suc t) + left₁) (suc t) left₁) (d ∙ sym origin)
                    ∙ sym (from_tree p q ((trees - suc t) + left₁) t left₁ m (dear p q r l costs))
                    ∙ ap (λ (n : ℕ). label_from p q n t left₁ m) (sym one)
                    ∙ b (trees - t) t (λ y k. after p costs y k)
                    ∙ passed t (h.members t hit).0 (omega (arith, next_rank_below)) before p q r,
              )
            where
              after : (p : Problem) → p.tree_cost t ≡ x → (y : ℕ) → x + 1 ≤ y → (ltb t p.trees && leb y (p.tree_cost t)) ≡ false
              after p costs y k = rw (lt-leb y (p.tree_cost t) (omega arith)) (and-false (ltb t p.trees))

              dear : (p : Problem) (q : Slots) → Read p q → t < p.trees → p.tree_cost t ≡ x → 0 < left₁
                  → tree_next p q t (left₁ - 1) ≡ true
              dear p q r l costs k =
                  and_both _ _ (lt-ltb t p.trees l) (le-leb (p.spare_cost (left₁ - 1)) (p.tree_cost t)
                  (omega (arith, cheaper k, (r.held (left₁ - 1) (omega (arith, f.fewer, h.fewer))).costs)))
