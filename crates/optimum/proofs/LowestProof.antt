-- The labels of any matching that has slack costs are slack with it themselves, and the lowest costs that are; each
-- label is an old cost. Assumes nothing.
use Rattle.std.specs.Prelude.{ℕ, ◌<◌, ◌≡◌, refl, ◌⊎◌, true, false, cond, ltb, pos, ◌≤ℤ◌}
use Rattle.std.proofs.Common.{arith, sym, ap, ◌∙◌, inl, inr, lt-ltb}
use Rattle.std.specs.Int.Signed.{≤ℤ_refl}
use Rattle.optimum.specs.Search.{Problem, Slots, mates_in, tree_slot, spare_slot}
use Rattle.optimum.specs.Slackness.{Ranked, Valid, RankCosts, Slack, Unmatched}
use Rattle.optimum.specs.Lowest.{Marks, slot_marks}
use Rattle.graph.specs.Integers.{pos_le, ≤ℤ_trans}
use Rattle.optimum.proofs.Matched.{mate, free, pair, matched_view}
use Rattle.optimum.proofs.SlotLaws.{HeldSlots, slot_mate, slot_below, slots_apart, mates_view, slot_found, slot_none}
use Rattle.optimum.proofs.Labelling.{Labelling, marks_labelling}

-- The labels by rank: a matched rank has its slot's, any other its own cost.
pub record Labels : Type 0 where
  pub tree_label : ℕ → ℕ
  pub spare_label : ℕ → ℕ

abbrev pub labels : Problem → Slots → Labels
labels p q =
    let l : Marks = slot_marks p q in
    record {
      tree_label = λ t. let k : ℕ = tree_slot q t in cond (ltb k q.slots) (l.label k) (p.tree_cost t);
      spare_label = λ s. let k : ℕ = spare_slot q s in cond (ltb k q.slots) (l.label k) (p.spare_cost s);
    }

abbrev pub label_costs : Labels → RankCosts
label_costs l = record { tree = λ t. pos (l.tree_label t); spare = λ s. pos (l.spare_label s) }

-- v is the old cost of some rank.
abbrev pub Old : Problem → ℕ → Type 0
Old p v = ((t : ℕ) × (t < p.trees) × (v ≡ p.tree_cost t)) ⊎ ((s : ℕ) × (s < p.spares) × (v ≡ p.spare_cost s))

module _ (p : Problem) (q : Slots) (held : HeldSlots p q) (valid : Valid p (mates_in q)) where
  -- A rank has a slot, or is unmatched.
  pub tree_view : (t : ℕ) → ((k : ℕ) × (k < q.slots) × (q.tree_of k ≡ t)) ⊎ Unmatched p (mates_in q) t
  tree_view t = elim (matched_view p (mates_in q) t) [
    | inl (s, a, e) ↦ let (k, b, _, g) = mates_view q.slots q.spare_of q.tree_of s t e in inl (k, b, g)
    | inr u ↦ inr u
  ]

  pub spare_view : (s : ℕ) → ((k : ℕ) × (k < q.slots) × (q.spare_of k ≡ s)) ⊎ (mates_in q s ≡ 0)
  spare_view s = elim (mate (mates_in q) s) [
    | free e ↦ inr e
    | pair t e ↦ let (k, b, g, _) = mates_view q.slots q.spare_of q.tree_of s t e in inl (k, b, g)
  ]

  -- So it has its slot's label, or its own cost.
  pub tree_label_lem : (k : ℕ) → k < q.slots → (labels p q).tree_label (q.tree_of k) ≡ (slot_marks p q).label k
  tree_label_lem k a = rw (slot_found q.slots q.tree_of (slots_apart p q held valid) k a, lt-ltb k q.slots a)

  pub spare_label_lem : (k : ℕ) → k < q.slots → (labels p q).spare_label (q.spare_of k) ≡ (slot_marks p q).label k
  spare_label_lem k a = rw (slot_found q.slots q.spare_of held.distinct k a, lt-ltb k q.slots a)

  pub tree_label_free : (t : ℕ) → Unmatched p (mates_in q) t → (labels p q).tree_label t ≡ p.tree_cost t
  tree_label_free t u =
      rw (slot_none q.slots q.tree_of t (λ k a e. u (q.spare_of k) (held.ranks k a) (rw e at (slot_mate p q held k a))))

  pub spare_label_free : (s : ℕ) → mates_in q s ≡ 0 → (labels p q).spare_label s ≡ p.spare_cost s
  spare_label_free s f = rw (slot_none q.slots q.spare_of s (λ k a e. omega (arith, f, rw e at (slot_mate p q held k a))))

module _ (p : Problem) (ranked : Ranked p) (q : Slots) (held : HeldSlots p q) where
  old_costs : Labelling p q (λ _. Old p) p.trees 0 (slot_marks p q)
  old_costs =
      marks_labelling p q held (λ _. Old p)
      record {
        from_tree = λ t k l u a c. inl (t, l, refl);
        from_own = λ k a. inr (q.spare_of k, held.ranks k a, refl);
        hands_on = λ k k' v a a' o c. o;
      }
      ranked

  pub marks_old : (k : ℕ) → k < q.slots → Old p ((slot_marks p q).label k)
  marks_old k a = old_costs.says k a (old_costs.spare_own k a (omega arith)).0

-- What a label says of the slack costs e: they are at least the label.
module _
    (p : Problem) (ranked : Ranked p) (q : Slots) (held : HeldSlots p q) (valid : Valid p (mates_in q)) (e : RankCosts) (slack : Slack p (mates_in q) e)
  where
    abbrev AtSlot : ℕ → ℕ → Type 0
    AtSlot k v = pos v ≤ℤ e.spare (q.spare_of k)

    tree_tight : (k : ℕ) → k < q.slots → e.tree (q.tree_of k) ≡ e.spare (q.spare_of k)
    tree_tight k a = slack.tight (q.spare_of k) (q.tree_of k) (held.ranks k a) (slot_mate p q held k a)

    forced : Labelling p q AtSlot p.trees 0 (slot_marks p q)
    forced =
        marks_labelling p q held AtSlot
        record {
          from_tree = λ t k l u a c. rw (slack.tree_free t l u) at (slack.feasible t (q.spare_of k) l (held.ranks k a) c);
          from_own = λ k a. slack.above (q.spare_of k) (held.ranks k a);
          hands_on = λ k k' v a a' o c.
              let over = slack.feasible (q.tree_of k) (q.spare_of k') (slot_below p q held valid k a) (held.ranks k' a') c in
              ≤ℤ_trans o (rw (tree_tight k a) at over);
        }
        ranked

    done : (k : ℕ) → k < q.slots → (slot_marks p q).live k ≡ false
    done k a = (forced.spare_own k a (omega arith)).0

    tree_lowest : (t : ℕ) → t < p.trees → pos ((labels p q).tree_label t) ≤ℤ e.tree t
    tree_lowest t l = elim (tree_view p q held valid t) [
      | inl (k, a, g) ↦ rw (← g, tree_label_lem p q held valid k a, tree_tight k a) (forced.says k a (done k a))
      | inr u ↦ rw (tree_label_free p q held valid t u, slack.tree_free t l u) (≤ℤ_refl (pos (p.tree_cost t)))
    ]

    spare_lowest : (s : ℕ) → s < p.spares → pos ((labels p q).spare_label s) ≤ℤ e.spare s
    spare_lowest s l = elim (spare_view p q held valid s) [
      | inl (k, a, g) ↦ rw (← g, spare_label_lem p q held valid k a) (forced.says k a (done k a))
      | inr f ↦ rw (spare_label_free p q held valid s f) (slack.above s l)
    ]

    forced_slack : Slack p (mates_in q) (label_costs (labels p q))
    forced_slack =
        record {
          feasible = λ t s k l c. elim (spare_view p q held valid s) [
            | inr f ↦ rw (spare_label_free p q held valid s f) (≤ℤ_trans (tree_lowest t k) (rw (slack.spare_free s l f) at (slack.feasible t s k l c)))
            | inl (j, a, g) ↦ rw (← g, spare_label_lem p q held valid j a) (over t j a (rw g c) (tree_view p q held valid t) k)
          ];
          tight = λ s t l g. ap pos (level s t (mates_view q.slots q.spare_of q.tree_of s t g));
          above = λ s l. elim (spare_view p q held valid s) [
            | inl (k, a, g) ↦ rw (← g, spare_label_lem p q held valid k a) (pos_le (forced.spare_own k a (omega arith)).1)
            | inr f ↦ rw (spare_label_free p q held valid s f) (≤ℤ_refl (pos (p.spare_cost s)))
          ];
          below = λ t l. ≤ℤ_trans (tree_lowest t l) (slack.below t l);
          spare_free = λ s l f. ap pos (spare_label_free p q held valid s f);
          tree_free = λ t l u. ap pos (tree_label_free p q held valid t u);
        }
      where
        level : (s t : ℕ) → (k : ℕ) × (k < q.slots) × (q.spare_of k ≡ s) × (q.tree_of k ≡ t) → (labels p q).tree_label t ≡ (labels p q).spare_label s
        level s t (k, a, x, y) = rw (← x, ← y) (tree_label_lem p q held valid k a ∙ sym (spare_label_lem p q held valid k a))

        over :
            (t j : ℕ) → j < q.slots → p.covers t (q.spare_of j) ≡ true
            → ((k : ℕ) × (k < q.slots) × (q.tree_of k ≡ t)) ⊎ Unmatched p (mates_in q) t → t < p.trees
            → pos ((labels p q).tree_label t) ≤ℤ pos ((slot_marks p q).label j)
        over t j a c (inl (k, b, g)) l = rw (← g, tree_label_lem p q held valid k b) (pos_le (forced.followed k j b a (done k b) (rw g c)).1)
        over t j a c (inr u) l = rw (tree_label_free p q held valid t u) (pos_le (forced.tree_own t j l u a c).1)

pub labels_slack :
    (p : Problem) → Ranked p → (q : Slots) → HeldSlots p q → Valid p (mates_in q) → (d : RankCosts) → Slack p (mates_in q) d
    → Slack p (mates_in q) (label_costs (labels p q))
labels_slack p ranked q held valid d slack = forced_slack p ranked q held valid d slack

pub labels_lowest :
    (p : Problem) → Ranked p → (q : Slots) → HeldSlots p q → Valid p (mates_in q) → (e : RankCosts) → Slack p (mates_in q) e
    → ((t : ℕ) → t < p.trees → (label_costs (labels p q)).tree t ≤ℤ e.tree t) × ((s : ℕ) → s < p.spares → (label_costs (labels p q)).spare s ≤ℤ e.spare s)
labels_lowest p ranked q held valid e slack = (tree_lowest p ranked q held valid e slack, spare_lowest p ranked q held valid e slack)
