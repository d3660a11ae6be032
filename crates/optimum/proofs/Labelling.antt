-- The invariant of the labels while they are given: the slots that have a label are closed under alternating steps, along
-- which labels do not fall, and every label is at least each cost still to come. Assumes nothing.
use Prim.Native.Nat.{ℕ, zero, suc, ◌+◌, ◌≤◌, ◌<◌}
use Rattle.std.proofs.Math.Decide.{ℕ_discrete}
use native.Mathlib.Omega.{arith}
use Rattle.std.specs.Prelude.{◌≡◌, refl, Bool, ltb, eqb}
use Rattle.std.proofs.Common.{sym, ◌∙◌, inl, inr}
use Rattle.std.proofs.Math.Bool.{true, false}
use borrow.Author.Tests.{ltb-true, ltb-false, lt-ltb, leb-true, leb-false, eq-eqb, eqb-true}
use Rattle.loops.specs.Loop.{put}
use Rattle.loops.specs.TestLaws.{truth, clash, and_first, and_second, and_miss, choose_both}
use Rattle.loops.specs.PutLaws.{put_same, put_other, put_split, put_less}
use Rattle.loops.specs.FirstLaws.{first_is, some_of}
use Rattle.optimum.specs.Search.{Problem, Slots, mates_in, tree_slot, spare_slot, Search, never, begun, search}
use Rattle.optimum.specs.Slackness.{Ranked, Unmatched}
use Rattle.optimum.specs.Lowest.{Marks, marked, label_tree, label_slot, label_from, unlabelled, slot_marks}
use Rattle.optimum.proofs.SlotLaws.{HeldSlots, mates_view, mates_at, slot_found}
use Rattle.optimum.proofs.SearchLaws.{Closed, unlive, search_keeps, search_closed}

-- What a label says of its slot: the origin's old cost says it of the slots over it, and alternating steps hand it on.
pub record Says (p : Problem) (q : Slots) (OnSlot : ℕ → ℕ → Type 0) : Type 0 where
  pub from_tree : (t k : ℕ) → t < p.trees → Unmatched p (mates_in q) t → k < q.slots → p.covers t (q.spare_of k) ≡ true → OnSlot k (p.tree_cost t)
  pub from_own : (k : ℕ) → k < q.slots → OnSlot k (p.spare_cost (q.spare_of k))
  pub hands_on : (k k' v : ℕ) → k < q.slots → k' < q.slots → OnSlot k v → p.covers (q.tree_of k) (q.spare_of k') ≡ true → OnSlot k' v

-- No slot over the tree rank of a slot that was visited is live any more.
abbrev Closure : Problem → Slots → (ℕ → Bool) → (ℕ → Bool) → Type 0
Closure p q before after =
    (k k' : ℕ) → k < q.slots → k' < q.slots → before k ≡ true → after k ≡ false → p.covers (q.tree_of k) (q.spare_of k') ≡ true → after k' ≡ false

-- v is at least the cost of every rank to come: tree ranks from n up, non-tree ranks below s.
pub record Top (p : Problem) (n s v : ℕ) : Type 0 where
  pub trees : (t : ℕ) → n ≤ t → t < p.trees → p.tree_cost t ≤ v
  pub spares : (x : ℕ) → x < s → p.spare_cost x ≤ v

-- Labels when tree ranks below n and non-tree ranks from s up had their turns.
pub record Labelling (p : Problem) (q : Slots) (OnSlot : ℕ → ℕ → Type 0) (n s : ℕ) (l : Marks) : Type 0 where
  pub followed :
      (k k' : ℕ) → k < q.slots → k' < q.slots → l.live k ≡ false → p.covers (q.tree_of k) (q.spare_of k') ≡ true
      → (l.live k' ≡ false) × (l.label k ≤ l.label k')
  pub top : (k : ℕ) → k < q.slots → l.live k ≡ false → Top p n s (l.label k)
  pub says : (k : ℕ) → k < q.slots → l.live k ≡ false → OnSlot k (l.label k)
  pub tree_own :
      (t k : ℕ) → t < n → Unmatched p (mates_in q) t → k < q.slots → p.covers t (q.spare_of k) ≡ true
      → (l.live k ≡ false) × (p.tree_cost t ≤ l.label k)
  pub spare_own : (k : ℕ) → k < q.slots → s ≤ q.spare_of k → (l.live k ≡ false) × (p.spare_cost (q.spare_of k) ≤ l.label k)

top_later : (p : Problem) (n s n' s' v : ℕ) → n ≤ n' → s' ≤ s → Top p n s v → Top p n' s' v
top_later p n s n' s' v a b h =
    record { trees = λ t c l. h.trees t (omega arith) l; spares = λ x c. h.spares x (omega arith) }

-- The label after an exploration that gives v: v to what it has visited, and the old one to the others.
label_new : (v : ℕ) (st : Search) (l : Marks) (k : ℕ) → l.live k ≡ true → st.live k ≡ false → (marked v st l).label k ≡ v
label_new v st l k a b = rw (a, b)

label_old : (v : ℕ) (st : Search) (l : Marks) (k : ℕ) → l.live k ≡ false → (marked v st l).label k ≡ l.label k
label_old v st l k a = rw a

-- Alternating steps hand a property of slots on: all that an exploration has visited has it.
module _
    (p : Problem)
    (q : Slots)
    (OnSlot : ℕ → Type 0)
    (on : (k k' : ℕ) → k < q.slots → k' < q.slots → OnSlot k → p.covers (q.tree_of k) (q.spare_of k') ≡ true → OnSlot k')
    (live : ℕ → Bool)
  where
    record Told (st : Search) : Type 0 where
      trees : (x k : ℕ) → st.seen x ≡ true → k < q.slots → p.covers x (q.spare_of k) ≡ true → OnSlot k
      slots : (k : ℕ) → k < q.slots → live k ≡ true → st.live k ≡ false → OnSlot k

    search_tells :
        (t : ℕ) → ((k : ℕ) → k < q.slots → p.covers t (q.spare_of k) ≡ true → OnSlot k) → (k : ℕ) → k < q.slots → live k ≡ true
        → (search p q never live t).live k ≡ false → OnSlot k
    search_tells t f = (search_keeps p q never Told
        (λ x k st a c v h i. record {
          trees = λ y j e b d. elim (put_split st.seen (q.tree_of k) y e) [
            | inl r ↦ on k j a b (i.trees x k h a c) (rw r at d)
            | inr r ↦ i.trees y j r b d
          ];
          slots = λ j b e g. elim (ℕ_discrete j k) [
            | yes r ↦ rw r (i.trees x k h a c)
            | no r ↦ i.slots j b e (sym (put_other st.live k false j r) ∙ g)
          ];
        })
        (λ u st e h i. clash e refl)
        live t
        record {
          trees = λ y j e b d. elim (put_split (λ _. false) t y e) [ inl r ↦ f j b (rw r at d) | inr r ↦ clash r refl ];
          slots = λ k a e g. clash e g;
        }).0.slots

module _ (p : Problem) (q : Slots) (held : HeldSlots p q) (OnSlot : ℕ → ℕ → Type 0) (says : Says p q OnSlot) where
  abbrev Turned : ℕ → ℕ → Marks → Type 0
  Turned = Labelling p q OnSlot

  -- What the turns of tree ranks from n below n' leave, and those of non-tree ranks from s' below s.
  abbrev TreesHad : ℕ → ℕ → Marks → Type 0
  TreesHad n n' l =
      (t k : ℕ) → t < n' → n ≤ t → Unmatched p (mates_in q) t → k < q.slots → p.covers t (q.spare_of k) ≡ true
      → (l.live k ≡ false) × (p.tree_cost t ≤ l.label k)

  abbrev SparesHad : ℕ → ℕ → Marks → Type 0
  SparesHad s s' l =
      (k : ℕ) → k < q.slots → s' ≤ q.spare_of k → q.spare_of k < s → (l.live k ≡ false) × (p.spare_cost (q.spare_of k) ≤ l.label k)

  -- Everything newly visited is labelled v, a cost that was to come.
  module _
      (n s n' s' : ℕ)
      (later : n ≤ n')
      (fewer : s' ≤ s)
      (l : Marks)
      (i : Turned n s l)
      (v : ℕ)
      (low : (k : ℕ) → k < q.slots → l.live k ≡ false → v ≤ l.label k)
      (top : Top p n' s' v)
      (st : Search)
      (falls : (k : ℕ) → st.live k ≡ true → l.live k ≡ true)
      (closed : Closure p q l.live st.live)
      (told : (k : ℕ) → k < q.slots → l.live k ≡ true → st.live k ≡ false → OnSlot k v)
    where
      abbrev next : Marks
      next = marked v st l

      floor : (k : ℕ) → k < q.slots → st.live k ≡ false → v ≤ next.label k
      floor k a h = elim (truth (l.live k)) [
        | inl e ↦ omega (arith, label_new v st l k e h)
        | inr e ↦ omega (arith, label_old v st l k e, low k a e)
      ]

      stays : (k a : ℕ) → (l.live k ≡ false) × (a ≤ l.label k) → (st.live k ≡ false) × (a ≤ next.label k)
      stays k a h = (unlive l.live st.live k falls h.0, omega (arith, h.1, label_old v st l k h.0))

      relabelled : TreesHad n n' next → SparesHad s s' next → Turned n' s' next
      relabelled tree spare =
          record {
            followed = λ k k' a a' h c. elim (truth (l.live k)) [
              | inr e ↦
                  let w = i.followed k k' a a' e c in
                  let (x, y) = stays k' (l.label k) w in
                  (x, omega (arith, y, label_old v st l k e))
              | inl e ↦
                  let x = closed k k' a a' e h c in
                  (x, omega (arith, label_new v st l k e h, floor k' a' x))
            ];
            top = λ k a h. elim (truth (l.live k)) [
              | inr e ↦ rw (label_old v st l k e) (top_later p n s n' s' (l.label k) later fewer (i.top k a e))
              | inl e ↦ rw (label_new v st l k e h) top
            ];
            says = λ k a h. elim (truth (l.live k)) [
              | inr e ↦ rw (label_old v st l k e) (i.says k a e)
              | inl e ↦ rw (label_new v st l k e h) (told k a e h)
            ];
            tree_own = λ t k a u b c. elim (truth (ltb t n)) [
              | inl e ↦ stays k (p.tree_cost t) (i.tree_own t k (ltb-true t n e) u b c)
              | inr e ↦ tree t k a (ltb-false t n e) u b c
            ];
            spare_own = λ k a b. elim (truth (ltb (q.spare_of k) s)) [
              | inl e ↦ spare k a b (ltb-true (q.spare_of k) s e)
              | inr e ↦ stays k (p.spare_cost (q.spare_of k)) (i.spare_own k a (ltb-false (q.spare_of k) s e))
            ];
          }

  unchanged : (n s n' s' : ℕ) (l : Marks) → n ≤ n' → s' ≤ s → Turned n s l → TreesHad n n' l → SparesHad s s' l → Turned n' s' l
  unchanged n s n' s' l later fewer i tree spare =
      record {
        followed = i.followed;
        top = λ k a h. top_later p n s n' s' (l.label k) later fewer (i.top k a h);
        says = i.says;
        tree_own = λ t k a u b c. elim (truth (ltb t n)) [
          | inl e ↦ i.tree_own t k (ltb-true t n e) u b c
          | inr e ↦ tree t k a (ltb-false t n e) u b c
        ];
        spare_own = λ k a b. elim (truth (ltb (q.spare_of k) s)) [
          | inl e ↦ spare k a b (ltb-true (q.spare_of k) s e)
          | inr e ↦ i.spare_own k a (ltb-false (q.spare_of k) s e)
        ];
      }

  -- A tree rank with a slot is matched; one without is not.
  slot_matched : (t : ℕ) → ltb (tree_slot q t) q.slots ≡ true → Unmatched p (mates_in q) t → ⊥
  slot_matched t h u =
      let k : ℕ = tree_slot q t in
      let a : k < q.slots = ltb-true k q.slots h in
      let same : q.tree_of k ≡ t = eqb-true (q.tree_of k) t ((first_is q.slots (λ j. eqb (q.tree_of j) t)).hit a) in
      u (q.spare_of k) (held.ranks k a) (rw same at (mates_at q.slots q.spare_of q.tree_of held.distinct k a))

  slot_unmatched : (t : ℕ) → ltb (tree_slot q t) q.slots ≡ false → Unmatched p (mates_in q) t
  slot_unmatched t h s a e =
      let (k, b, _, g) = mates_view q.slots q.spare_of q.tree_of s t e in
      clash (some_of q.slots (λ j. eqb (q.tree_of j) t) k b (eq-eqb (q.tree_of k) t g)) h

  -- The turn of tree rank n.
  tree_turn : (n s : ℕ) (l : Marks) → n < p.trees → Top p (suc n) s (p.tree_cost n) → Turned n s l → Turned (suc n) s (label_tree p q n l)
  unfolding label_tree
  tree_turn n s l b top i =
      choose_both (Turned (suc n) s) _ _ _
      (λ h. unchanged n s (suc n) s l (omega arith) (omega arith) i
      (λ t k a c u d e. let same : t ≡ n = omega arith in absurd (slot_matched n h (rw same at u)))
      (λ k a c d. absurd (omega arith)))
      (λ h.
      let v : ℕ = p.tree_cost n in
      let st : Search = search p q never l.live n in
      let c : Closed p q n (begun l.live n) st = search_closed p q never l.live n in
      let low : (k : ℕ) → k < q.slots → l.live k ≡ false → v ≤ l.label k = λ k a e. (i.top k a e).trees n (omega arith) b in
      let told =
      search_tells p q (λ k. OnSlot k v) (λ k k' a a' o d. says.hands_on k k' v a a' o d) l.live n
      (λ k a d. says.from_tree n k b (slot_unmatched n h) a d) in
      relabelled n s (suc n) s (omega arith) (omega arith) l i v low top st c.falls c.followed told
      (λ t k a d u e g.
      let same : t ≡ n = omega arith in
      let dead : st.live k ≡ false = c.tried k e (rw same at g) in
      (dead, rw same (floor n s (suc n) s (omega arith) (omega arith) l i v low top st c.falls c.followed told k e dead)))
      (λ k a d e. absurd (omega arith)))

  -- The turn of non-tree rank s.
  spare_turn : (n s : ℕ) (l : Marks) → Top p n s (p.spare_cost s) → Turned n (suc s) l → Turned n s (label_slot p q s (spare_slot q s) l)
  unfolding label_slot
  spare_turn n s l top i =
      choose_both (Turned n s) _ _ _
      (λ h.
      let a : k < q.slots = ltb-true k q.slots (and_first _ _ h) in
      let e : l.live k ≡ true = and_second (ltb k q.slots) _ h in
      let st : Search = search p q never (put l.live k false) (q.tree_of k) in
      let c : Closed p q (q.tree_of k) (begun (put l.live k false) (q.tree_of k)) st = search_closed p q never (put l.live k false) (q.tree_of k) in
      let own : OnSlot k v = rw (is a) at (says.from_own k a) in
      let told : (j : ℕ) → j < q.slots → put l.live k false j ≡ true → st.live j ≡ false → OnSlot j v =
      search_tells p q (λ j. OnSlot j v) (λ j j' b b' o d. says.hands_on j j' v b b' o d) (put l.live k false) (q.tree_of k)
      (λ j b d. says.hands_on k j v a b own d) in
      let falls : (j : ℕ) → st.live j ≡ true → l.live j ≡ true = λ j g. (put_less l.live k j (c.falls j g)).1 in
      let closed : Closure p q l.live st.live = λ j j' b b' g f d. elim (ℕ_discrete j k) [
        | yes r ↦ c.tried j' b' (rw r at d)
        | no r ↦ c.followed j j' b b' (put_other l.live k false j r ∙ g) f d
      ] in
      let tells : (j : ℕ) → j < q.slots → l.live j ≡ true → st.live j ≡ false → OnSlot j v = λ j b g f. elim (ℕ_discrete j k) [
        | yes r ↦ rw r own
        | no r ↦ told j b (put_other l.live k false j r ∙ g) f
      ] in
      let dead : st.live k ≡ false = unlive (put l.live k false) st.live k c.falls (put_same l.live k false) in
      relabelled n (suc s) n s (omega arith) (omega arith) l i v low top st falls closed tells
      (λ t j b d u f g. absurd (omega arith))
      (λ j b d f.
      let same : q.spare_of j ≡ s = omega arith in
      let it : j ≡ k = found j b same in
      (rw it dead, rw (same, it) (floor n (suc s) n s (omega arith) (omega arith) l i v low top st falls closed tells k a dead))))
      (λ h.
      unchanged n (suc s) n s l (omega arith) (omega arith) i
      (λ t j b d u f g. absurd (omega arith))
      (λ j b d f.
      let same : q.spare_of j ≡ s = omega arith in
      let it : j ≡ k = found j b same in
      let gone : l.live j ≡ false = rw it (and_miss (ltb k q.slots) _ h (lt-ltb k q.slots (omega arith))) in
      (gone, rw same (low j b gone))))
    where
      k : ℕ
      k = spare_slot q s

      v : ℕ
      v = p.spare_cost s

      low : (j : ℕ) → j < q.slots → l.live j ≡ false → v ≤ l.label j
      low j a e = (i.top j a e).spares s (omega arith)

      is : k < q.slots → q.spare_of k ≡ s
      is a = eqb-true (q.spare_of k) s ((first_is q.slots (λ j. eqb (q.spare_of j) s)).hit a)

      found : (j : ℕ) → j < q.slots → q.spare_of j ≡ s → j ≡ k
      found j b e = sym (rw e at (slot_found q.slots q.spare_of held.distinct j b))

  none_labelled : Turned 0 p.spares (unlabelled q)
  none_labelled =
      record {
        followed = λ k k' a a' h c. clash (lt-ltb k q.slots a) h;
        top = λ k a h. clash (lt-ltb k q.slots a) h;
        says = λ k a h. clash (lt-ltb k q.slots a) h;
        tree_own = λ t k a u b c. absurd (omega arith);
        spare_own = λ k a b. absurd (omega (arith, held.ranks k a));
      }

  module _ (ranked : Ranked p) where
    -- Of tree rank n and non-tree rank s the dearer one has its turn.
    from_ends :
        (turns n s : ℕ) (l : Marks) → n ≤ p.trees → s ≤ p.spares → n + turns ≡ p.trees + s → Turned n s l
        → Turned p.trees 0 (label_from p q turns n s l)
    unfolding label_from
    from_ends zero n s l a b e i =
        let g : n ≡ p.trees = omega arith in
        let r : s ≡ 0 = omega arith in
        rw (g, r) at i
    from_ends (suc turns) n zero l a b e i =
        from_ends turns (suc n) zero (label_tree p q n l) (omega arith) b (omega arith)
        (tree_turn n zero l (omega arith)
        record { trees = λ t h c. ranked.fall n t (omega arith) c; spares = λ x h. absurd (omega arith) }
        i)
    from_ends (suc turns) n (suc s) l a b e i =
        choose_both (Turned p.trees 0) _ _ _
        (λ h.
        let c : n < p.trees = ltb-true _ _ (and_first _ _ h) in
        from_ends turns (suc n) (suc s) (label_tree p q n l) c b (omega arith)
        (tree_turn n (suc s) l c
        record {
          trees = λ t g r. ranked.fall n t (omega arith) r;
          spares = λ x g. omega (arith, leb-true (p.spare_cost s) (p.tree_cost n) (and_second (ltb n p.trees) _ h), ranked.rise x s (omega arith) b);
        }
        i))
        (λ h.
        from_ends turns n s (label_slot p q s (spare_slot q s) l) a (omega arith) (omega arith)
        (spare_turn n s l
        record {
          trees = λ t g r.
              let dearer = leb-false (p.spare_cost s) (p.tree_cost n) (and_miss (ltb n p.trees) _ h (lt-ltb n p.trees (omega arith))) in
              omega (arith, dearer, ranked.fall n t g r);
          spares = λ x c. ranked.rise x s (omega arith) b;
        }
        i))

    pub marks_labelling : Turned p.trees 0 (slot_marks p q)
    marks_labelling =
        from_ends (p.trees + p.spares) 0 p.spares (unlabelled q) (omega arith) (omega arith) (omega arith) none_labelled
