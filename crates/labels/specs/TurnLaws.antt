-- The model's turns: which origin is next, which turns change nothing, and that nothing changes once every slot has a label.
-- Assumes nothing.
use Prim.Native.Nat.{ℕ, zero, suc, ◌+◌, ◌-◌, ◌≤◌, ◌<◌}
use native.Mathlib.Omega.{arith}
use Rattle.std.specs.Prelude.{◌≡◌, Bool, true, false, cond, not, ◌&&◌, leb, ltb}
use Rattle.std.proofs.Math.Path.{refl, fun_ext}
use Rattle.std.proofs.Common.{sym, ap, ◌∙◌, inl, inr, lt-ltb, ltb-true, leb-true, leb-false}
use Rattle.std.proofs.Math.Bool.{and-false}
use Rattle.loops.specs.Loop.{put}
use Rattle.loops.specs.TestLaws.{truth, clash, and_first, and_miss}
use Rattle.optimum.specs.Search.{Problem, Slots, tree_slot, spare_slot, never, search}
use Rattle.optimum.proofs.SearchLaws.{search_closed, unlive}
use Rattle.optimum.specs.Lowest.{Marks, marked, label_tree, label_slot, label_from}

module _ (p : Problem) (q : Slots) where
  -- Tree rank t is the next origin, and not spare rank s.
  abbrev pub tree_next : ℕ → ℕ → Bool
  tree_next t s = ltb t p.trees && leb (p.spare_cost s) (p.tree_cost t)

  pub from_end : (t s : ℕ) (l : Marks) → label_from p q 0 t s l ≡ l
  unfolding label_from
  from_end t s l = refl

  pub from_tree :
      (turns t s : ℕ) (l : Marks) → (0 < s → tree_next t (s - 1) ≡ true)
      → label_from p q (suc turns) t s l ≡ label_from p q turns (suc t) s (label_tree p q t l)
  unfolding label_from
  from_tree turns t zero l h = refl
  from_tree turns t (suc s) l h = let e : suc s - 1 ≡ s = omega arith in rw (rw e at (h (omega arith)))

  pub from_spare :
      (turns t s : ℕ) (l : Marks) → tree_next t s ≡ false
      → label_from p q (suc turns) t (suc s) l ≡ label_from p q turns t s (label_slot p q s (spare_slot q s) l)
  unfolding label_from
  from_spare turns t s l h = rw h

  -- A tree rank in a pair is no origin; one in no pair is.
  pub tree_paired : (t : ℕ) (l : Marks) → ltb (tree_slot q t) q.slots ≡ true → label_tree p q t l ≡ l
  unfolding label_tree
  tree_paired t l h = rw h

  pub tree_free :
      (t : ℕ) (l : Marks) → ltb (tree_slot q t) q.slots ≡ false
      → label_tree p q t l ≡ marked (p.tree_cost t) (search p q never l.live t) l
  unfolding label_tree
  tree_free t l h = rw h

  -- Its turn is passed over: it falls behind the spare ranks that come before it, for they come before the next one too.
  pub pass_one :
      ((t t' : ℕ) → t ≤ t' → t' < p.trees → p.tree_cost t' ≤ p.tree_cost t)
      → (t : ℕ) → t < p.trees → ltb (tree_slot q t) q.slots ≡ true → (s n : ℕ) (l : Marks) → s ≤ n
      → label_from p q (suc n) t s l ≡ label_from p q n (suc t) s l
  pass_one fall t b h zero n l m = from_tree n t 0 l (λ k. absurd (omega arith))
      ∙ ap (label_from p q n (suc t) 0) (tree_paired t l h)
  pass_one fall t b h (suc s) zero l m = absurd (omega arith)
  pass_one fall t b h (suc s) (suc n) l m = elim (truth (tree_next t s)) [
    | inl e ↦
        let one : suc s - 1 ≡ s = omega arith in
        from_tree (suc n) t (suc s) l (λ _. rw one e) ∙ ap (label_from p q (suc n) (suc t) (suc s)) (tree_paired t l h)
    | inr e ↦
        from_spare (suc n) t s l e
        ∙ pass_one fall t b h s n (label_slot p q s (spare_slot q s) l) (omega arith)
        ∙ sym (from_spare n (suc t) s l (later e))
  ]
    where
      later : tree_next t s ≡ false → tree_next (suc t) s ≡ false
      later e = elim (truth (tree_next (suc t) s)) [
        | inr f ↦ f
        | inl f ↦
            let there : suc t < p.trees = ltb-true (suc t) p.trees (and_first _ _ f) in
            let dear : p.tree_cost t < p.spare_cost s = leb-false (p.spare_cost s) (p.tree_cost t)
            (and_miss (ltb t p.trees) _ e (lt-ltb t p.trees b)) in
            absurd (omega (arith, fall t (suc t) (omega arith) there, leb-true (p.spare_cost s) (p.tree_cost (suc t)) (second f)))
      ]
        where
          second : tree_next (suc t) s ≡ true → leb (p.spare_cost s) (p.tree_cost (suc t)) ≡ true
          second f = elim (truth (leb (p.spare_cost s) (p.tree_cost (suc t))))
              [ inl g ↦ g | inr g ↦ clash f (rw g (and-false (ltb (suc t) p.trees))) ]

  -- So are the turns of all up to one in no pair.
  pub pass_all :
      ((t t' : ℕ) → t ≤ t' → t' < p.trees → p.tree_cost t' ≤ p.tree_cost t)
      → (t d s : ℕ) (l : Marks) → t + d ≤ p.trees → ((u : ℕ) → t ≤ u → u < t + d → ltb (tree_slot q u) q.slots ≡ true)
      → label_from p q ((p.trees - t) + s) t s l ≡ label_from p q ((p.trees - (t + d)) + s) (t + d) s l
  pass_all fall t zero s l b h = let e : t + 0 ≡ t = omega arith in rw e
  pass_all fall t (suc d) s l b h =
      let more : (p.trees - (t + d)) + s ≡ suc ((p.trees - (t + suc d)) + s) = omega arith in
      let on : t + suc d ≡ suc (t + d) = omega arith in
      pass_all fall t d s l (omega arith) (λ u a c. h u a (omega arith))
      ∙ ap (λ (n : ℕ). label_from p q n (t + d) s l) more
      ∙ pass_one fall (t + d) (omega arith) (h (t + d) (omega arith) (omega arith)) s ((p.trees - (t + suc d)) + s) l
      (omega arith)
      ∙ ap (λ (u : ℕ). label_from p q ((p.trees - (t + suc d)) + s) u s l) (sym on)

  -- The slot of a spare rank, without a label yet, is an origin; a spare rank without one is not.
  pub slot_origin :
      (s k : ℕ) (l : Marks) → k < q.slots → l.live k ≡ true
      → label_slot p q s k l ≡ marked (p.spare_cost s) (search p q never (put l.live k false) (q.tree_of k)) l
  unfolding label_slot
  slot_origin s k l b h = rw (lt-ltb k q.slots b, h)

  pub slot_idle : (s k : ℕ) (l : Marks) → (ltb k q.slots && l.live k) ≡ false → label_slot p q s k l ≡ l
  unfolding label_slot
  slot_idle s k l h = rw h

  -- Once every slot has a label, nothing changes.
  module _ (l : Marks) (none : (k : ℕ) → l.live k ≡ false) where
    marked_none : (x : ℕ) (live : ℕ → Bool) (t : ℕ) → ((k : ℕ) → live k ≡ false) → marked x (search p q never live t) l ≡ l
    marked_none x live t dead =
        let gone : (search p q never live t).live ≡ l.live = fun_ext
        (λ k. unlive live _ k (search_closed p q never live t).falls (dead k) ∙ sym (none k)) in
        let same : (λ k. cond (l.live k && not ((search p q never live t).live k)) x (l.label k))
        ≡ l.label = fun_ext (λ k. rw (none k)) in
        λ i. record { live = gone i; label = same i }

    tree_none : (t : ℕ) → label_tree p q t l ≡ l
    tree_none t = elim (truth (ltb (tree_slot q t) q.slots)) [
      | inl h ↦ tree_paired t l h
      | inr h ↦ tree_free t l h ∙ marked_none (p.tree_cost t) l.live t none
    ]

    slot_none : (s k : ℕ) → label_slot p q s k l ≡ l
    slot_none s k = slot_idle s k l (rw (none k) (and-false (ltb k q.slots)))

    pub from_none : (turns t s : ℕ) → label_from p q turns t s l ≡ l
    from_none zero t s = from_end t s l
    from_none (suc turns) t zero =
        from_tree turns t 0 l (λ k. absurd (omega arith)) ∙ ap (label_from p q turns (suc t) 0) (tree_none t)
        ∙ from_none turns (suc t) 0
    from_none (suc turns) t (suc s) = elim (truth (tree_next t s)) [
      | inl e ↦
          let one : suc s - 1 ≡ s = omega arith in
          from_tree turns t (suc s) l (λ _. rw one e) ∙ ap (label_from p q turns (suc t) (suc s)) (tree_none t)
          ∙ from_none turns (suc t) (suc s)
      | inr e ↦
          from_spare turns t s l e ∙ ap (label_from p q turns t s) (slot_none s (spare_slot q s)) ∙ from_none turns t s
    ]
