-- One tree rank more keeps the invariant: the potentials are raised on what its exploration has visited, and it is matched
-- along an alternating path or stays unmatched. Assumes nothing.
use Rattle.std.specs.Prelude.{ℕ, suc, ◌+◌, ◌≤◌, ◌<◌, max, ◌≡◌, refl, ◌≢◌, ◌⊎◌, Bool, true, false, cond, not, ◌&&◌}
use Rattle.std.proofs.Math.Decide.{ℕ_discrete, dec_lt}
use Rattle.std.proofs.Common.{arith, sym, ◌∙◌, inl, inr, eq-eqb, eqb-true, ltb-true, ltb-false, lt-ltb}
use Rattle.std.proofs.Math.Dec.{eqb, ltb}
use Rattle.loops.specs.Loop.{put}
use Rattle.loops.specs.TestLaws.{truth, clash, and_first, and_second, and_both, and_miss, choose_both}
use Rattle.loops.specs.PutLaws.{put_same, put_other}
use Rattle.loops.specs.FirstLaws.{First, first_is, some_of}
use Rattle.optimum.specs.Search.{Problem, Mates, Slots, mates_below, mates_in, spare_slot, Search, never, begun, search}
use Rattle.optimum.specs.Search.{turn, Progress, cheapest_of, hit_of, goal_of, worth, turned, given_up, augment}
use Rattle.optimum.specs.Slackness.{Ranked, rank_weight}
use Rattle.optimum.proofs.SlotLaws.{Distinct, HeldSlots, held_more, slots_apart, slot_mate, mates_view, mates_none, mates_more, slot_found, slot_none}
use Rattle.optimum.proofs.SearchLaws.{AugmentingPath, stop, Closed, search_closed, Way, here, on, SoundSearch}
use Rattle.optimum.proofs.SearchLaws.{search_sound, root_seen, along, off_past, turn_along, way_path}
use Rattle.optimum.proofs.Matched.{mate, free, pair}
use Rattle.optimum.proofs.Invariant.{Pairs, pairs_valid, Done, path_turns}

-- Tree ranks below n are done. Each slot has a rank of its own; what failed explorations have visited is too dear for every
-- tree rank to come.
pub record Invariant (p : Problem) (n : ℕ) (pr : Progress) (d : ℕ → ℕ) : Type 0 where
  pub pairs : Pairs p n (mates_in pr.pairs) d
  pub weighs : pr.weight ≡ rank_weight p (mates_in pr.pairs)
  pub done : (t : ℕ) → t < n → Done p (mates_in pr.pairs) d t
  pub held : HeldSlots p pr.pairs
  pub high : (k t : ℕ) → k < pr.pairs.slots → pr.live k ≡ false → n ≤ t → t < p.trees → p.tree_cost t ≤ d (pr.pairs.spare_of k)

-- The potentials d, raised to v on a set.
abbrev raised : (ℕ → Bool) → ℕ → (ℕ → ℕ) → ℕ → ℕ
raised seen v d s = cond (seen s) (max (d s) v) (d s)

-- They do not fall, rise at most to v, and do so on the set.
record Raised (v old new : ℕ) (seen : Bool) : Type 0 where
  least : old ≤ new
  most : new ≤ max old v
  in_set : seen ≡ true → v ≤ new
  outside : seen ≡ false → new ≡ old

raised_is : (v old : ℕ) (b : Bool) → Raised v old (cond b (max old v) old) b
raised_is v old true = record { least = omega arith; most = omega arith; in_set = λ _. omega arith; outside = λ q. clash refl q }
raised_is v old false = record { least = omega arith; most = omega arith; in_set = λ q. clash q refl; outside = λ _. refl }

-- The non-tree rank has a slot that is not live.
abbrev gone : Slots → (ℕ → Bool) → ℕ → Bool
gone q live s = ltb (spare_slot q s) q.slots && not (live (spare_slot q s))

module _
    (p : Problem)
    (ranked : Ranked p)
    (t : ℕ)
    (l : t < p.trees)
    (pr : Progress)
    (d : ℕ → ℕ)
    (inv : Invariant p t pr d)
  where
    abbrev q : Slots
    q = pr.pairs

    abbrev mates : Mates
    mates = mates_in pr.pairs

    tree_below : (k : ℕ) → k < q.slots → q.tree_of k < t
    tree_below k a = inv.pairs.below (q.spare_of k) (q.tree_of k) (inv.held.ranks k a) (slot_mate p q inv.held k a)

    apart : Distinct q.slots q.tree_of
    apart = slots_apart p q inv.held (pairs_valid inv.pairs (omega arith))

    away : (k : ℕ) → k < q.slots → q.tree_of k ≢ t
    away k a e = omega (arith, tree_below k a)

    no_slot : (s : ℕ) → mates s ≡ 0 → (k : ℕ) → k < q.slots → q.spare_of k ≢ s
    no_slot s f k i e = omega (arith, f, rw e at (slot_mate p q inv.held k i))

    -- Tree rank x is t, or that of a slot that the exploration has visited.
    abbrev Found : Search → ℕ → Type 0
    Found st x = (x ≡ t) ⊎ ((k : ℕ) × (k < q.slots) × (pr.live k ≡ true) × (st.live k ≡ false) × (q.tree_of k ≡ x))

    -- An unmatched rank over such a tree rank costs at least v.
    abbrev Cheap : Search → ℕ → Type 0
    Cheap st v = (x s : ℕ) → s < p.spares → Found st x → p.covers x s ≡ true → mates s ≡ 0 → v ≤ p.spare_cost s

    -- The potentials are raised to v on the slots that an exploration has visited.
    module _
        (st : Search)
        (closed : Closed p q t (begun pr.live t) st)
        (v : ℕ)
        (low : v ≤ p.tree_cost t)
        (cheap : Cheap st v)
      where
        new : ℕ → ℕ
        new = raised (gone q st.live) v d

        raised_at : (s : ℕ) → Raised v (d s) (new s) (gone q st.live s)
        unfolding new
        raised_at s = raised_is v (d s) (gone q st.live s)

        gone_slot : (k : ℕ) → k < q.slots → gone q st.live (q.spare_of k) ≡ not (st.live k)
        gone_slot k a = rw (slot_found q.slots q.spare_of inv.held.distinct k a, lt-ltb k q.slots a)

        raised_seen : (k : ℕ) → k < q.slots → st.live k ≡ false → v ≤ new (q.spare_of k)
        raised_seen k a h = (raised_at (q.spare_of k)).in_set (rw (gone_slot k a, h))

        raised_free : (s : ℕ) → s < p.spares → mates s ≡ 0 → new s ≡ p.spare_cost s
        raised_free s k e = (raised_at s).outside (rw (slot_none q.slots q.spare_of s (no_slot s e))) ∙ inv.pairs.free s k e

        -- What covers a tree rank that has been found costs at least v.
        found_high : (x s : ℕ) → s < p.spares → Found st x → p.covers x s ≡ true → v ≤ new s
        found_high x s a f c = elim (mate mates s) [
          | free e ↦ omega (arith, cheap x s a f c e, raised_free s a e)
          | pair y e ↦ at_slot (mates_view q.slots q.spare_of q.tree_of s y e)
        ]
          where
            dead : (k : ℕ) → k < q.slots → p.covers x (q.spare_of k) ≡ true → Found st x → st.live k ≡ false
            dead k b h (inl e) = closed.tried k b (rw e at h)
            dead k b h (inr (j, i, a, g, e)) = closed.followed j k i b a g (rw e h)

            at_slot : {y : ℕ} → (k : ℕ) × (k < q.slots) × (q.spare_of k ≡ s) × (q.tree_of k ≡ y) → v ≤ new s
            at_slot (k, b, e, _) = rw e at (raised_seen k b (dead k b (rw e c) f))

        raised_feasible : (s s' x : ℕ) → s < p.spares → s' < p.spares → mates s ≡ suc x → p.covers x s' ≡ true → new s ≤ new s'
        raised_feasible s s' x a a' e c = at_slot (mates_view q.slots q.spare_of q.tree_of s x e)
          where
            lifted : (new s ≡ d s) ⊎ (v ≤ new s') → new s ≤ new s'
            lifted (inl h) = omega (arith, inv.pairs.feasible s s' x a a' e c, (raised_at s').least)
            lifted (inr h) = omega (arith, inv.pairs.feasible s s' x a a' e c, (raised_at s').least, (raised_at s).most)

            at_slot : (k : ℕ) × (k < q.slots) × (q.spare_of k ≡ s) × (q.tree_of k ≡ x) → new s ≤ new s'
            at_slot (k, b, r, g) = elim (truth (st.live k)) [
              | inl h ↦ lifted (inl ((raised_at s).outside (rw (← r, gone_slot k b, h))))
              | inr h ↦ elim (truth (pr.live k)) [
                | inl i ↦ lifted (inr (found_high x s' a' (inr (k, b, i, h, g)) c))
                | inr i ↦ lifted (inl (omega (arith, (raised_at s).least, (raised_at s).most, rw r at (inv.high k t b i (omega arith) l))))
              ]
            ]

        raised_pairs : Pairs p (suc t) mates new
        raised_pairs =
            record {
              below = λ s x k e. omega (arith, inv.pairs.below s x k e);
              covers = inv.pairs.covers;
              falls = inv.pairs.falls;
              once = inv.pairs.once;
              feasible = raised_feasible;
              above = λ s k. omega (arith, inv.pairs.above s k, (raised_at s).least);
              free = raised_free;
              under =
                  λ s x k e.
                  omega (arith, inv.pairs.under s x k e, (raised_at s).most, ranked.fall x t (omega (arith, inv.pairs.below s x k e)) l);
            }

        raised_done : (x : ℕ) → x < suc t → (x ≡ t) ⊎ Done p mates new x
        raised_done x k = elim (ℕ_discrete x t) [ yes e ↦ inl e | no e ↦ inr (stays (inv.done x (omega arith))) ]
          where
            stays : Done p mates d x → Done p mates new x
            stays (inl m) = inl m
            stays (inr f) = inr (λ s j c. omega (arith, f s j c, (raised_at s).least))

        -- What covers tree rank t has been raised.
        raised_covers : (s : ℕ) → s < p.spares → p.covers t s ≡ true → v ≤ new s
        raised_covers s k c = found_high t s k (inl refl) c

        -- Tree rank t keeps its cost.
        settled : v ≡ p.tree_cost t → (x : ℕ) → (x ≡ t) ⊎ Done p mates new x → Done p mates new x
        settled e x (inl h) = inr (rw (h, ← e) raised_covers)
        settled e x (inr h) = h

        still_high : (k x : ℕ) → k < q.slots → pr.live k ≡ false → suc t ≤ x → x < p.trees → p.tree_cost x ≤ new (q.spare_of k)
        still_high k x a h j b = omega (arith, inv.high k x a h (omega arith) b, (raised_at (q.spare_of k)).least)

        -- Nothing is matched and nothing is given up.
        stay_keeps : v ≡ p.tree_cost t → Invariant p (suc t) pr new
        stay_keeps e =
            record {
              pairs = raised_pairs;
              weighs = inv.weighs;
              done = λ x k. settled e x (raised_done x k);
              held = inv.held;
              high = still_high;
            }

        -- Nothing found gains: what has been visited is given up.
        fail_keeps : v ≡ p.tree_cost t → Invariant p (suc t) (given_up pr st) new
        fail_keeps e =
            record {
              pairs = raised_pairs;
              weighs = inv.weighs;
              done = λ x k. settled e x (raised_done x k);
              held = inv.held;
              high = λ k x a h j b. omega (arith, raised_seen k a h, ranked.fall t x (omega arith) b);
            }

        -- A way leads to the goal: tree rank t is matched.
        meet_keeps :
            (goal : ℕ) (way : Search) → goal < p.spares → v ≡ p.spare_cost goal → p.spare_cost goal < p.tree_cost t → mates goal ≡ 0
            → AugmentingPath p goal mates mates t (mates_in (turned p t pr goal way).pairs)
            → Invariant p (suc t) (turned p t pr goal way) new
        meet_keeps goal way k e c f π =
            record {
              pairs = flipped.0;
              weighs = omega (arith, inv.weighs, flipped.2);
              done = flipped.1;
              held = held_more p q inv.held goal _ k (no_slot goal f);
              high = λ a x i h j b. elim (ℕ_discrete a n) [
                | yes y ↦ clash (put_same pr.live n true) (rw y at h)
                | no y ↦ rw (put_other q.spare_of n goal a y) (still_high a x (omega arith) (sym (put_other pr.live n true a y) ∙ h) j b)
              ];
            }
          where
            n : ℕ
            n = q.slots

            flipped :
                let next : Mates = mates_in (turned p t pr goal way).pairs in
                Pairs p (suc t) next new × ((x : ℕ) → x < suc t → Done p next new x) ×
                (rank_weight p next + p.spare_cost goal ≡ rank_weight p mates + p.tree_cost t)
            flipped =
                path_turns p goal (suc t) mates new raised_feasible f
                (λ x j. omega (arith, ranked.fall x t (omega arith) l, raised_free goal k f))
                π
                raised_pairs
                (omega arith)
                (λ s j h. omega (arith, inv.pairs.below s t j h))
                (λ s j h. omega (arith, raised_covers s j h, raised_free goal k f))
                raised_done

    abbrev Keeps : Progress → Type 0
    Keeps next = (d' : ℕ → ℕ) × Invariant p (suc t) next d'

    cheapest : ℕ
    cheapest = cheapest_of p mates

    cheapest_first : First p.spares (λ s. eqb (mates s) 0) cheapest
    unfolding cheapest
    cheapest_first = first_is p.spares (λ s. eqb (mates s) 0)

    -- No other unmatched rank is cheaper.
    cheapest_least : (s : ℕ) → s < p.spares → mates s ≡ 0 → (cheapest < p.spares) × (p.spare_cost cheapest ≤ p.spare_cost s)
    cheapest_least s k e = elim (dec_lt s cheapest) [
      | yes j ↦ clash (eq-eqb (mates s) 0 e) (cheapest_first.before s j)
      | no j ↦ (omega arith, ranked.rise cheapest s (omega arith) k)
    ]

    -- For the proof alone: all that alternating paths from tree rank t lead to.
    all : Search
    all = search p q never pr.live t

    all_closed : Closed p q t (begun pr.live t) all
    unfolding all
    all_closed = search_closed p q never pr.live t

    -- It costs too much, or there is none.
    too_dear : (cheapest < p.spares → p.tree_cost t ≤ p.spare_cost cheapest) → Keeps pr
    too_dear h =
        let cheap : Cheap all (p.tree_cost t) = λ x s k f c e. omega (arith, (cheapest_least s k e).1, h (cheapest_least s k e).0) in (
          new all all_closed (p.tree_cost t) (omega arith) cheap,
          stay_keeps all all_closed (p.tree_cost t) (omega arith) cheap refl,
        )

    -- The exploration that ends under the cheapest.
    under : ℕ → Bool
    unfolding cheapest
    under x = p.covers x cheapest

    st : Search
    unfolding under
    st = search p q under pr.live t

    sound : SoundSearch p q under t pr.live st
    unfolding st under
    sound = search_sound p q under t pr.live apart away

    st_closed : Closed p q t (begun pr.live t) st
    unfolding st under
    st_closed = search_closed p q under pr.live t

    seen_root : st.seen t ≡ true
    unfolding st under
    seen_root = root_seen p q under t pr.live apart away

    goal : ℕ
    unfolding st
    goal = goal_of p mates st.seen

    goal_first : First p.spares (λ s. ltb (hit_of p st.seen s) p.trees && eqb (mates s) 0) goal
    unfolding goal st
    goal_first = first_is p.spares (λ s. ltb (hit_of p st.seen s) p.trees && eqb (mates s) 0)

    hit_first : (s : ℕ) → First p.trees (λ x. st.seen x && p.covers x s) (hit_of p st.seen s)
    unfolding st
    hit_first s = first_is p.trees (λ x. st.seen x && p.covers x s)

    way_below : {n x : ℕ} → Way p q t st n x → x < p.trees
    way_below here = l
    way_below (on r w) = omega (arith, r.own, tree_below (st.by _) r.below)

    -- No other unmatched rank over a tree rank visited is cheaper than the goal.
    goal_least : (x s : ℕ) → s < p.spares → st.seen x ≡ true → p.covers x s ≡ true → mates s ≡ 0 → (goal < p.spares) × (p.spare_cost goal ≤ p.spare_cost s)
    goal_least x s k h c e = elim (dec_lt s goal) [
      | yes j ↦
          clash
          (and_both _ _ (some_of p.trees (λ y. st.seen y && p.covers y s) x (way_below (sound.ways x h).1) (and_both _ _ h c)) (eq-eqb (mates s) 0 e))
          (goal_first.before s j)
      | no j ↦ (omega arith, ranked.rise goal s (omega arith) k)
    ]

    -- It is unmatched, and covers a tree rank visited.
    goal_hit : goal < p.spares → (mates goal ≡ 0) × (hit_of p st.seen goal < p.trees)
    goal_hit a = (
      eqb-true (mates goal) 0 (and_second (ltb (hit_of p st.seen goal) p.trees) _ (goal_first.hit a)),
      ltb-true _ p.trees (and_first _ _ (goal_first.hit a)),
    )

    -- The way back from there, turned.
    goal_path : goal < p.spares → AugmentingPath p goal mates mates t (mates_in (turned p t pr goal st).pairs)
    goal_path a =
        let x : ℕ = hit_of p st.seen goal in
        let (f, b) = goal_hit a in
        let (n, w, m) = sound.ways x (and_first (st.seen x) (p.covers x goal) ((hit_first goal).hit b)) in
        let g : (ℕ → ℕ) = along p q t st w q.tree_of in
        let off = off_past p q t st q.slots (omega arith) w in
        let turned-is : turn st t q.slots x q.slots q.tree_of ≡ put g q.slots x =
        turn_along p q t st q.slots q.slots w (omega arith) off q.tree_of in
        rw (turned-is, mates_more q.slots q.spare_of g goal x)
        (way_path p q t st goal inv.held w
        (stop a (and_second (st.seen x) (p.covers x goal) ((hit_first goal).hit b))
        (same g f)))
      where
        same : (g : ℕ → ℕ) → mates goal ≡ 0 → mates_below q.slots q.spare_of g goal ≡ mates goal
        same g f = mates_none q.slots q.spare_of g goal (no_slot goal f) ∙ sym f

    -- The exploration has ended under the cheapest, or has visited the tree rank of every slot that it has visited.
    cheap_seen :
        (s : ℕ) → s < p.spares → mates s ≡ 0 → (x : ℕ) → st.seen x ≡ true → under x ≡ true
        → (goal < p.spares) × (p.spare_cost goal ≤ p.spare_cost s)
    unfolding under cheapest
    cheap_seen s k e x h u =
        let (a, b) = cheapest_least s k e in
        let (c, i) = goal_least x cheapest a h u (eqb-true (mates cheapest) 0 (cheapest_first.hit a)) in
        (c, omega arith)

    found_seen : ((k : ℕ) → k < q.slots → pr.live k ≡ true → st.live k ≡ false → st.seen (q.tree_of k) ≡ true) → (x : ℕ) → Found st x → st.seen x ≡ true
    found_seen f x (inl e) = rw e seen_root
    found_seen f x (inr (k, a, b, c, e)) = rw e at (f k a b c)

    -- No unmatched rank over what has been found is cheaper than the goal.
    least : (x s : ℕ) → s < p.spares → Found st x → p.covers x s ≡ true → mates s ≡ 0 → (goal < p.spares) × (p.spare_cost goal ≤ p.spare_cost s)
    least x s k f c e = elim sound.visited [
      | inl (y, h, u) ↦ cheap_seen s k e y h u
      | inr g ↦ goal_least x s k (found_seen g x f) c e
    ]

    met_goal : goal < p.spares → p.spare_cost goal < p.tree_cost t → Keeps (turned p t pr goal st)
    met_goal a b = elim sound.visited [
      | inl (y, h, u) ↦
          let cheap : Cheap all (p.spare_cost goal) = λ x s k f c e. (cheap_seen s k e y h u).1 in (
            new all all_closed (p.spare_cost goal) (omega arith) cheap,
            meet_keeps all all_closed (p.spare_cost goal) (omega arith) cheap goal st a refl b (goal_hit a).0 (goal_path a),
          )
      | inr g ↦
          let cheap : Cheap st (p.spare_cost goal) = λ x s k f c e. (least x s k f c e).1 in (
            new st st_closed (p.spare_cost goal) (omega arith) cheap,
            meet_keeps st st_closed (p.spare_cost goal) (omega arith) cheap goal st a refl b (goal_hit a).0 (goal_path a),
          )
    ]

    failed : (goal < p.spares → p.tree_cost t ≤ p.spare_cost goal) → Keeps (given_up pr st)
    failed h =
        let cheap : Cheap st (p.tree_cost t) = λ x s k f c e. omega (arith, (least x s k f c e).1, h (least x s k f c e).0) in (
          new st st_closed (p.tree_cost t) (omega arith) cheap,
          fail_keeps st st_closed (p.tree_cost t) (omega arith) cheap refl,
        )

    worth_yes : (g : ℕ) → worth p t g ≡ true → (g < p.spares) × (p.spare_cost g < p.tree_cost t)
    worth_yes g h = (ltb-true _ _ (and_first _ _ h), ltb-true _ _ (and_second (ltb g p.spares) _ h))

    worth_no : (g : ℕ) → worth p t g ≡ false → g < p.spares → p.tree_cost t ≤ p.spare_cost g
    worth_no g h a = ltb-false _ _ (and_miss (ltb g p.spares) _ h (lt-ltb g p.spares a))

    pub augment_keeps : Keeps (augment p t pr)
    unfolding augment cheapest goal st under
    augment_keeps =
        choose_both Keeps _ _ _
        (λ _. choose_both Keeps _ _ _ (λ h. met_goal (worth_yes goal h).0 (worth_yes goal h).1) (λ h. failed (worth_no goal h)))
        (λ h. too_dear (worth_no cheapest h))
