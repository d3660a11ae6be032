-- What an exploration does: it visits a closed set of slots, and from each tree rank visited a way leads back to its root,
-- along which slots can be turned. Assumes nothing.
use Prim.Native.Nat.{ℕ, zero, suc, ◌+◌, ◌≤◌, ◌<◌}
use Rattle.std.proofs.Math.Decide.{ℕ_discrete}
use native.Mathlib.Omega.{arith}
use Rattle.std.proofs.Math.Path.{◌≡◌, refl, sym, ap}
use Rattle.std.proofs.Common.{◌∙◌}
use Rattle.std.specs.Prelude.{◌≢◌, ◌⊎◌, Bool, true, ◌&&◌}
use Rattle.std.proofs.Math.Logic.{inl, inr}
use Rattle.std.proofs.Math.Bool.{false}
use borrow.Author.Tests.{lt-ltb, le-ltb, eq-eqb, ne_eqb}
use Rattle.loops.specs.Loop.{put}
use Rattle.loops.specs.TestLaws.{truth, clash, and_first, and_second, and_miss, choose_both}
use Rattle.loops.specs.PutLaws.{put_same, put_other, put_kept, put_split, put_less, put_swap}
use Rattle.loops.specs.FirstLaws.{last_is}
use Rattle.graph.specs.Graph.{count}
use Rattle.graph.specs.CountLaws.{count_put, count_below, count_within, count_none}
use Rattle.optimum.specs.Search.{Problem, Mates, Slots, mates_below, mates_in, Search, reach, halt, enter, next_slot, try_tree, begun, search, turn}
use Rattle.optimum.proofs.SlotLaws.{Distinct, HeldSlots, mates_at, mates_put}

-- An alternating path from tree rank t to the goal, in the matching m, which it turns into m'; base is the matching at
-- the start of the search.
pub data AugmentingPath (p : Problem) (goal : ℕ) (base : Mates) : Mates → ℕ → Mates → Type 0 where
  stop : {m : Mates} {t : ℕ} → goal < p.spares → p.covers t goal ≡ true → m goal ≡ base goal → AugmentingPath p goal base m t (put m goal (suc t))
  via :
      {m m' : Mates} {t s t' : ℕ} → s < p.spares → p.covers t s ≡ true → base s ≡ suc t' → m s ≡ suc t'
      → AugmentingPath p goal base (put m s (suc t)) t' m' → AugmentingPath p goal base m t m'

-- From st an exploration came to st': no slot over tree rank t is live any more, nor one over the tree rank of a slot that
-- it has visited.
pub record Closed (p : Problem) (q : Slots) (t : ℕ) (st st' : Search) : Type 0 where
  pub falls : (k : ℕ) → st'.live k ≡ true → st.live k ≡ true
  pub tried : (k : ℕ) → k < q.slots → p.covers t (q.spare_of k) ≡ true → st'.live k ≡ false
  pub followed :
      (k k' : ℕ) → k < q.slots → k' < q.slots → st.live k ≡ true → st'.live k ≡ false → p.covers (q.tree_of k) (q.spare_of k') ≡ true
      → st'.live k' ≡ false

-- A slot that was not live is not live later.
pub unlive : (S U : ℕ → Bool) (k : ℕ) → ((j : ℕ) → U j ≡ true → S j ≡ true) → S k ≡ false → U k ≡ false
unlive S U k f h = elim (truth (U k)) [ inl e ↦ clash (f k e) h | inr e ↦ e ]

module _ (p : Problem) (q : Slots) (ends : ℕ → Bool) where
  -- What is tried next is a live slot; if there is none, none that covers t is live.
  next_is :
      (t : ℕ) (st : Search)
      → ((next_slot p q t st < q.slots) × (p.covers t (q.spare_of (next_slot p q t st)) ≡ true) × (st.live (next_slot p q t st) ≡ true))
      ⊎ ((next_slot p q t st ≡ q.slots) × ((k : ℕ) → k < q.slots → p.covers t (q.spare_of k) ≡ true → st.live k ≡ false))
  next_is t st = elim (last_is q.slots (λ k. p.covers t (q.spare_of k) && st.live k) q.slots) [
    | inl h ↦ inl (h.within, and_first _ _ h.hit, and_second (p.covers t (q.spare_of (next_slot p q t st))) _ h.hit)
    | inr h ↦ inr (h.0, λ k l c. and_miss (p.covers t (q.spare_of k)) (st.live k) (h.1 k l) c)
  ]

  enter_closed : (visit : ℕ → Search → Search) (u : ℕ) (st : Search) → Closed p q u st (visit u st) → Closed p q u st (enter ends visit u st)
  enter_closed visit u st c =
      choose_both (Closed p q u st) (ends u) _ _
      (λ _. record { falls = λ k h. clash h refl; tried = λ k l h. refl; followed = λ k k' l l' a b h. refl })
      (λ _. c)

  -- Tree rank t has tried slot k, and then the others.
  closed_both : (t k : ℕ) (st next st' : Search) → Closed p q (q.tree_of k) (reach t k (q.tree_of k) st) next → Closed p q t next st' → Closed p q t st st'
  closed_both t k st next st' a b =
      record {
        falls = λ j h. (put_less st.live k j (a.falls j (b.falls j h))).1;
        tried = b.tried;
        followed = λ j j' l l' h e c. elim (ℕ_discrete j k) [
          | yes r ↦ unlive next.live st'.live j' b.falls (a.tried j' l' (rw r at c))
          | no r ↦ elim (truth (next.live j)) [
            | inl v ↦ b.followed j j' l l' v e c
            | inr v ↦ unlive next.live st'.live j' b.falls (a.followed j j' l l' (put_other st.live k false j r ∙ h) v c)
          ]
        ];
      }

  pub tree_closed : (turns t : ℕ) (st : Search) → count q.slots st.live ≤ turns → Closed p q t st (try_tree p q ends turns t st)
  unfolding try_tree
  tree_closed zero t st m =
      record {
        falls = λ k h. h;
        tried = λ k l c. dead k l;
        followed = λ k k' l l' h e c. clash h e;
      }
    where
      dead : (k : ℕ) → k < q.slots → st.live k ≡ false
      dead k l = elim (truth (st.live k)) [
        | inl e ↦ absurd (omega (arith, rw e at (count_put q.slots st.live k false l)))
        | inr e ↦ e
      ]
  tree_closed (suc turns) t st m = elim (next_is t st) [
    | inr n ↦
        rw (n.0, le-ltb q.slots q.slots (omega arith))
        (record { falls = λ k h. h; tried = n.1; followed = λ k k' l l' h e c. clash h e })
    | inl (l, c, v) ↦
        let k : ℕ = next_slot p q t st in
        let u : ℕ = q.tree_of k in
        let next : Search = enter ends (try_tree p q ends turns) u (reach t k u st) in
        let less : count q.slots (put st.live k false) ≤ turns = omega (arith, rw v at (count_put q.slots st.live k false l)) in
        let first : Closed p q u (reach t k u st) next =
        enter_closed (try_tree p q ends turns) u (reach t k u st) (tree_closed turns u (reach t k u st) less) in
        let within = count_within q.slots next.live (put st.live k false) (λ j _. first.falls j) in
        let fewer : count q.slots next.live ≤ turns = omega arith in
        rw (lt-ltb k q.slots l) (closed_both t k st next (try_tree p q ends turns t next) first (tree_closed turns t next fewer))
  ]

  pub search_closed : (live : ℕ → Bool) (t : ℕ) → Closed p q t (begun live t) (search p q ends live t)
  search_closed live t = enter_closed (try_tree p q ends q.slots) t (begun live t) (tree_closed q.slots t (begun live t) (count_below q.slots live))

  -- What every step keeps, an exploration keeps.
  abbrev Stepwise : (Search → Type 0) → Type 0
  Stepwise Kept =
      (t k : ℕ) (st : Search) → k < q.slots → p.covers t (q.spare_of k) ≡ true → st.live k ≡ true → st.seen t ≡ true → Kept st
      → Kept (reach t k (q.tree_of k) st)

  module _
      (Kept : Search → Type 0)
      (step : Stepwise Kept)
      (stops : (u : ℕ) (st : Search) → ends u ≡ true → st.seen u ≡ true → Kept st → Kept (halt st))
    where
      abbrev Keeps : Search → Search → Type 0
      Keeps st st' = Kept st' × ((x : ℕ) → st.seen x ≡ true → st'.seen x ≡ true)

      enter_keeps :
          (visit : ℕ → Search → Search) → ((t : ℕ) (st : Search) → st.seen t ≡ true → Kept st → Keeps st (visit t st))
          → (u : ℕ) (st : Search) → st.seen u ≡ true → Kept st → Keeps st (enter ends visit u st)
      enter_keeps visit f u st h i =
          choose_both (Keeps st) (ends u) _ _ (λ e. (stops u st e h i, λ x y. y)) (λ _. f u st h i)

      tree_keeps : (turns t : ℕ) (st : Search) → st.seen t ≡ true → Kept st → Keeps st (try_tree p q ends turns t st)
      unfolding try_tree
      tree_keeps zero t st h i = (i, λ x y. y)
      tree_keeps (suc turns) t st h i = elim (next_is t st) [
        | inr n ↦ rw (n.0, le-ltb q.slots q.slots (omega arith)) (i, λ x y. y)
        | inl (l, c, v) ↦
            let k : ℕ = next_slot p q t st in
            let u : ℕ = q.tree_of k in
            let first = enter_keeps (try_tree p q ends turns) (tree_keeps turns) u (reach t k u st) (put_same st.seen u true) (step t k st l c v h i) in
            let next : Search = enter ends (try_tree p q ends turns) u (reach t k u st) in
            let rest = tree_keeps turns t next (first.1 t (put_kept st.seen u t h)) first.0 in
            rw (lt-ltb k q.slots l) (rest.0, λ x y. rest.1 x (first.1 x (put_kept st.seen u x y)))
      ]

      pub search_keeps : (live : ℕ → Bool) (t : ℕ) → Kept (begun live t) → Keeps (begun live t) (search p q ends live t)
      search_keeps live t i = enter_keeps _ (tree_keeps _) t (begun live t) (put_same (λ _. false) t true) i

-- Tree rank x was reached from another, by a slot of its own over that one.
pub record ReachedBy (p : Problem) (q : Slots) (root : ℕ) (st : Search) (x : ℕ) : Type 0 where
  pub away : x ≢ root
  pub seen : st.seen x ≡ true
  pub below : st.by x < q.slots
  pub covers : p.covers (st.from x) (q.spare_of (st.by x)) ≡ true
  pub own : q.tree_of (st.by x) ≡ x

-- The way from tree rank x back to the root, with its length.
pub data Way (p : Problem) (q : Slots) (root : ℕ) (st : Search) : ℕ → ℕ → Type 0 where
  here : Way p q root st 0 root
  on : {n x : ℕ} → ReachedBy p q root st x → Way p q root st n (st.from x) → Way p q root st (suc n) x

-- What an exploration from the root keeps: a way back from every tree rank visited, no longer than the slots visited; and
-- the tree rank of every slot visited has been visited, unless the exploration has ended.
pub record SoundSearch (p : Problem) (q : Slots) (ends : ℕ → Bool) (root : ℕ) (start : ℕ → Bool) (st : Search) : Type 0 where
  pub fresh : (k : ℕ) → k < q.slots → st.live k ≡ true → st.seen (q.tree_of k) ≡ false
  pub ways : (x : ℕ) → st.seen x ≡ true → (n : ℕ) × Way p q root st n x × (n + count q.slots st.live ≤ q.slots)
  pub visited :
      ((x : ℕ) × (st.seen x ≡ true) × (ends x ≡ true)) ⊎ ((k : ℕ) → k < q.slots → start k ≡ true → st.live k ≡ false → st.seen (q.tree_of k) ≡ true)

module _
    (p : Problem)
    (q : Slots)
    (ends : ℕ → Bool)
    (root : ℕ)
    (start : ℕ → Bool)
    (apart : Distinct q.slots q.tree_of)
    (away : (k : ℕ) → k < q.slots → q.tree_of k ≢ root)
  where
    way_kept :
        (st st' : Search) → ((x : ℕ) → st.seen x ≡ true → (st'.seen x ≡ true) × (st'.from x ≡ st.from x) × (st'.by x ≡ st.by x))
        → {n x : ℕ} → Way p q root st n x → Way p q root st' n x
    way_kept st st' f here = here
    way_kept st st' f (on {n = n} {x = x} r w) =
        let (a, b, c) = f x r.seen in
        on {n = n}
        (record { away = r.away; seen = a; below = rw c r.below; covers = rw (b, c) r.covers; own = rw c r.own })
        (rw b (way_kept st st' f w))

    step_sound :
        (t k : ℕ) (st : Search) → k < q.slots → p.covers t (q.spare_of k) ≡ true → st.live k ≡ true → st.seen t ≡ true
        → SoundSearch p q ends root start st → SoundSearch p q ends root start (reach t k (q.tree_of k) st)
    step_sound t k st l c v h i =
        record {
          fresh = λ j m e.
              let (d, e') = put_less st.live k j e in
              put_other st.seen (q.tree_of k) true (q.tree_of j) (λ r. d (apart j k m l r)) ∙ i.fresh j m e';
          ways = λ x e. elim (ℕ_discrete x (q.tree_of k)) [
            | yes r ↦
                let (n, w, b) = i.ways t h in
                rw r (suc n, on {n = n} new_reached (rw (put_same st.from (q.tree_of k) t) (stays w)), omega (arith, b, less))
            | no r ↦
                let (n, w, b) = i.ways x (sym (put_other st.seen (q.tree_of k) true x r) ∙ e) in
                (n, stays w, omega (arith, less))
          ];
          visited = elim i.visited [
            | inl (x, a, b) ↦ inl (x, put_kept st.seen (q.tree_of k) x a, b)
            | inr f ↦ inr (λ j m a e. elim (ℕ_discrete j k) [
              | yes r ↦ rw r (put_same st.seen (q.tree_of k) true)
              | no r ↦ put_kept st.seen (q.tree_of k) (q.tree_of j) (f j m a (sym (put_other st.live k false j r) ∙ e))
            ])
          ];
        }
      where
        unseen : st.seen (q.tree_of k) ≡ false
        unseen = i.fresh k l v

        less : suc (count q.slots (put st.live k false)) ≡ count q.slots st.live
        less = omega (arith, rw v at (count_put q.slots st.live k false l))

        old :
            (x : ℕ) → st.seen x ≡ true
            → (put st.seen (q.tree_of k) true x ≡ true) × (put st.from (q.tree_of k) t x ≡ st.from x) × (put st.by (q.tree_of k) k x ≡ st.by x)
        old x a =
            let d : x ≢ (q.tree_of k) = λ e. clash (rw e at a) unseen in
            (put_kept st.seen (q.tree_of k) x a, put_other st.from (q.tree_of k) t x d, put_other st.by (q.tree_of k) k x d)

        stays : {n x : ℕ} → Way p q root st n x → Way p q root (reach t k (q.tree_of k) st) n x
        stays w = way_kept st (reach t k (q.tree_of k) st) old w

        new_reached : ReachedBy p q root (reach t k (q.tree_of k) st) (q.tree_of k)
        new_reached =
            record {
              away = away k l;
              seen = put_same st.seen (q.tree_of k) true;
              below = rw (put_same st.by (q.tree_of k) k) l;
              covers = rw (put_same st.by (q.tree_of k) k, put_same st.from (q.tree_of k) t) c;
              own = rw (put_same st.by (q.tree_of k) k);
            }

    halt_sound : (u : ℕ) (st : Search) → ends u ≡ true → st.seen u ≡ true → SoundSearch p q ends root start st → SoundSearch p q ends root start (halt st)
    halt_sound u st e h i =
        record {
          fresh = λ k l v. clash v refl;
          ways = λ x a.
              let (n, w, b) = i.ways x a in
              (n, way_kept st (halt st) (λ y c. (c, refl, refl)) w, omega (arith, count_none q.slots (λ _. false) (λ k _. refl)));
          visited = inl (u, h, e);
        }

    begun_sound : SoundSearch p q ends root start (begun start root)
    begun_sound =
        record {
          fresh = λ k l v. put_other (λ _. false) root true (q.tree_of k) (away k l);
          ways = λ x h. elim (put_split (λ _. false) root x h) [
            | inl e ↦ rw e (0, here, omega (arith, count_below q.slots start))
            | inr e ↦ clash e refl
          ];
          visited = inr (λ k l a b. clash a b);
        }

    pub search_sound : SoundSearch p q ends root start (search p q ends start root)
    search_sound = (search_keeps p q ends (SoundSearch p q ends root start) step_sound halt_sound start root begun_sound).0

    pub root_seen : (search p q ends start root).seen root ≡ true
    root_seen = (search_keeps p q ends (SoundSearch p q ends root start) step_sound halt_sound start root begun_sound).1 root (put_same (λ _. false) root true)

-- Turning along a way.
module _ (p : Problem) (q : Slots) (root : ℕ) (st : Search) where
  abbrev pub Back : ℕ → ℕ → Type 0
  Back = Way p q root st

  -- Each slot of the way is handed to the tree rank before.
  unfoldable pub along : {n x : ℕ} → Back n x → (ℕ → ℕ) → ℕ → ℕ
  along here f = f
  along (on {x = x} r w) f = put (along w f) (st.by x) (st.from x)

  -- Slot k is none of them.
  unfoldable pub Off : (k : ℕ) {n x : ℕ} → Back n x → Type 0
  Off k here = Unit {0}
  Off k (on {x = x} r w) = (k ≢ st.by x) × Off k w

  ways_alike : {n m x y : ℕ} → Back n x → Back m y → x ≡ y → n ≡ m
  ways_alike here here e = refl
  ways_alike here (on r w) e = absurd (r.away (sym e))
  ways_alike (on r w) here e = absurd (r.away e)
  ways_alike (on r w) (on r' w') e = ap suc (ways_alike w w' (ap st.from e))

  way_length : {n m x : ℕ} → Back n x → Back m x → n ≡ m
  way_length w w' = ways_alike w w' refl

  -- The slot of a tree rank is none of those before it, nor is one that there is not.
  off_own : {m n x y : ℕ} → Back m y → ReachedBy p q root st x → Back n x → m < n → (w : Back m y) → Off (st.by x) w
  unfolding Off
  off_own z r w l here = tt
  off_own z r w l (on {x = y} r' w') = (
    λ e. let same : ◌≡◌ {A = ℕ} _ _ = sym r.own ∙ ap q.tree_of e ∙ r'.own in absurd (omega (arith, way_length (rw same at w) (on r' w'))),
    off_own w' r w (omega arith) w',
  )

  pub off_past : {n x : ℕ} (k : ℕ) → q.slots ≤ k → (w : Back n x) → Off k w
  unfolding Off
  off_past k l here = tt
  off_past k l (on r w) = (λ e. omega (arith, r.below), off_past k l w)

  along_off : {n x : ℕ} (k : ℕ) (w : Back n x) → Off k w → (f : ℕ → ℕ) → along w f k ≡ f k
  unfolding along Off
  along_off k here o f = refl
  along_off k (on {x = x} r w) o f = put_other (along w f) (st.by x) (st.from x) k o.0 ∙ along_off k w o.1 f

  along_put : {n x : ℕ} (k y : ℕ) (w : Back n x) → Off k w → (f : ℕ → ℕ) → along w (put f k y) ≡ put (along w f) k y
  unfolding along Off
  along_put k y here o f = refl
  along_put k y (on {x = x} r w) o f =
      rw (along_put k y w o.1 f) (put_swap (along w f) k (st.by x) y (st.from x) o.0)

  -- The loop that turns the way, last slot first, does just that.
  pub turn_along : (turns : ℕ) {n x : ℕ} (k : ℕ) (w : Back n x) → n ≤ turns → Off k w → (f : ℕ → ℕ) → turn st root turns x k f ≡ put (along w f) k x
  unfolding turn along Off
  turn_along zero k here l o f = refl
  turn_along (suc turns) k here l o f = rw (eq-eqb root root refl)
  turn_along zero k (on r w) l o f = absurd (omega arith)
  turn_along (suc turns) k (on {x = x} r w) l o f =
      rw (ne_eqb x root r.away, turn_along turns (st.by x) w (omega arith) (off_own w r (on r w) (omega arith) w) (put f k x), along_put k x w o.1 f)
      (put_swap (along w f) k (st.by x) x (st.from x) o.0)

  -- A way to a tree rank, and an alternating path on from it.
  module _ (goal : ℕ) (held : HeldSlots p q) where
    abbrev pub turned_mates : {n x : ℕ} → Back n x → Mates
    turned_mates w = mates_below q.slots q.spare_of (along w q.tree_of)

    pub way_path :
        {n x : ℕ} (w : Back n x) {m' : Mates} → AugmentingPath p goal (mates_in q) (turned_mates w) x m'
        → AugmentingPath p goal (mates_in q) (mates_in q) root m'
    unfolding along
    way_path here π = π
    way_path (on {x = x} r w) π =
        let k : ℕ = st.by x in
        way_path w
        (via (held.ranks k r.below) r.covers
        (rw r.own at (mates_at q.slots q.spare_of q.tree_of held.distinct k r.below))
        (rw (along_off k w (off_own w r (on r w) (omega arith) w) q.tree_of, r.own)
        at (mates_at q.slots q.spare_of (along w q.tree_of) held.distinct k r.below))
        (rw (mates_put q.slots q.spare_of (along w q.tree_of) held.distinct k (st.from x) r.below) at π))
