-- The law for callers: an exploration over the arrays is the model's `search` over the problem and the pairs that they hold,
-- whatever ways back earlier explorations have left in them. Assumes nothing.
use Prim.Native.Nat.{ℕ, zero, suc, ◌≤◌, ◌<◌}
use Rattle.std.proofs.Math.Decide.{ℕ_discrete}
use Rattle.std.proofs.Common.{arith, sym, ap, ◌∙◌, inl, inr, lt-ltb, eq-eqb, ne_eqb}
use Rattle.std.specs.Prelude.{◌≡◌, ◌≢◌, Bool, true, false, ◌&&◌, List, get_or}
use Rattle.std.proofs.Math.Path.{refl}
use Rattle.loops.specs.Loop.{put}
use Rattle.loops.specs.TestLaws.{truth, clash, and_second}
use Rattle.loops.specs.PutLaws.{put_same, put_other, put_kept, put_split, put_less}
use Rattle.loops.specs.FirstLaws.{Last, last_is, last_found, last_none}
use Rattle.bits.specs.Bit.{bit}
use Rattle.bits.specs.BitLaws.{bit_zero}
use Rattle.graph.specs.Graph.{count}
use Rattle.graph.specs.CountLaws.{count_below}
use Rattle.optimum.specs.Search.{Problem, Slots, Search, reach, halt, enter, never, next_slot, try_tree, begun, search, turn}
use Rattle.search.specs.Board.{first_part, board_of, slots_of, state_of, board_tree, board_begun, Explored}
use Rattle.search.specs.TreeSteps.{turn_none, turn_some}

-- The arrays hold the problem's relation over the slots, and the slots' tree ranks.
pub record Fits (p : Problem) (q : Slots) (words links : List ℕ) : Type 0 where
  pub few : q.slots ≤ 64
  pub ranks : p.trees ≤ 64
  pub covered : (t k : ℕ) → t < p.trees → k < q.slots → p.covers t (q.spare_of k) ≡ bit (get_or words t 0) k
  pub own : (k : ℕ) → k < q.slots → q.tree_of k ≡ get_or links k 0
  pub below : (k : ℕ) → k < q.slots → q.tree_of k < p.trees

-- Two states of an exploration from the root that go on alike: the ways back are the same where they are asked for, and lead
-- from a tree rank seen to a tree rank seen.
record Alike (n root : ℕ) (a b : Search) : Type 0 where
  live : a.live ≡ b.live
  seen : a.seen ≡ b.seen
  from : (x : ℕ) → b.seen x ≡ true → x ≢ root → a.from x ≡ b.from x
  by : (x : ℕ) → b.seen x ≡ true → x ≢ root → a.by x ≡ b.by x
  back : (x : ℕ) → b.seen x ≡ true → x ≢ root → b.seen (b.from x) ≡ true
  low : (k : ℕ) → b.live k ≡ true → k < n

-- A set of numbers below n has at most n.
count_low : (m n : ℕ) (S : ℕ → Bool) → ((i : ℕ) → S i ≡ true → i < n) → count m S ≤ n
unfolding count
count_low zero n S h = omega arith
count_low (suc m) n S h = elim (truth (S m)) [
  | inl e ↦ rw e (omega (arith, h m e, count_below m S))
  | inr e ↦ rw e (omega (arith, count_low m n S h))
]

module _ (n root : ℕ) where
  reach_alike : (t k u : ℕ) (a b : Search) → b.seen t ≡ true → Alike n root a b → Alike n root (reach t k u a) (reach t k u b)
  reach_alike t k u a b s h =
      record {
        live = ap (λ (S : ℕ → Bool). put S k false) h.live;
        seen = ap (λ (S : ℕ → Bool). put S u true) h.seen;
        from = λ x v d. both a.from b.from t x v (λ w. h.from x w d);
        by = λ x v d. both a.by b.by k x v (λ w. h.by x w d);
        back = λ x v d. put_kept b.seen u (put b.from u t x) (back x v d);
        low = λ j v. h.low j (put_less b.live k j v).1;
      }
    where
      both : (f g : ℕ → ℕ) (y x : ℕ) → put b.seen u true x ≡ true → (b.seen x ≡ true → f x ≡ g x) → put f u y x ≡ put g u y x
      both f g y x v e = elim (ℕ_discrete x u) [
        | yes r ↦ rw r (put_same f u y ∙ sym (put_same g u y))
        | no r ↦ put_other f u y x r ∙ e (sym (put_other b.seen u true x r) ∙ v) ∙ sym (put_other g u y x r)
      ]

      back : (x : ℕ) → put b.seen u true x ≡ true → x ≢ root → b.seen (put b.from u t x) ≡ true
      back x v d = elim (ℕ_discrete x u) [
        | yes r ↦ rw (r, put_same b.from u t) s
        | no r ↦ rw (put_other b.from u t x r) (h.back x (sym (put_other b.seen u true x r) ∙ v) d)
      ]

  halt_alike : (a b : Search) → Alike n root a b → Alike n root (halt a) (halt b)
  halt_alike a b h =
      record { live = refl; seen = h.seen; from = h.from; by = h.by; back = h.back; low = λ k v. clash v refl }

  -- The way back is turned alike.
  turn_alike :
      (a b : Search) → Alike n root a b → (turns v k : ℕ) (f : ℕ → ℕ) → b.seen v ≡ true
      → turn a root turns v k f ≡ turn b root turns v k f
  unfolding turn
  turn_alike a b h zero v k f s = refl
  turn_alike a b h (suc turns) v k f s = elim (ℕ_discrete v root) [
    | yes e ↦ rw (eq-eqb v root e)
    | no d ↦
        rw (ne_eqb v root d, h.from v s d, h.by v s d)
        (turn_alike a b h turns (b.from v) (b.by v) (put f k v) (h.back v s d))
  ]

module _
    (p : Problem)
    (q : Slots)
    (words links : List ℕ)
    (fits : Fits p q words links)
    (root : ℕ)
    (ends ends' : ℕ → Bool)
    (stops : (x : ℕ) → x < p.trees → ends x ≡ ends' x)
  where
    abbrev Same : Search → Search → Type 0
    Same = Alike q.slots root

    -- What comes next is the same.
    module _ (t : ℕ) (a b : Search) (l : t < p.trees) (h : Same a b) where
      row : first_part words t ≡ get_or words t 0
      row = rw (lt-ltb t 64 (omega (arith, fits.ranks)))

      miss :
          (k : ℕ) → (k < q.slots → (p.covers t (q.spare_of k) && b.live k) ≡ false)
          → (bit (first_part words t) k && a.live k) ≡ false
      miss k f = rw h.live (elim (truth (bit (first_part words t) k && b.live k)) [
        | inr e ↦ e
        | inl e ↦
            let m : k < q.slots = h.low k (and_second (bit (first_part words t) k) _ e) in
            clash e (rw row (rw (fits.covered t k l m) at (f m)))
      ])

      next_some :
          Last q.slots (λ k. p.covers t (q.spare_of k) && b.live k) (next_slot p q t b)
          → next_slot (board_of words) (slots_of links) t a ≡ next_slot p q t b
      next_some f =
          last_found 64 (λ k. bit (first_part words t) k && a.live k) 64 (next_slot p q t b)
          record {
            within = omega (arith, f.within, fits.few);
            hit = rw (row, h.live) (rw (fits.covered t (next_slot p q t b) l f.within) at f.hit);
            after = λ i c d. miss i (λ e. f.after i c e);
          }

      next_none :
          ((k : ℕ) → k < q.slots → (p.covers t (q.spare_of k) && b.live k) ≡ false)
          → next_slot (board_of words) (slots_of links) t a ≡ 64
      next_none f = last_none 64 (λ k. bit (first_part words t) k && a.live k) 64 (λ i c. miss i (f i))

    -- States alike are left alike, and what was seen is still seen.
    abbrev LeftAlike : (ℕ → Search → Search) → (ℕ → Search → Search) → Type 0
    LeftAlike visit visit' =
        (t : ℕ) (a b : Search) → t < p.trees → b.seen t ≡ true → Same a b
        → Same (visit t a) (visit' t b) × ((x : ℕ) → b.seen x ≡ true → (visit' t b).seen x ≡ true)

    enter_alike : (visit visit' : ℕ → Search → Search) → LeftAlike visit visit' → LeftAlike (enter ends visit) (enter ends' visit')
    enter_alike visit visit' f u a b l s h = elim (truth (ends' u)) [
      | inl e ↦ rw (stops u l, e) (halt_alike q.slots root a b h, λ x v. v)
      | inr e ↦ rw (stops u l, e) (f u a b l s h)
    ]

    none_alike : LeftAlike (board_tree words links ends 0) (try_tree p q ends' 0)
    unfolding try_tree
    none_alike t a b l s h = (h, λ x v. v)

    -- Tree rank t tries slot k, and then the others.
    some_alike :
        (n : ℕ) → LeftAlike (board_tree words links ends n) (try_tree p q ends' n) → (t : ℕ) (a b : Search) → t < p.trees → b.seen t ≡ true
        → Same a b → (k : ℕ) → k < q.slots → next_slot p q t b ≡ k → next_slot (board_of words) (slots_of links) t a ≡ k
        → Same (board_tree words links ends (suc n) t a) (try_tree p q ends' (suc n) t b)
        × ((x : ℕ) → b.seen x ≡ true → (try_tree p q ends' (suc n) t b).seen x ≡ true)
    some_alike n more t a b l s h k m e e' =
        let u : ℕ = q.tree_of k in
        let own : first_part links k ≡ u = rw (lt-ltb k 64 (omega (arith, fits.few))) (sym (fits.own k m)) in
        let first = enter_alike (board_tree words links ends n) (try_tree p q ends' n) more u (reach t k u a) (reach t k u b) (fits.below k m)
        (put_same b.seen u true) (reach_alike q.slots root t k u a b s h) in
        let a' : Search = enter ends (board_tree words links ends n) u (reach t k u a) in
        let b' : Search = enter ends' (try_tree p q ends' n) u (reach t k u b) in
        let rest = more t a' b' l (first.1 t (put_kept b.seen u t s)) first.0 in
        let board : board_tree words links ends (suc n) t a ≡ board_tree words links ends n t a' =
        rw own at (turn_some (board_of words) (slots_of links) ends n t a k e' (omega (arith, fits.few))) in
        rw (turn_some p q ends' n t b k e m, board) (rest.0, λ x v. rest.1 x (first.1 x (put_kept b.seen u x v)))

    tree_alike : (n : ℕ) → LeftAlike (board_tree words links ends n) (try_tree p q ends' n)
    tree_alike zero t a b l s h = none_alike t a b l s h
    tree_alike (suc n) t a b l s h = elim (last_is q.slots (λ k. p.covers t (q.spare_of k) && b.live k) q.slots) [
      | inr (e, f) ↦
          rw (turn_none p q ends' n t b e, turn_none (board_of words) (slots_of links) ends n t a (next_none t a b l h f))
          (h, λ x v. v)
      | inl f ↦ some_alike n (tree_alike n) t a b l s h (next_slot p q t b) f.within refl (next_some t a b l h f)
    ]

-- What the arrays hold after an exploration is what the model finds.
pub record FoundSearch (t : ℕ) (words' links' : List ℕ) (live' : ℕ) (st : Search) : Type 0 where
  pub live : bit live' ≡ st.live
  pub seen : bit (get_or words' 64 0) ≡ st.seen
  pub turns : (n v k : ℕ) (f : ℕ → ℕ) → st.seen v ≡ true → turn (state_of words' links' live') t n v k f ≡ turn st t n v k f

module _
    (p : Problem)
    (q : Slots)
    (words links : List ℕ)
    (fits : Fits p q words links)
    (t live : ℕ)
    (rank : t < p.trees)
    (low : (k : ℕ) → bit live k ≡ true → k < q.slots)
    (words' links' : List ℕ)
    (live' : ℕ)
  where
    begun_alike : Alike q.slots t (board_begun t live links) (begun (bit live) t)
    begun_alike =
        record {
          live = refl;
          seen = refl;
          from = λ x v d. absurd (d (only x v));
          by = λ x v d. absurd (d (only x v));
          back = λ x v d. absurd (d (only x v));
          low = low;
        }
      where
        only : (x : ℕ) → put (λ _. false) t true x ≡ true → x ≡ t
        only x v = elim (put_split (λ _. false) t x v) [ inl e ↦ e | inr e ↦ clash e refl ]

    -- An exploration that ends at the tree ranks `ends`, as the model's at those of `ends'`.
    pub explored_found :
        (ends : ℕ) (ends' : ℕ → Bool) → ((x : ℕ) → x < p.trees → bit ends x ≡ ends' x)
        → Explored t live ends words links words' links' live' → FoundSearch t words' links' live' (search p q ends' (bit live) t)
    explored_found ends ends' stops e =
        record { live = alike.live; seen = alike.seen; turns = λ n v k f. turn_alike q.slots t _ _ alike n v k f }
      where
        same :
            LeftAlike p q words links fits t (bit ends) ends' stops (enter (bit ends) (board_tree words links (bit ends) q.slots))
            (enter ends' (try_tree p q ends' q.slots))
        same =
            enter_alike p q words links fits t (bit ends) ends' stops (board_tree words links (bit ends) q.slots) (try_tree p q ends' q.slots)
            (tree_alike p q words links fits t (bit ends) ends' stops q.slots)

        alike : Alike q.slots t (state_of words' links' live') (search p q ends' (bit live) t)
        alike =
            rw (e.equal q.slots (count_low 64 q.slots (bit live) low))
            (same t (board_begun t live links) (begun (bit live) t) rank (put_same (λ _. false) t true) begun_alike).0

    -- An exploration that nothing ends.
    pub explored_all :
        Explored t live 0 words links words' links' live' → FoundSearch t words' links' live' (search p q never (bit live) t)
    explored_all = explored_found 0 never (λ x _. bit_zero x)
