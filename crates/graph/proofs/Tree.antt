-- The model of tree paths means what the definitions say: question 6 asks for a spanning tree, the masks tell which tree
-- edges a non-tree edge covers, and the judge passes exactly the minimum spanning trees. Assumes nothing.
use Prim.Native.Nat.{ℕ, zero, suc, ◌+◌, ◌≤◌, ◌<◌}
use Rattle.std.proofs.Common.{arith, sym, ap, ◌∙◌, inl, inr}
use Rattle.std.proofs.Math.Decide.{ℕ_discrete}
use Rattle.std.specs.Prelude.{◌≡◌, refl, ◌↔◌, ◌≢◌, ◌⊎◌, Bool, cond, not, List, ltb, eqb, length, get_or}
use Rattle.std.proofs.Math.Bool.{true, false, or-true}
use Rattle.std.proofs.Math.IntN.{pos}
use borrow.Author.Tests.{eqb-true, eq-eqb, ltb-true, ltb-false, leb-true, le-leb, not-true, not-false}
use Rattle.loops.specs.Loop.{scan, put, first}
use Rattle.loops.specs.PutLaws.{put_same, put_other, put_kept, put_split}
use Rattle.loops.specs.ScanLaws.{scan_keeps}
use Rattle.loops.specs.FirstLaws.{First, first_is}
use Rattle.loops.specs.TestLaws.{truth, clash, cond_both, choose_both, and_first, and_second, and_both}
use Rattle.loops.specs.TestLaws.{and_miss, same_test, or_either, or_means, xor_means, all_at, all_of}
use Rattle.graph.specs.Graph.{Graph, Sound, EdgeSet, Leads, forth, back, Joined, count, SpanningTree, Minimum, Covers, spare_of}
use Rattle.graph.specs.Rank.{Lists}
use Rattle.graph.specs.Paths.{Rooted, root, attach, grow, touches, try_at, expand, waits, expand_all, rooted, is_tree, covers_rank, judge}
use Rattle.graph.specs.Integers.{pos_le, le_pos}
use Rattle.graph.specs.CountLaws.{member_differs, count_put, count_none, count_all, count_below, count_full}
use Rattle.graph.specs.Walks.{leads_back, joined_refl, joined_edge, joined_trans, joined_sym, walk_member}
use Rattle.graph.specs.Sides.{Cut, covers_side, crossing}
use Rattle.graph.specs.Criterion.{Test, criterion}

-- What a tree edge does when it is tried: nothing, if both of its ends have been reached or neither; else it reaches one from the other.
data Grew (g : Graph) (ranks : List ℕ) (k : ℕ) (st : Rooted) : Rooted → Type 0 where
  still : st.reached (g.end₁ (get_or ranks k 0)) ≡ st.reached (g.end₂ (get_or ranks k 0)) → Grew g ranks k st st
  reaches : {u v : ℕ} → Leads g (get_or ranks k 0) u v → st.reached u ≡ true → st.reached v ≡ false → Grew g ranks k st (attach u v k st)

grew : (g : Graph) (ranks : List ℕ) (k : ℕ) (st : Rooted) → Grew g ranks k st (grow g ranks k st)
unfolding grow
grew g ranks k st = cases (st.reached u) (st.reached v) refl refl
  where
    u : ℕ
    u = g.end₁ (get_or ranks k 0)

    v : ℕ
    v = g.end₂ (get_or ranks k 0)

    cases : (a b : Bool) → st.reached u ≡ a → st.reached v ≡ b → Grew g ranks k st (cond a (cond b st (attach u v k st)) (cond b (attach v u k st) st))
    cases true true p q = still (p ∙ sym q)
    cases true false p q = reaches (forth refl refl) p q
    cases false true p q = reaches (back refl refl) q p
    cases false false p q = still (p ∙ sym q)

-- ---- what holds while the search goes on

-- The tree edge of rank k between u and v: both are reached, and their paths differ at k and at no other rank.
record Ends (st : Rooted) (k u v : ℕ) : Type 0 where
  here : st.reached u ≡ true
  there : st.reached v ≡ true
  itself : st.path u k ≢ st.path v k
  others : (j : ℕ) → j ≢ k → st.path u j ≡ st.path v j

ends_back : {st : Rooted} {k u v : ℕ} → Ends st k u v → Ends st k v u
ends_back e = record { here = e.there; there = e.here; itself = λ p. e.itself (sym p); others = λ j d. sym (e.others j d) }

leads_ends : {g : Graph} {st : Rooted} {e k u v : ℕ} → Leads g e u v → Ends st k (g.end₁ e) (g.end₂ e) ↔ Ends st k u v
leads_ends (forth p q) = rw (p, q) (λ h. h, λ h. h)
leads_ends (back p q) = rw (p, q) (ends_back, ends_back)

-- What the search keeps: every node reached is joined to node 0, and there is one more of them than tree edges used to reach them.
record Grown (g : Graph) (tr : EdgeSet) (ranks : List ℕ) (st : Rooted) : Type 0 where
  size : st.found ≡ count g.nodes st.reached
  start : st.reached 0 ≡ true
  joined : (v : ℕ) → st.reached v ≡ true → Joined g tr v 0
  used : ℕ → Bool
  one_more : suc (count (length ranks) used) ≡ st.found
  ends : (k : ℕ) → k < length ranks → used k ≡ true → Ends st k (g.end₁ (get_or ranks k 0)) (g.end₂ (get_or ranks k 0))

not_differs : (b : Bool) → b ≢ not b
not_differs true e = clash refl e
not_differs false e = clash e refl

-- Node v is reached from node u over the tree edge of rank k.
module _ (st : Rooted) (u v k : ℕ) (a : st.reached u ≡ true) (b : st.reached v ≡ false) where
  -- The path of a node that was reached before stays.
  path_kept : (w : ℕ) → st.reached w ≡ true → (attach u v k st).path w ≡ st.path w
  path_kept w h = put_other st.path v _ w (member_differs st.reached w v h b)

  path_new : (attach u v k st).path v ≡ put (st.path u) k (not (st.path u k))
  path_new = put_same st.path v _

  ends_kept : (j x y : ℕ) → Ends st j x y → Ends (attach u v k st) j x y
  ends_kept j x y e =
      let p : (attach u v k st).path x ≡ st.path x = path_kept x e.here in
      let q : (attach u v k st).path y ≡ st.path y = path_kept y e.there in
      record {
        here = put_kept st.reached v x e.here;
        there = put_kept st.reached v y e.there;
        itself = λ r. e.itself (sym (ap (λ f. f j) p) ∙ r ∙ ap (λ f. f j) q);
        others = λ i d. ap (λ f. f i) p ∙ e.others i d ∙ sym (ap (λ f. f i) q);
      }

  ends_new : Ends (attach u v k st) k u v
  ends_new =
      record {
        here = put_kept st.reached v u a;
        there = put_same st.reached v true;
        itself =
            λ r. not_differs (st.path u k) (sym (ap (λ f. f k) (path_kept u a)) ∙ r ∙ ap (λ f. f k) path_new ∙ put_same (st.path u) k (not (st.path u k)));
        others = λ j d. ap (λ f. f j) (path_kept u a) ∙ sym (ap (λ f. f j) path_new ∙ put_other (st.path u) k (not (st.path u k)) j d);
      }

module _ {g : Graph} (sound : Sound g) {tr : EdgeSet} {ranks : List ℕ} (lists : Lists g.edges tr ranks) where
  leads_below : {e u v : ℕ} → e < g.edges → Leads g e u v → v < g.nodes
  leads_below {e} l (forth p q) = rw q at (sound.second e l)
  leads_below {e} l (back p q) = rw q at (sound.first e l)

  grown_attach :
      {st : Rooted} {u v k : ℕ} →
      k < length ranks →
      Leads g (get_or ranks k 0) u v →
      st.reached u ≡ true →
      st.reached v ≡ false →
      Grown g tr ranks st →
      Grown g tr ranks (attach u v k st)
  grown_attach {st} {u} {v} {k} l way a b h =
      record {
        size = omega (arith, h.size, rw b at (count_put g.nodes st.reached v true (leads_below (lists.below k l) way)));
        start = put_kept st.reached v 0 h.start;
        joined =
            λ w r. elim (put_split st.reached v w r)
            [ inl e ↦ rw e (joined_trans (joined_edge (lists.below k l) (lists.inside k l) (leads_back way)) (h.joined u a)) | inr o ↦ h.joined w o ];
        used = put h.used k true;
        one_more = omega (arith, h.one_more, rw (fresh (h.used k) refl) at (count_put (length ranks) h.used k true l));
        ends = ends;
      }
    where
      fresh : (c : Bool) → h.used k ≡ c → h.used k ≡ false
      fresh true t = clash ((leads_ends way).0 (h.ends k l t)).there b
      fresh false t = t

      ends : (j : ℕ) → j < length ranks → put h.used k true j ≡ true → Ends (attach u v k st) j (g.end₁ (get_or ranks j 0)) (g.end₂ (get_or ranks j 0))
      ends j m t =
          elim (put_split h.used k j t) [
            | inl e ↦ rw e ((leads_ends way).1 (ends_new st u v k a b))
            | inr o ↦ ends_kept st u v k a b j (g.end₁ (get_or ranks j 0)) (g.end₂ (get_or ranks j 0)) (h.ends j m o)
          ]

  grown_step : {k : ℕ} {st next : Rooted} → k < length ranks → Grew g ranks k st next → Grown g tr ranks st → Grown g tr ranks next
  grown_step l (still p) h = h
  grown_step l (reaches way a b) h = grown_attach l way a b h

  grown_root : 1 ≤ g.nodes → Grown g tr ranks root
  grown_root l =
      record {
        size = omega (arith, count_put g.nodes (λ _. false) 0 true l, count_none g.nodes (λ _. false) (λ _ _. refl));
        start = refl;
        joined = λ v r. elim (put_split (λ _. false) 0 v r) [ inl e ↦ rw e joined_refl | inr o ↦ clash o refl ];
        used = λ _. false;
        one_more = ap suc (count_none (length ranks) (λ _. false) (λ _ _. refl));
        ends = λ k b t. clash t refl;
      }

-- ---- a node expanded

-- Both ends of the tree edge of rank k have been reached.
abbrev Both : Graph → List ℕ → ℕ → Rooted → Type 0
Both g ranks k st = (st.reached (g.end₁ (get_or ranks k 0)) ≡ true) × (st.reached (g.end₂ (get_or ranks k 0)) ≡ true)

module _ (g : Graph) (ranks : List ℕ) where
  -- What has been reached stays so.
  step_kept : (k w : ℕ) {st next : Rooted} → Grew g ranks k st next → st.reached w ≡ true → next.reached w ≡ true
  step_kept k w (still p) h = h
  step_kept k w {st} (reaches {v = v} way a b) h = put_kept st.reached v w h

  leads_both : (k : ℕ) (st : Rooted) {u v : ℕ} → Leads g (get_or ranks k 0) u v → st.reached u ≡ true → st.reached v ≡ true → Both g ranks k st
  leads_both k st (forth p q) a b = rw (p, q) (a, b)
  leads_both k st (back p q) a b = rw (p, q) (b, a)

  -- A tree edge tried at a node that has been reached leads to its other end.
  step_both : (k v : ℕ) {st next : Rooted} → Grew g ranks k st next → touches g ranks v k ≡ true → st.reached v ≡ true → Both g ranks k next
  step_both k v {st} (still p) t h =
      elim (or_either (eqb (g.end₁ (get_or ranks k 0)) v) (eqb (g.end₂ (get_or ranks k 0)) v) t) [
        | inl e ↦ let r : st.reached (g.end₁ (get_or ranks k 0)) ≡ true = rw (eqb-true (g.end₁ (get_or ranks k 0)) v e) h in (r, sym p ∙ r)
        | inr e ↦ let r : st.reached (g.end₂ (get_or ranks k 0)) ≡ true = rw (eqb-true (g.end₂ (get_or ranks k 0)) v e) h in (p ∙ r, r)
      ]
  step_both k v {st} (reaches {u} {v = w} way a b) t h = leads_both k (attach u w k st) way (put_kept st.reached w u a) (put_same st.reached w true)

  module _ (v : ℕ) where
    try_kept : (k w : ℕ) (st : Rooted) → st.reached w ≡ true → (try_at g ranks v k st).reached w ≡ true
    try_kept k w st h = cond_both (λ (s : Rooted). s.reached w ≡ true) (touches g ranks v k) _ _ (λ _. step_kept k w (grew g ranks k st) h) (λ _. h)

    scan_both : (k turns i : ℕ) (st : Rooted) → Both g ranks k st → Both g ranks k (scan (try_at g ranks v) turns i st)
    scan_both k turns i st both = scan_keeps _ (Both g ranks k) turns i st both (λ j s l m p. (try_kept j _ s p.0, try_kept j _ s p.1))

    -- All neighbours of an expanded node have been reached.
    expand_both :
        (turns i : ℕ) (st : Rooted) →
        st.reached v ≡ true →
        (k : ℕ) →
        i ≤ k →
        k < i + turns →
        touches g ranks v k ≡ true →
        Both g ranks k (scan (try_at g ranks v) turns i st)
    unfolding scan
    expand_both zero i st h k l m t = absurd (omega arith)
    expand_both (suc turns) i st h k l m t =
        elim (ℕ_discrete i k) [
          | yes e ↦ scan_both k turns (suc i) _ (rw (e, t) (step_both k v (grew g ranks k st) t h))
          | no d ↦ expand_both turns (suc i) _ (try_kept i v st h) k (omega arith) (omega arith) t
        ]

-- ---- the search ends when no node waits

-- No tree edge leads out of what has been reached.
abbrev Closed : Graph → List ℕ → Rooted → Type 0
Closed g ranks st = (k : ℕ) → k < length ranks → st.reached (g.end₁ (get_or ranks k 0)) ≡ st.reached (g.end₂ (get_or ranks k 0))

-- Every tree edge at a node that has been expanded has both ends reached.
abbrev Expanded : Graph → List ℕ → (ℕ → Bool) → Rooted → Type 0
Expanded g ranks done st = (v k : ℕ) → done v ≡ true → k < length ranks → touches g ranks v k ≡ true → Both g ranks k st

module _ (g : Graph) (ranks : List ℕ) (k : ℕ) where
  touches_first : touches g ranks (g.end₁ (get_or ranks k 0)) k ≡ true
  touches_first = rw (eq-eqb (g.end₁ (get_or ranks k 0)) (g.end₁ (get_or ranks k 0)) refl)

  touches_second : touches g ranks (g.end₂ (get_or ranks k 0)) k ≡ true
  touches_second = rw (eq-eqb (g.end₂ (get_or ranks k 0)) (g.end₂ (get_or ranks k 0)) refl)
      (or-true (eqb (g.end₁ (get_or ranks k 0)) (g.end₂ (get_or ranks k 0))))

module _ {g : Graph} (sound : Sound g) {tr : EdgeSet} {ranks : List ℕ} (lists : Lists g.edges tr ranks) where
  grown_expand : (v : ℕ) (st : Rooted) → Grown g tr ranks st → Grown g tr ranks (expand g ranks v st)
  grown_expand v st h =
      scan_keeps (try_at g ranks v) (Grown g tr ranks) (length ranks) 0 st h
      (λ k s l m p. cond_both (Grown g tr ranks) (touches g ranks v k) _ _ (λ _. grown_step sound lists (omega arith) (grew g ranks k s) p) (λ _. p))

  expanded_more :
      (done : ℕ → Bool) (v : ℕ) (st : Rooted) →
      st.reached v ≡ true →
      Expanded g ranks done st →
      Expanded g ranks (put done v true) (expand g ranks v st)
  expanded_more done v st r h w k d l t =
      elim (put_split done v w d) [
        | inl e ↦ expand_both g ranks v (length ranks) 0 st r k (omega arith) (omega arith) (rw e at t)
        | inr o ↦ scan_both g ranks v k (length ranks) 0 st (h w k o l t)
      ]

  -- All nodes have been expanded.
  all_closed : (done : ℕ → Bool) (st : Rooted) → Expanded g ranks done st → g.nodes ≤ count g.nodes done → Closed g ranks st
  all_closed done st h full k l =
      let e : ℕ = get_or ranks k 0 in
      let all : count g.nodes done ≡ g.nodes = omega (arith, count_below g.nodes done) in
      let both : Both g ranks k st = h (g.end₁ e) k (count_full g.nodes done all (g.end₁ e) (sound.first e (lists.below k l))) l
      (touches_first g ranks k) in
      both.0 ∙ sym both.1

  -- No node waits.
  none_closed : (done : ℕ → Bool) (st : Rooted) → Expanded g ranks done st → ((v : ℕ) → v < g.nodes → waits done st v ≡ false) → Closed g ranks st
  none_closed done st h none k l = cases (truth (st.reached u)) (truth (st.reached v))
    where
      u : ℕ
      u = g.end₁ (get_or ranks k 0)

      v : ℕ
      v = g.end₂ (get_or ranks k 0)

      both : (w : ℕ) → w < g.nodes → touches g ranks w k ≡ true → st.reached w ≡ true → Both g ranks k st
      both w b t r = h w k (not-false (done w) (and_miss (st.reached w) (not (done w)) (none w b) r)) l t

      cases : (st.reached u ≡ true) ⊎ (st.reached u ≡ false) → (st.reached v ≡ true) ⊎ (st.reached v ≡ false) → st.reached u ≡ st.reached v
      cases (inl p) q = p ∙ sym (both u (sound.first _ (lists.below k l)) (touches_first g ranks k) p).1
      cases (inr p) (inl q) = clash (both v (sound.second _ (lists.below k l)) (touches_second g ranks k) q).0 p
      cases (inr p) (inr q) = p ∙ sym q

  -- Every round expands one more node, so that the search ends within as many rounds as there are nodes.
  expand_end :
      (rounds : ℕ) (done : ℕ → Bool) (st : Rooted) → Grown g tr ranks st → Expanded g ranks done st → g.nodes ≤ count g.nodes done + rounds
      → Grown g tr ranks (expand_all g ranks rounds done st) × Closed g ranks (expand_all g ranks rounds done st)
  unfolding expand_all
  expand_end zero done st grown h l = (grown, all_closed done st h (omega arith))
  expand_end (suc rounds) done st grown h l =
      let v : ℕ = first g.nodes (waits done st) in
      let f : First g.nodes (waits done st) v = first_is g.nodes (waits done st) in
      choose_both (λ (s : Rooted). Grown g tr ranks s × Closed g ranks s) (ltb v g.nodes) _ _
      (λ t.
      let b : v < g.nodes = ltb-true v g.nodes t in
      let fresh : done v ≡ false = not-true (done v) (and_second (st.reached v) (not (done v)) (f.hit b)) in
      expand_end rounds (put done v true) (expand g ranks v st) (grown_expand v st grown)
      (expanded_more done v st (and_first (st.reached v) (not (done v)) (f.hit b)) h)
      (omega (arith, rw fresh at (count_put g.nodes done v true b))))
      (λ t. (grown, none_closed done st h (λ w b. f.before w (omega (arith, ltb-false v g.nodes t)))))

  rooted_end : 1 ≤ g.nodes → Grown g tr ranks (rooted g ranks) × Closed g ranks (rooted g ranks)
  rooted_end l = expand_end _ (λ _. false) root (grown_root sound lists l) (λ v k d b t. clash d refl) (omega arith)

  -- ---- question 6

  -- A walk out of what has been reached would take a tree edge out of it.
  all_reached : SpanningTree g tr → (st : Rooted) → Closed g ranks st → st.reached 0 ≡ true → (v : ℕ) → v < g.nodes → st.reached v ≡ true
  all_reached tree st closed z v l = elim (truth (st.reached v)) [ inl r ↦ r | inr r ↦ absurd (leaves r) ]
    where
      leaves : st.reached v ≡ false → ⊥
      leaves r =
          let walk = (tree.joins v 0 l (omega arith)).1 in
          let (t, m, d) = crossing st.reached walk (λ e. clash z (sym e ∙ r)) in
          let (b, s) = walk_member walk m in
          let (k, c, p) = lists.every t b s in
          d (rw p at (closed k c))

  all_found : SpanningTree g tr → (rooted g ranks).found ≡ g.nodes
  all_found tree =
      let (h, closed) = rooted_end (omega (arith, tree.size)) in
      h.size ∙ count_all g.nodes (rooted g ranks).reached (all_reached tree (rooted g ranks) closed h.start)

  -- If as many nodes were found as there are, all are joined to node 0.
  found_joined : 1 ≤ g.nodes → (rooted g ranks).found ≡ g.nodes → (v : ℕ) → v < g.nodes → Joined g tr v 0
  found_joined l e v b =
      let h : Grown g tr ranks (rooted g ranks) = (rooted_end l).0 in
      h.joined v (count_full g.nodes (rooted g ranks).reached (sym h.size ∙ e) v b)

  -- Question 6 says yes exactly to spanning trees.
  pub tree_means : 1 ≤ g.nodes → ((e : ℕ) → e < g.edges → tr e ≡ true → g.live e ≡ true) → (is_tree g ranks ≡ true) ↔ SpanningTree g tr
  tree_means l usable = (spans, passes)
    where
      spans : is_tree g ranks ≡ true → SpanningTree g tr
      spans h =
          let to-root : (v : ℕ) → v < g.nodes → Joined g tr v 0 = found_joined l (eqb-true _ _ (and_second (eqb (suc (length ranks)) g.nodes) _ h)) in
          record {
            usable = usable;
            size = ap suc (sym lists.size) ∙ eqb-true _ _ (and_first _ _ h);
            joins = λ u v a b. joined_trans (to-root u a) (joined_sym (to-root v b));
          }

      passes : SpanningTree g tr → is_tree g ranks ≡ true
      passes tree = and_both _ _ (eq-eqb _ _ (ap suc lists.size ∙ tree.size)) (eq-eqb _ _ (all_found tree))

  -- ---- the judge

  -- Every tree edge was used, so that the paths of its ends differ at its own rank alone.
  all_ends : SpanningTree g tr → (k : ℕ) → k < length ranks → Ends (rooted g ranks) k (g.end₁ (get_or ranks k 0)) (g.end₂ (get_or ranks k 0))
  all_ends tree k l =
      let h : Grown g tr ranks (rooted g ranks) = (rooted_end (omega (arith, tree.size))).0 in
      h.ends k l (count_full (length ranks) h.used (omega (arith, h.one_more, all_found tree, tree.size, lists.size)) k l)

  -- So "rank k is on the path of v" is a side function of that tree edge.
  rank_cut : SpanningTree g tr → (k : ℕ) → k < length ranks → Cut g tr (get_or ranks k 0) (λ v. (rooted g ranks).path v k)
  rank_cut tree k l = record { others = others; itself = (all_ends tree k l).itself }
    where
      others : (e : ℕ) → e < g.edges → tr e ≡ true → e ≢ get_or ranks k 0 → (rooted g ranks).path (g.end₁ e) k ≡ (rooted g ranks).path (g.end₂ e) k
      others e b s d =
          let (j, m, p) = lists.every e b s in
          rw (← p) ((all_ends tree j m).others k (λ q. d (sym p ∙ ap (λ i. get_or ranks i 0) (sym q))))

  -- An edge that may be used covers a tree edge exactly when the paths of its ends differ at that rank.
  pub covers_means :
      SpanningTree g tr →
      (s k : ℕ) →
      s < g.edges →
      g.live s ≡ true →
      k < length ranks →
      (covers_rank g (rooted g ranks) s k ≡ true) ↔ Covers g tr s (get_or ranks k 0)
  covers_means tree s k b usable l =
      let sides = covers_side g tr (get_or ranks k 0) (λ v. (rooted g ranks).path v k) (rank_cut tree k l) s usable
      (tree.joins (g.end₁ s) (g.end₂ s) (sound.first s b) (sound.second s b)) in
      (λ h. sides.1 ((xor_means _ _).0 h), λ v. (xor_means _ _).1 (sides.0 v))

  -- The judge says yes exactly to minimum spanning trees.
  pub judge_means : SpanningTree g tr → (c : ℕ → ℕ) → (judge g tr c ranks ≡ true) ↔ Minimum g tr (λ e. pos (c e))
  unfolding judge
  judge_means tree c = (λ h. test.1 (holds h), λ m. passes (test.0 m))
    where
      test : Minimum g tr (λ e. pos (c e)) ↔ Test g tr (λ e. pos (c e))
      test = criterion g sound tr tree (λ e. pos (c e))

      holds : judge g tr c ranks ≡ true → Test g tr (λ e. pos (c e))
      holds h s t b out v =
          let (l, i) = walk_member v.walk v.holds in
          let (k, m, p) = lists.every t l i in
          let spare : spare_of g tr s ≡ true = and_both (g.live s) (not (tr s)) v.usable (ap not out) in
          let over : covers_rank g (rooted g ranks) s k ≡ true = (covers_means tree s k b v.usable m).1 (rw p v) in
          let less : c (get_or ranks k 0) ≤ c s = leb-true _ _ ((or_means _ _).0 (all_at _ _ ((or_means _ _).0 (all_at _ _ h s b) spare) k m) over) in
          pos_le (rw p at less)

      passes : Test g tr (λ e. pos (c e)) → judge g tr c ranks ≡ true
      passes h = all_of _ _ (λ s b. (or_means _ _).1 (λ spare. all_of _ _ (λ k m. (or_means _ _).1 (λ over. le-leb _ _ (less s b spare k m over)))))
        where
          less :
              (s : ℕ) →
              s < g.edges →
              spare_of g tr s ≡ true →
              (k : ℕ) →
              k < length ranks →
              covers_rank g (rooted g ranks) s k ≡ true →
              c (get_or ranks k 0) ≤ c s
          less s b spare k m over =
              let usable : g.live s ≡ true = and_first (g.live s) _ spare in
              let out : tr s ≡ false = not-true (tr s) (and_second (g.live s) _ spare) in
              le_pos (h s (get_or ranks k 0) b out ((covers_means tree s k b usable m).0 over))

  -- Between the ends of a tree edge there is its own rank alone.
  pub own_rank :
      SpanningTree g tr → (k : ℕ) → k < length ranks → (j : ℕ) → covers_rank g (rooted g ranks) (get_or ranks k 0) j ≡ eqb k j
  own_rank tree k l j =
      let ends : Ends (rooted g ranks) k (g.end₁ (get_or ranks k 0)) (g.end₂ (get_or ranks k 0)) = all_ends tree k l in
      same_test _ _
      (λ h. elim (ℕ_discrete k j) [ yes e ↦ eq-eqb k j e | no d ↦ absurd ((xor_means _ _).0 h (ends.others j (λ e. d (sym e)))) ])
      (λ h. rw (← eqb-true k j h) ((xor_means _ _).1 ends.itself))
