-- Ranks taken back to edges: costs by edge and by rank deviate alike, and the pairs listed are those of the matching by
-- rank, with its weight. Assumes nothing.
use Prim.Native.Nat.{ℕ, zero, suc, ◌+◌, ◌-◌, ◌<◌}
use Rattle.std.specs.Prelude.{◌≡◌, ◌≢◌, ◌⊎◌, Bool, true, false, cond, not, ◌&&◌, pos, nat_abs, ◌-ℤ◌, length, get_or}
use Rattle.std.proofs.Math.Path.{refl}
use Rattle.std.proofs.Common.{ap, ap₂, sym, ◌∙◌, inl, inr, true≢false, arith}
use mathlib.Core.List.Memᴰ
use mathlib.Core.List.{List, flat_map, Memᴰ}
use Rattle.std.proofs.Math.Decide.{ℕ_discrete}
use Rattle.std.proofs.lemmas.Bool.{not-true}
use Rattle.loops.specs.Loop.{put, gather}
use Rattle.loops.specs.Below.{sum}
use Rattle.loops.specs.TestLaws.{clash, and_first, and_second}
use Rattle.loops.specs.PutLaws.{put_same, put_other}
use Rattle.loops.specs.ScanLaws.{scan_leaves, scan_writes, scan_keeps}
use Rattle.loops.specs.SumLaws.{sum_same, sum_zero, sum_plus, sum_over}
use Rattle.loops.specs.Ordered.{Ordered}
use Rattle.loops.specs.GatherLaws.{gather_has, gather_from, gather_ordered, gather_sum}
use Rattle.graph.specs.Graph.{Graph, EdgeSet, NoneTwice}
use Rattle.graph.specs.Rank.{tree_ranks, Lists}
use Rattle.graph.specs.RankLaws.{by_falling, by_rising, ranks_list, ranks_rise, ranks_sum, tree_lists, tree_falls}
use Rattle.optimum.specs.Optimum.{Costs, deviation, Pair, both, weight, Rising, Falls}
use Rattle.optimum.specs.Search.{Problem, Mates, Slots, mates_in}
use Rattle.optimum.specs.Lowest.{slot_marks}
use Rattle.optimum.specs.Slackness.{Ranked, Valid, RankCosts, Unmatched, rank_deviation, pair_weight, rank_weight}
use Rattle.optimum.specs.Solve.{low_of, low_ranks, problem, new_costs, partners, pair_at}
use Rattle.optimum.specs.Distance.{distance_is}
use Rattle.optimum.proofs.Matched.{matched_view}
use Rattle.optimum.proofs.SlotLaws.{HeldSlots, mates_view, slot_mate, slot_below, slots_apart}
use Rattle.optimum.proofs.LowestProof.{labels, label_costs, tree_view, spare_view, tree_label_lem, spare_label_lem, tree_label_free, spare_label_free}
use Rattle.optimum.specs.PairLaws.{ordered_rising, rising_apart, falls_weight}
use Rattle.optimum.proofs.Reindex.{at_mate, unmatched_only, unmatched_stays, matched_leaves, sum_reindex}

-- The edges that have no rank: they are not in the tree and undercut nothing in it.
abbrev pub unranked_of : Graph → EdgeSet → (ℕ → ℕ) → EdgeSet
unranked_of g tr c e = not (low_of g tr c e) && not (tr e)

-- An edge is of one kind of three, and counts as such.
kind : (tree low : Bool) → (tree ≡ true) ⊎ (low ≡ true) ⊎ ((not low && not tree) ≡ true)
kind true low = inl refl
kind false true = inr (inl refl)
kind false false = inr (inr refl)

one_kind :
    (live tree low : Bool) (x : ℕ)
    → x ≡ cond tree x 0 + cond ((live && not tree) && low) x 0 + cond (not ((live && not tree) && low) && not tree) x 0
one_kind true true low x = omega arith
one_kind true false true x = omega arith
one_kind true false false x = omega arith
one_kind false true low x = omega arith
one_kind false false low x = omega arith

-- The costs by rank of costs by edge.
abbrev pub by_rank : Graph → EdgeSet → (ℕ → ℕ) → Costs → RankCosts
by_rank g tr c d = record { tree = λ t. d (get_or (tree_ranks g tr c) t 0); spare = λ s. d (get_or (low_ranks g tr c) s 0) }

module _ (g : Graph) (tr : EdgeSet) (c : ℕ → ℕ) where
  abbrev ts : List ℕ
  ts = tree_ranks g tr c

  abbrev ss : List ℕ
  ss = low_ranks g tr c

  pub low_lists : Lists g.edges (low_of g tr c) (low_ranks g tr c)
  low_lists = ranks_list (by_rising c) g.edges (low_of g tr c)

  pub ranked : Ranked (problem g tr c)
  ranked = record { fall = tree_falls g tr c; rise = ranks_rise c g.edges (low_of g tr c) }

  -- A non-tree rank's edge is not in the tree.
  pub low_out : (s : ℕ) → s < length (low_ranks g tr c) → tr (get_or (low_ranks g tr c) s 0) ≡ false
  low_out s l = not-true _ (and_second (g.live (get_or ss s 0)) _ (and_first _ _ (low_lists.inside s l)))

  pub ranks_apart :
      (t s : ℕ) → t < length (tree_ranks g tr c) → s < length (low_ranks g tr c)
      → get_or (tree_ranks g tr c) t 0 ≢ get_or (low_ranks g tr c) s 0
  ranks_apart t s h l q = clash ((tree_lists g tr c).inside t h) (rw q (low_out s l))

  -- Every edge has a rank, or none.
  pub edge_rank :
      (e : ℕ) → e < g.edges
      → ((t : ℕ) × (t < length (tree_ranks g tr c)) × (get_or (tree_ranks g tr c) t 0 ≡ e))
      ⊎ ((s : ℕ) × (s < length (low_ranks g tr c)) × (get_or (low_ranks g tr c) s 0 ≡ e))
      ⊎ (unranked_of g tr c e ≡ true)
  edge_rank e h = elim (kind (tr e) (low_of g tr c e)) [
    | inl q ↦ inl ((tree_lists g tr c).every e h q)
    | inr (inl q) ↦ inr (inl (low_lists.every e h q))
    | inr (inr q) ↦ inr (inr q)
  ]

  pub edge_sum :
      (f : ℕ → ℕ)
      → sum g.edges f
      ≡ sum (length (tree_ranks g tr c)) (λ t. f (get_or (tree_ranks g tr c) t 0))
      + sum (length (low_ranks g tr c)) (λ s. f (get_or (low_ranks g tr c) s 0))
      + sum g.edges (λ e. cond (unranked_of g tr c e) (f e) 0)
  edge_sum f =
      omega (
        arith,
        sum_same g.edges f (λ e. cond (tr e) (f e) 0 + cond (low_of g tr c e) (f e) 0 + cond (unranked_of g tr c e) (f e) 0)
            (λ e h. one_kind (g.live e) (tr e) _ (f e)),
        sum_plus g.edges (λ e. cond (tr e) (f e) 0 + cond (low_of g tr c e) (f e) 0) (λ e. cond (unranked_of g tr c e) (f e) 0),
        sum_plus g.edges (λ e. cond (tr e) (f e) 0) (λ e. cond (low_of g tr c e) (f e) 0),
        ranks_sum (by_falling c) g.edges tr f,
        ranks_sum (by_rising c) g.edges (low_of g tr c) f,
      )

  -- How far costs move edges without a rank; the others deviate as their ranks do.
  abbrev pub rest_deviation : Costs → ℕ
  rest_deviation d = sum g.edges (λ e. cond (unranked_of g tr c e) (nat_abs (d e -ℤ pos (c e))) 0)

  pub rank_deviation_lem : (d : Costs) → deviation g c d ≡ rank_deviation (problem g tr c) (by_rank g tr c d) + rest_deviation d
  rank_deviation_lem d = edge_sum (λ e. nat_abs (d e -ℤ pos (c e)))

-- The edges of a slot.
module _ (g : Graph) (tr : EdgeSet) (c : ℕ → ℕ) (q : Slots) where
  abbrev tree_edge : ℕ → ℕ
  tree_edge k = get_or (tree_ranks g tr c) (q.tree_of k) 0

  abbrev spare_edge : ℕ → ℕ
  spare_edge k = get_or (low_ranks g tr c) (q.spare_of k) 0

  module _ (held : HeldSlots (problem g tr c) q) (v : Valid (problem g tr c) (mates_in q)) where
    apart : (k j : ℕ) → k < q.slots → j < q.slots → tree_edge k ≢ spare_edge j
    apart k j a b = ranks_apart g tr c (q.tree_of k) (q.spare_of j) (slot_below _ q held v k a) (held.ranks j b)

    tree_once : (k j : ℕ) → k < q.slots → j < q.slots → tree_edge k ≡ tree_edge j → k ≡ j
    tree_once k j a b e =
        slots_apart _ q held v k j a b
        ((tree_lists g tr c).once (q.tree_of k) (q.tree_of j) (slot_below _ q held v k a) (slot_below _ q held v j b) e)

    spare_once : (k j : ℕ) → k < q.slots → j < q.slots → spare_edge k ≡ spare_edge j → k ≡ j
    spare_once k j a b e =
        held.distinct k j a b ((low_lists g tr c).once (q.spare_of k) (q.spare_of j) (held.ranks k a) (held.ranks j b) e)

-- The new costs of a matching in slots, whatever their labels: the edges of a slot get its label, the others keep their cost.
module _ (g : Graph) (tr : EdgeSet) (c : ℕ → ℕ) (q : Slots) (label : ℕ → ℕ) where
  abbrev at : ℕ → ℕ
  at = tree_edge g tr c q

  abbrev over : ℕ → ℕ
  over = spare_edge g tr c q

  abbrev body : ℕ → (ℕ → ℕ) → ℕ → ℕ
  body k f = put (put f (at k) (label k)) (over k) (label k)

  put_neither : (f : ℕ → ℕ) (k e : ℕ) → e ≢ at k → e ≢ over k → body k f e ≡ f e
  put_neither f k e a b =
      put_other (put f (at k) (label k)) (over k) (label k) e b ∙ put_other f (at k) (label k) e a

  pub free_new :
      (e : ℕ)
      → ((k : ℕ) → k < q.slots → (e ≢ get_or (tree_ranks g tr c) (q.tree_of k) 0) × (e ≢ get_or (low_ranks g tr c) (q.spare_of k) 0))
      → new_costs c (tree_ranks g tr c) (low_ranks g tr c) q label e ≡ c e
  free_new e none =
      scan_leaves body e q.slots 0 c (λ k f l u. let (a, b) = none k (omega arith) in put_neither f k e a b)

  -- So every new cost is a label or an old cost.
  pub new_view :
      (e : ℕ)
      → (new_costs c (tree_ranks g tr c) (low_ranks g tr c) q label e ≡ c e)
      ⊎ ((k : ℕ) × (k < q.slots) × (new_costs c (tree_ranks g tr c) (low_ranks g tr c) q label e ≡ label k))
  new_view e =
      scan_keeps body (λ f. (f e ≡ c e) ⊎ ((k : ℕ) × (k < q.slots) × (f e ≡ label k))) q.slots 0 c (inl refl)
      (λ k f l u before. elim (ℕ_discrete e (over k)) [
        | yes r ↦ inr (k, omega arith, rw r (put_same (put f (at k) (label k)) (over k) (label k)))
        | no r ↦ elim (ℕ_discrete e (at k)) [
          | yes i ↦
              inr (k, omega arith, put_other (put f (at k) (label k)) (over k) (label k) e r ∙ rw i (put_same f (at k) (label k)))
          | no i ↦ rw (put_neither f k e i r) before
        ]
      ])

  module _ (held : HeldSlots (problem g tr c) q) (v : Valid (problem g tr c) (mates_in q)) where
    pub tree_slot_new :
        (k : ℕ) → k < q.slots
        → new_costs c (tree_ranks g tr c) (low_ranks g tr c) q label (get_or (tree_ranks g tr c) (q.tree_of k) 0) ≡ label k
    tree_slot_new k a =
        scan_writes body (at k) k (label k) q.slots 0 c (omega arith) (omega arith)
        (λ f.
        put_other (put f (at k) (label k)) (over k) (label k) (at k) (apart g tr c q held v k k a a)
        ∙ put_same f (at k) (label k))
        (λ j f l u.
        put_neither f j (at k) (λ e. omega (arith, tree_once g tr c q held v k j a (omega arith) e)) (apart g tr c q held v k j a (omega arith)))

    pub spare_slot_new :
        (k : ℕ) → k < q.slots
        → new_costs c (tree_ranks g tr c) (low_ranks g tr c) q label (get_or (low_ranks g tr c) (q.spare_of k) 0) ≡ label k
    spare_slot_new k a =
        scan_writes body (over k) k (label k) q.slots 0 c (omega arith) (omega arith)
        (λ f. put_same (put f (at k) (label k)) (over k) (label k))
        (λ j f l u.
        put_neither f j (over k) (λ e. apart g tr c q held v j k (omega arith) a (sym e))
        (λ e. omega (arith, spare_once g tr c q held v k j a (omega arith) e)))

-- With the labels of the model: the new cost of the edge of a rank is the rank's label.
module _ (g : Graph) (tr : EdgeSet) (c : ℕ → ℕ) (q : Slots) (held : HeldSlots (problem g tr c) q) (v : Valid (problem g tr c) (mates_in q)) where
  abbrev p : Problem
  p = problem g tr c

  abbrev new_at : ℕ → ℕ
  new_at = new_costs c (tree_ranks g tr c) (low_ranks g tr c) q (slot_marks p q).label

  pub tree_new :
      (t : ℕ) → t < length (tree_ranks g tr c)
      → new_costs c (tree_ranks g tr c) (low_ranks g tr c) q (slot_marks (problem g tr c) q).label (get_or (tree_ranks g tr c) t 0)
      ≡ (labels (problem g tr c) q).tree_label t
  tree_new t h = elim (tree_view p q held v t) [
    | inl (k, a, e) ↦ rw (← e) (tree_slot_new g tr c q (slot_marks p q).label held v k a ∙ sym (tree_label_lem p q held v k a))
    | inr u ↦
        free_new g tr c q (slot_marks p q).label (get_or (tree_ranks g tr c) t 0) (λ k a. (
          λ e.
              let same : t ≡ q.tree_of k = (tree_lists g tr c).once t (q.tree_of k) h (slot_below p q held v k a) e in
              u (q.spare_of k) (held.ranks k a) (rw same (slot_mate p q held k a)),
          ranks_apart g tr c t (q.spare_of k) h (held.ranks k a),
        ))
        ∙ sym (tree_label_free p q held v t u)
  ]

  pub spare_new :
      (s : ℕ) → s < length (low_ranks g tr c)
      → new_costs c (tree_ranks g tr c) (low_ranks g tr c) q (slot_marks (problem g tr c) q).label (get_or (low_ranks g tr c) s 0)
      ≡ (labels (problem g tr c) q).spare_label s
  spare_new s h = elim (spare_view p q held v s) [
    | inl (k, a, e) ↦ rw (← e) (spare_slot_new g tr c q (slot_marks p q).label held v k a ∙ sym (spare_label_lem p q held v k a))
    | inr f ↦
        free_new g tr c q (slot_marks p q).label (get_or (low_ranks g tr c) s 0) (λ k a. (
          λ e. ranks_apart g tr c (q.tree_of k) s (slot_below p q held v k a) h (sym e),
          λ e.
              let same : s ≡ q.spare_of k = (low_lists g tr c).once s (q.spare_of k) h (held.ranks k a) e in
              omega (arith, f, ap (mates_in q) same, slot_mate p q held k a),
        ))
        ∙ sym (spare_label_free p q held v s f)
  ]

  -- An edge without a rank keeps its cost.
  pub unranked_new :
      (e : ℕ) → unranked_of g tr c e ≡ true → new_costs c (tree_ranks g tr c) (low_ranks g tr c) q (slot_marks (problem g tr c) q).label e ≡ c e
  unranked_new e r =
      free_new g tr c q (slot_marks p q).label e (λ k a. (
        λ i. clash (rw (← i) at ((tree_lists g tr c).inside (q.tree_of k) (slot_below p q held v k a))) (not-true _ (and_second (not (low_of g tr c e)) _ r)),
        λ i. clash (rw (← i) at ((low_lists g tr c).inside (q.spare_of k) (held.ranks k a))) (not-true _ (and_first _ _ r)),
      ))

  -- The new costs do not move them.
  new_still : rest_deviation g tr c (λ e. pos (new_at e)) ≡ 0
  new_still = sum_zero g.edges _ (λ e h. still e (unranked_of g tr c e) refl)
    where
      still : (e : ℕ) (b : Bool) → unranked_of g tr c e ≡ b → cond b (nat_abs (pos (new_at e) -ℤ pos (c e))) 0 ≡ 0
      still e true r = rw (unranked_new e r) (omega (arith, distance_is (pos (c e)) (c e)))
      still e false r = refl

  pub label_deviation :
      deviation g c (λ e. pos (new_costs c (tree_ranks g tr c) (low_ranks g tr c) q (slot_marks (problem g tr c) q).label e))
      ≡ rank_deviation (problem g tr c) (label_costs (labels (problem g tr c) q))
  label_deviation =
      let ranks =
      ap₂ {C = ℕ} ◌+◌
      (sum_same p.trees (λ t. nat_abs (pos (new_at (get_or (ts g tr c) t 0)) -ℤ pos (p.tree_cost t)))
      (λ t. nat_abs (pos ((labels p q).tree_label t) -ℤ pos (p.tree_cost t))) (λ t h. ap (λ x. nat_abs (pos x -ℤ pos (p.tree_cost t))) (tree_new t h)))
      (sum_same p.spares (λ s. nat_abs (pos (new_at (get_or (ss g tr c) s 0)) -ℤ pos (p.spare_cost s)))
      (λ s. nat_abs (pos ((labels p q).spare_label s) -ℤ pos (p.spare_cost s))) (λ s h. ap (λ x. nat_abs (pos x -ℤ pos (p.spare_cost s))) (spare_new s h))) in
      omega (arith, rank_deviation_lem g tr c (λ e. pos (new_at e)), ranks, new_still)

-- Edge e is a tree edge and matched to the non-tree edge x: they are the edges of a slot.
pub record Mated (ts ss : List ℕ) (q : Slots) (e x : ℕ) : Type 0 where
  pub slot : ℕ
  pub below : slot < q.slots
  pub tree : get_or ts (q.tree_of slot) 0 ≡ e
  pub spare : get_or ss (q.spare_of slot) 0 ≡ x

pub partner_from : (ts ss : List ℕ) (q : Slots) (e x : ℕ) → partners ts ss q e ≡ suc x → Mated ts ss q e x
partner_from ts ss q e =
    scan_keeps (λ k f. put f (get_or ts (q.tree_of k) 0) (suc (get_or ss (q.spare_of k) 0))) (λ f. (x : ℕ) → f e ≡ suc x → Mated ts ss q e x)
    q.slots 0 (λ _. 0) (λ x r. absurd (omega arith))
    (λ k f l u before x r. elim (ℕ_discrete (get_or ts (q.tree_of k) 0) e) [
      | yes a ↦
          record {
            slot = k;
            below = omega arith;
            tree = a;
            spare = omega (arith, put_same f (get_or ts (q.tree_of k) 0) (suc (get_or ss (q.spare_of k) 0)), (rw (← a) at r));
          }
      | no a ↦ before x (sym (put_other f (get_or ts (q.tree_of k) 0) (suc (get_or ss (q.spare_of k) 0)) e (λ b. a (sym b))) ∙ r)
    ])

pair_from_lem : (e m : ℕ) (q : Pair) → Memᴰ q (pair_at e m) → (q.tree ≡ e) × (m ≡ suc q.spare)
unfolding pair_at
pair_from_lem e zero q k = absurd (Memᴰ.not-nil k)
pair_from_lem e (suc s) q k =
    let same : q ≡ record { tree = e; spare = s } = Memᴰ.eq_of_singleton k in
    (ap (λ (r : Pair). r.tree) same, ap (λ (r : Pair). suc r.spare) (sym same))

pair_rising : (e m : ℕ) → Ordered (λ q r. q.tree < r.tree) (pair_at e m)
unfolding pair_at
pair_rising e zero = tt
pair_rising e (suc s) = (λ q k. absurd (Memᴰ.not-nil k), tt)

-- The pairs listed.
abbrev pub pairs_of : Graph → EdgeSet → (ℕ → ℕ) → Slots → List Pair
pairs_of g tr c q = gather g.edges (λ e. pair_at e (partners (tree_ranks g tr c) (low_ranks g tr c) q e))

module _ (g : Graph) (tr : EdgeSet) (c : ℕ → ℕ) (q : Slots) where
  abbrev partner : ℕ → ℕ
  partner = partners (tree_ranks g tr c) (low_ranks g tr c) q

  abbrev MatedEdges : ℕ → ℕ → Type 0
  MatedEdges = Mated (tree_ranks g tr c) (low_ranks g tr c) q

  pub pairs_from_lem :
      (r : Pair) → Memᴰ r (pairs_of g tr c q)
      → Mated (tree_ranks g tr c) (low_ranks g tr c) q r.tree r.spare
  pairs_from_lem r k =
      let (e, _, m) = gather_from g.edges (λ e. pair_at e (partner e)) k in
      let s = pair_from_lem e (partner e) r m in
      partner_from (tree_ranks g tr c) (low_ranks g tr c) q r.tree r.spare (rw s.0 s.1)

  pub pairs_rising : Rising (pairs_of g tr c q)
  pairs_rising =
      ordered_rising (pairs_of g tr c q)
      (gather_ordered (λ r s. r.tree < s.tree) g.edges (λ e. pair_at e (partner e))
      (λ e h. pair_rising e (partner e))
      (λ i j r s h l k k'. omega (arith, (pair_from_lem i (partner i) r k).0, (pair_from_lem j (partner j) s k').0)))

  module _ (held : HeldSlots (problem g tr c) q) (v : Valid (problem g tr c) (mates_in q)) where
    pub partner_at :
        (k : ℕ) → k < q.slots
        → partners (tree_ranks g tr c) (low_ranks g tr c) q (get_or (tree_ranks g tr c) (q.tree_of k) 0)
        ≡ suc (get_or (low_ranks g tr c) (q.spare_of k) 0)
    partner_at k a =
        scan_writes (λ j f. put f (tree_edge g tr c q j) (suc (spare_edge g tr c q j))) (tree_edge g tr c q k) k
        (suc (spare_edge g tr c q k)) q.slots 0 (λ _. 0) (omega arith) (omega arith)
        (λ f. put_same f (tree_edge g tr c q k) (suc (spare_edge g tr c q k)))
        (λ j f l u.
        put_other f (tree_edge g tr c q j) (suc (spare_edge g tr c q j)) (tree_edge g tr c q k)
        (λ e. omega (arith, tree_once g tr c q held v k j a (omega arith) e)))

    pub pairs_has :
        (k : ℕ) → k < q.slots
        → Memᴰ (record { tree = get_or (tree_ranks g tr c) (q.tree_of k) 0; spare = get_or (low_ranks g tr c) (q.spare_of k) 0 })
        (pairs_of g tr c q)
    unfolding pair_at
    pairs_has k a =
        gather_has g.edges (λ e. pair_at e (partner e)) (tree_edge g tr c q k)
        ((tree_lists g tr c).below (q.tree_of k) (slot_below _ q held v k a))
        (rw (partner_at k a) (Memᴰ.head refl))

    mated_falls : (e x : ℕ) → MatedEdges e x → c x < c e
    mated_falls e x m =
        rw (sym m.tree, sym m.spare)
        (v.falls (q.spare_of m.slot) (q.tree_of m.slot) (held.ranks m.slot m.below) (slot_mate _ q held m.slot m.below))

    pub pairs_falls : Falls c (pairs_of g tr c q)
    pairs_falls r k = mated_falls r.tree r.spare (pairs_from_lem r k)

    mated_apart : (e x e' x' : ℕ) → MatedEdges e x → MatedEdges e' x' → e ≢ x'
    mated_apart e x e' x' m n r = apart g tr c q held v m.slot n.slot m.below n.below (m.tree ∙ r ∙ sym n.spare)

    mated_once : (e x e' x' : ℕ) → MatedEdges e x → MatedEdges e' x' → x ≡ x' → e ≡ e'
    mated_once e x e' x' m n r =
        let same : m.slot ≡ n.slot = spare_once g tr c q held v m.slot n.slot m.below n.below (m.spare ∙ r ∙ sym n.spare) in
        sym m.tree ∙ ap (tree_edge g tr c q) same ∙ n.tree

    pub pairs_apart : NoneTwice (flat_map both (pairs_of g tr c q))
    pairs_apart =
        rising_apart (pairs_of g tr c q) pairs_rising
        (λ r s k l. mated_apart r.tree r.spare s.tree s.spare (pairs_from_lem r k) (pairs_from_lem s l))
        (λ r s k l. mated_once r.tree r.spare s.tree s.spare (pairs_from_lem r k) (pairs_from_lem s l))

    -- What the pair at an edge weighs.
    abbrev weight_at : ℕ → ℕ
    weight_at e = sum_over (λ r. c r.tree - c r.spare) (pair_at e (partner e))

    weight_some : (e x : ℕ) → partner e ≡ suc x → weight_at e ≡ c e - c x
    unfolding pair_at sum_over
    weight_some e x r = rw r (omega arith)

    weight_none : (e : ℕ) → ((x : ℕ) → MatedEdges e x → ⊥) → weight_at e ≡ 0
    unfolding pair_at sum_over
    weight_none e none = of (partner e) refl
      where
        of : (m : ℕ) → partner e ≡ m → sum_over (λ r. c r.tree - c r.spare) (pair_at e m) ≡ 0
        of zero r = refl
        of (suc x) r = absurd (none x (partner_from (ts g tr c) (ss g tr c) q e x r))

    mated_tree : (e x : ℕ) → MatedEdges e x → tr e ≡ true
    mated_tree e x m =
        rw (sym m.tree) ((tree_lists g tr c).inside (q.tree_of m.slot) (slot_below _ q held v m.slot m.below))

    weight_tree : (e : ℕ) → weight_at e ≡ cond (tr e) (weight_at e) 0
    weight_tree e = of (tr e) refl
      where
        of : (b : Bool) → tr e ≡ b → weight_at e ≡ cond b (weight_at e) 0
        of true r = refl
        of false r = weight_none e (λ x m. true≢false (sym (mated_tree e x m) ∙ r))

    -- By rank.
    abbrev rank_weight_at : ℕ → ℕ
    rank_weight_at t = weight_at (get_or (ts g tr c) t 0)

    abbrev mates : Mates
    mates = mates_in q

    unmatched_none : (t : ℕ) → t < length (ts g tr c) → Unmatched (problem g tr c) mates t → rank_weight_at t ≡ 0
    unmatched_none t h none =
        weight_none (get_or (ts g tr c) t 0) λ x m.
        let k : ℕ = m.slot in
        let same : q.tree_of k ≡ t = (tree_lists g tr c).once (q.tree_of k) t (slot_below _ q held v k m.below) h m.tree in
        none (q.spare_of k) (held.ranks k m.below) (slot_mate _ q held k m.below ∙ ap suc same)

    rest_none : (t : ℕ) → t < length (ts g tr c) → unmatched_only (length (ss g tr c)) mates rank_weight_at t ≡ 0
    rest_none t h = elim (matched_view (problem g tr c) mates t) [
      | inl m ↦ matched_leaves (length (ss g tr c)) mates rank_weight_at m.0 t m.1 m.2
      | inr none ↦ unmatched_stays (length (ss g tr c)) mates rank_weight_at t none ∙ unmatched_none t h none
    ]

    mate_weight : (s : ℕ) → at_mate rank_weight_at (mates s) ≡ pair_weight (problem g tr c) s (mates s)
    unfolding at_mate pair_weight
    mate_weight s = of (mates s) refl
      where
        at_slot : (t : ℕ) → (k : ℕ) × (k < q.slots) × (q.spare_of k ≡ s) × (q.tree_of k ≡ t) → rank_weight_at t ≡ pair_weight (problem g tr c) s (suc t)
        at_slot t (k, a, x, y) = rw (← x, ← y) (weight_some (tree_edge g tr c q k) (spare_edge g tr c q k) (partner_at k a))

        of : (m : ℕ) → mates s ≡ m → at_mate rank_weight_at m ≡ pair_weight (problem g tr c) s m
        of zero r = refl
        of (suc t) r = at_slot t (mates_view q.slots q.spare_of q.tree_of s t r)

    pub pairs_weight_lem : weight c (pairs_of g tr c q) ≡ pos (rank_weight (problem g tr c) (mates_in q))
    pairs_weight_lem =
        falls_weight c (pairs_of g tr c q) pairs_falls
        ∙ ap pos
        (omega (
          arith,
          gather_sum g.edges (λ e. pair_at e (partner e)) (λ r. c r.tree - c r.spare),
          sum_same g.edges weight_at (λ e. cond (tr e) (weight_at e) 0) (λ e h. weight_tree e),
          ranks_sum (by_falling c) g.edges tr weight_at,
          sum_reindex (length (ss g tr c)) (length (ts g tr c)) mates rank_weight_at v.below v.once,
          sum_same (length (ss g tr c)) (λ s. at_mate rank_weight_at (mates s))
              (λ s. pair_weight (problem g tr c) s (mates s)) (λ s h. mate_weight s),
          sum_zero (length (ts g tr c)) (unmatched_only (length (ss g tr c)) mates rank_weight_at) rest_none,
        ))
