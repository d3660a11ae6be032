-- The judge of answer frames: it says yes exactly to the frames that are laid out as an answer whose steps, costs and pairing hold,
-- in document 01's words. The judge of trees: it says yes exactly to cheapest trees. Assumes nothing.
use Rattle.std.specs.Prelude.{ℕ, suc, ◌-◌, ◌<◌, ◌≡◌, ◌↔◌, ◌≢◌, not, ◌&&◌, pos, nat_abs, ◌-ℤ◌, length, get_or}
use Rattle.std.proofs.Common.{arith, sym, ap, ◌∙◌, ltb-true, lt-ltb, eqb-true, eq-eqb, ne_eqb}
use Rattle.std.proofs.Math.Decide.{dec_lt}
use Rattle.std.proofs.Math.Path.{refl}
use Rattle.std.proofs.Math.Bool.{Bool, true}
use mathlib.Core.List.{List, [], ◌∷◌, flat_map, Memᴰ}
use Rattle.std.proofs.Math.Option.{Option, some, none}
use Rattle.std.proofs.Math.Dec.{ltb, eqb}
use Rattle.std.proofs.lemmas.Bool.{eqb-false, not-true}
use Rattle.loops.specs.Below.{sum, all_below}
use Rattle.loops.specs.TestLaws.{clash, and_first, and_second, and_both, all_at, all_of}
use Rattle.loops.specs.SumLaws.{sum_over_lem, sum_same}
use Rattle.loops.specs.FirstLaws.{First, first_is}
use Rattle.loops.specs.Ordered.{Ordered, ordered_at, get_d_member, member_place}
use Rattle.number.specs.Number.{Bytes}
use Rattle.graph.specs.Graph.{Graph, Sound, EdgeSet, SpanningTree, Minimum, Covers, NoneTwice, spare_of}
use Rattle.graph.specs.Rank.{Lists}
use Rattle.graph.specs.Paths.{rooted, covers_rank, judge}
use Rattle.graph.specs.RankLaws.{tree_lists}
use Rattle.graph.proofs.Tree.{covers_means, judge_means}
use Rattle.optimum.specs.Optimum.{Pair, both, IsPair, Matching, Rising, Falls, weight, deviation, Answer}
use Rattle.optimum.specs.PairLaws.{rising_apart, falls_weight}
use Rattle.optimum.specs.Distance.{distance_is}
use Rattle.frame.specs.Job.{Job, graph_of, tree_of, cost_of}
use Rattle.frame.specs.Answers.{read_answer, rank_of, pair_holds, no_pair, pairs_rise, pairs_weight, gap, answer_holds, judge_read, judge_answer, judge_tree}
use Rattle.frame.specs.Meaning.{Accepted}
use Rattle.frame.specs.AnswerMeaning.{Certificate, Certified}
use Rattle.frame.proofs.AnswerLayout.{layout_read, read_means}

-- The sum of the new costs' differences from the old ones is their deviation.
gap_deviation :
    (g : Graph) (c new : ℕ → ℕ) → sum g.edges (λ e. gap (new e) (c e)) ≡ deviation g c (λ e. pos (new e))
gap_deviation g c new =
    sum_same g.edges (λ e. gap (new e) (c e)) (λ e. nat_abs (pos (new e) -ℤ pos (c e)))
    (λ e h. sym (distance_is (pos (new e)) (c e)))

-- ---- pairs

-- Of two pairs in the order of the list: the second has the higher tree edge and another non-tree edge.
abbrev Later : Pair → Pair → Type 0
Later p q = (p.tree < q.tree) × (p.spare ≢ q.spare)

-- A list is in order if each element stands in the relation to those at later places.
ordered_of : {A : Type 0} (R : A → A → Type 0) (x : A) (xs : List A) → ((k i : ℕ) → k < i → i < length xs → R (get_or xs k x) (get_or xs i x)) → Ordered R xs
ordered_of R x [] h = tt
ordered_of R x (y ∷ xs) h = (
  λ z m. let (i, l, e) = member_place x m in rw (← e) (h 0 (suc i) (omega arith) (omega (arith, l))),
  ordered_of R x xs (λ k i l b. h (suc k) (suc i) (omega arith) (omega arith)),
)

later_means : (p q : Pair) → ((ltb p.tree q.tree && not (eqb p.spare q.spare)) ≡ true) ↔ Later p q
later_means p q = (
  λ h. (
    ltb-true p.tree q.tree (and_first (ltb p.tree q.tree) _ h),
    eqb-false p.spare q.spare (not-true _ (and_second (ltb p.tree q.tree) _ h)),
  ),
  λ h. rw (lt-ltb p.tree q.tree h.0, ne_eqb p.spare q.spare h.1),
)

rise_means : (ps : List Pair) → (pairs_rise ps ≡ true) ↔ Ordered Later ps
rise_means ps = (
  λ h. ordered_of Later no_pair ps (λ k i l b. (later_means (get_or ps k no_pair) (get_or ps i no_pair)).0 (all_at i _ (all_at (length ps) _ h i b) k l)),
  λ o. all_of (length ps) _ (λ i b. all_of i _ (λ k l. (later_means (get_or ps k no_pair) (get_or ps i no_pair)).1 (ordered_at Later no_pair ps k i o l b))),
)

later_rising : (ps : List Pair) → Ordered Later ps → Rising ps
later_rising [] o = tt
later_rising (p ∷ ps) o = (λ q m. (o.0 q m).0, later_rising ps o.1)

-- A non-tree edge has one mate.
later_one : (ps : List Pair) → Ordered Later ps → (p q : Pair) → Memᴰ p ps → Memᴰ q ps → p.spare ≡ q.spare → p.tree ≡ q.tree
later_one ps o p q m n e =
    let (i, a, u) = member_place no_pair m in
    let (k, b, v) = member_place no_pair n in
    elim (dec_lt i k) [
      | yes l ↦ absurd ((ordered_at Later no_pair ps i k o l b).1 (ap (λ x. x.spare) u ∙ e ∙ sym (ap (λ x. x.spare) v)))
      | no l ↦ elim (dec_lt k i) [
        | yes l' ↦ absurd ((ordered_at Later no_pair ps k i o l' a).1 (ap (λ x. x.spare) v ∙ sym e ∙ sym (ap (λ x. x.spare) u)))
        | no l' ↦ let same : i ≡ k = omega arith in
            ap (λ x. x.tree) (sym u) ∙ ap (λ x. (get_or ps x no_pair).tree) same ∙ ap (λ x. x.tree) v
      ]
    ]

spare_member : {q : Pair} {ps : List Pair} → Memᴰ q ps → Memᴰ q.spare (flat_map both ps)
unfolding flat_map
spare_member (Memᴰ.head e) = Memᴰ.tail (Memᴰ.head (ap (λ x. x.spare) e))
spare_member (Memᴰ.tail m) = Memᴰ.tail (Memᴰ.tail (spare_member m))

rising_later : (ps : List Pair) → Rising ps → NoneTwice (flat_map both ps) → Ordered Later ps
unfolding flat_map
rising_later [] r n = tt
rising_later (p ∷ ps) r n = (
  λ q m. (r.0 q m, λ e. n.1.0 (rw e (spare_member m))),
  rising_later ps r.1 n.1.1,
)

-- ---- a pair, at the rank of its tree edge

module _ {g : Graph} (sound : Sound g) {tr : EdgeSet} {ranks : List ℕ} (lists : Lists g.edges tr ranks) where
  rank_place : (t : ℕ) → t < g.edges → tr t ≡ true → (rank_of ranks t < length ranks) × (get_or ranks (rank_of ranks t) 0 ≡ t)
  rank_place t b i =
      let r : ℕ = rank_of ranks t in
      let f : First (length ranks) (λ k. eqb (get_or ranks k 0) t) r = first_is (length ranks) (λ k. eqb (get_or ranks k 0) t) in
      elim (dec_lt r (length ranks)) [
        | yes l ↦ (l, eqb-true (get_or ranks r 0) t (f.hit l))
        | no l ↦ let (k, m, e) = lists.every t b i in
            clash (eq-eqb (get_or ranks k 0) t e) (f.before k (omega (arith, m)))
      ]

  module _ (tree : SpanningTree g tr) (c : ℕ → ℕ) where
    covers_rank_lem :
        (s t : ℕ) → s < g.edges → spare_of g tr s ≡ true → t < g.edges → tr t ≡ true
        → (covers_rank g (rooted g ranks) s (rank_of ranks t) ≡ true) ↔ Covers g tr s t
    covers_rank_lem s t b spare l i =
        let (k, e) = rank_place t l i in
        rw e at (covers_means sound lists tree s (rank_of ranks t) b (and_first (g.live s) _ spare) k)

    -- The judge's test of a pair.
    pair_means : (p : Pair) → (pair_holds g tr c ranks p ≡ true) ↔ (IsPair g tr p × (c p.spare < c p.tree))
    unfolding pair_holds
    pair_means p = (to, from)
      where
        t₁ : Bool
        t₁ = ltb p.tree g.edges

        t₂ : Bool
        t₂ = t₁ && tr p.tree

        t₃ : Bool
        t₃ = t₂ && ltb p.spare g.edges

        t₄ : Bool
        t₄ = t₃ && spare_of g tr p.spare

        t₅ : Bool
        t₅ = t₄ && covers_rank g (rooted g ranks) p.spare (rank_of ranks p.tree)

        to : pair_holds g tr c ranks p ≡ true → IsPair g tr p × (c p.spare < c p.tree)
        to h =
            let h₅ : t₅ ≡ true = and_first t₅ _ h in
            let h₄ : t₄ ≡ true = and_first t₄ _ h₅ in
            let h₃ : t₃ ≡ true = and_first t₃ _ h₄ in
            let h₂ : t₂ ≡ true = and_first t₂ _ h₃ in
            let tree_below : p.tree < g.edges = ltb-true _ _ (and_first t₁ _ h₂) in
            let tree_in : tr p.tree ≡ true = and_second t₁ _ h₂ in
            let spare_below : p.spare < g.edges = ltb-true _ _ (and_second t₂ _ h₃) in
            let spare_in : spare_of g tr p.spare ≡ true = and_second t₃ _ h₄ in (
              record {
                tree_below = tree_below;
                tree_in = tree_in;
                spare_below = spare_below;
                spare_in = spare_in;
                covers = (covers_rank_lem p.spare p.tree spare_below spare_in tree_below tree_in).0 (and_second t₄ _ h₅);
              },
              ltb-true _ _ (and_second t₅ _ h),
            )

        from : IsPair g tr p × (c p.spare < c p.tree) → pair_holds g tr c ranks p ≡ true
        from (i, l) =
            and_both t₅ _
            (and_both t₄ _ (and_both t₃ _ (and_both t₂ _ (and_both t₁ _ (lt-ltb _ _ i.tree_below) i.tree_in) (lt-ltb _ _ i.spare_below)) i.spare_in)
            ((covers_rank_lem p.spare p.tree i.spare_below i.spare_in i.tree_below i.tree_in).1 i.covers))
            (lt-ltb _ _ l)

    pairs_mean :
        (ps : List Pair) →
        (all_below (length ps) (λ i. pair_holds g tr c ranks (get_or ps i no_pair)) ≡ true) ↔
        ((p : Pair) → Memᴰ p ps → IsPair g tr p × (c p.spare < c p.tree))
    pairs_mean ps = (
      λ h p m. let (i, l, e) = member_place no_pair m in rw (← e) ((pair_means (get_or ps i no_pair)).0 (all_at (length ps) _ h i l)),
      λ h. all_of (length ps) _ (λ i l. (pair_means (get_or ps i no_pair)).1 (h (get_or ps i no_pair) (get_d_member no_pair ps i l))),
    )

    -- ---- the whole answer

    weight_is : (ps : List Pair) → Falls c ps → weight c ps ≡ pos (pairs_weight c ps)
    weight_is ps f = falls_weight c ps f ∙ ap pos (sym (sum_over_lem (λ q. c q.tree - c q.spare) no_pair ps))

    pairing : (ps : List Pair) → ((p : Pair) → Memᴰ p ps → IsPair g tr p) → Ordered Later ps → Matching g tr ps
    pairing ps is o =
        record {
          pairs = is;
          apart = rising_apart ps (later_rising ps o) kinds (later_one ps o);
        }
      where
        kinds : (p q : Pair) → Memᴰ p ps → Memᴰ q ps → p.tree ≢ q.spare
        kinds p q m n e =
            clash (rw e at (is p m).tree_in) (not-true (tr q.spare) (and_second (g.live q.spare) _ (is q n).spare_in))

    answer_means : (a : Answer) → (answer_holds g tr c ranks a ≡ true) ↔ Certificate g tr c a
    unfolding answer_holds
    answer_means a = (to, from)
      where
        t₁ : Bool
        t₁ = eqb a.steps (sum g.edges (λ e. gap (get_or a.costs e 0) (c e)))

        t₂ : Bool
        t₂ = t₁ && judge g tr (λ e. get_or a.costs e 0) ranks

        t₃ : Bool
        t₃ = t₂ && all_below (length a.pairs) (λ i. pair_holds g tr c ranks (get_or a.pairs i no_pair))

        t₄ : Bool
        t₄ = t₃ && pairs_rise a.pairs

        to : answer_holds g tr c ranks a ≡ true → Certificate g tr c a
        to h =
            let h₄ : t₄ ≡ true = and_first t₄ _ h in
            let h₃ : t₃ ≡ true = and_first t₃ _ h₄ in
            let h₂ : t₂ ≡ true = and_first t₂ _ h₃ in
            let pairs : ((p : Pair) → Memᴰ p a.pairs → IsPair g tr p × (c p.spare < c p.tree)) = (pairs_mean a.pairs).0 (and_second t₂ _ h₃) in
            let order : Ordered Later a.pairs = (rise_means a.pairs).0 (and_second t₃ _ h₄) in
            record {
              steps = eqb-true _ _ (and_first t₁ _ h₂) ∙ gap_deviation g c (λ e. get_or a.costs e 0);
              minimum = (judge_means sound lists tree (λ e. get_or a.costs e 0)).0 (and_second t₁ _ h₂);
              matching = pairing a.pairs (λ p m. (pairs p m).0) order;
              rising = later_rising a.pairs order;
              falls = λ p m. (pairs p m).1;
              weighs = weight_is a.pairs (λ p m. (pairs p m).1) ∙ ap pos (eqb-true _ _ (and_second t₄ _ h));
            }

        from : Certificate g tr c a → answer_holds g tr c ranks a ≡ true
        from k =
            let weighs : pairs_weight c a.pairs ≡ a.steps = cc (weight_is a.pairs k.falls) in
            and_both t₄ _
            (and_both t₃ _
            (and_both t₂ _
            (and_both t₁ _ (eq-eqb _ _ (k.steps ∙ sym (gap_deviation g c (λ e. get_or a.costs e 0))))
            ((judge_means sound lists tree (λ e. get_or a.costs e 0)).1 k.minimum))
            ((pairs_mean a.pairs).1 (λ p m. (k.matching.pairs p m, k.falls p m))))
            ((rise_means a.pairs).1 (rising_later a.pairs k.rising k.matching.apart)))
            (eq-eqb _ _ weighs)

-- ---- the judges

module _ (j : Job) (accepted : Accepted j) where
  -- The judge of trees says yes exactly if the marked tree is cheapest by the old costs.
  pub tree_judged : (judge_tree j ≡ true) ↔ Minimum (graph_of j) (tree_of j) (λ e. pos (cost_of j e))
  tree_judged = judge_means accepted.sound (tree_lists (graph_of j) (tree_of j) (cost_of j)) accepted.tree (cost_of j)

  -- The judge of answers, of the contents of a frame.
  pub content_judged : (a : Answer) → (judge_read j (some a) ≡ true) ↔ Certificate (graph_of j) (tree_of j) (cost_of j) a
  unfolding judge_read
  content_judged a = answer_means accepted.sound (tree_lists (graph_of j) (tree_of j) (cost_of j)) accepted.tree (cost_of j) a

  -- It says yes exactly to the frames that are certified.
  pub certified_judged : {s : List ℕ} {a : Answer} → Certified j s a → judge_answer j s ≡ true
  certified_judged {a = a} k = rw (layout_read k.layout) ((content_judged a).1 k.certificate)

  pub answer_judged : (s : List ℕ) → Bytes s → (judge_answer j s ≡ true) ↔ ((a : Answer) × Certified j s a)
  unfolding judge_read
  answer_judged s h = (of (read_answer (length j.links) s) refl, λ r. certified_judged r.1)
    where
      of : (o : Option Answer) → read_answer (length j.links) s ≡ o → judge_read j o ≡ true → (a : Answer) × Certified j s a
      of none e y = clash y refl
      of (some a) e y = (a, record { layout = (read_means (length j.links) s a h).0 e; certificate = (content_judged a).0 y })
