-- Laws of a replay: logs joined, costs in range, how far a log moves costs; and the first number of packets after which the tree is
-- cheapest. Assumes nothing.
use Prim.Native.Nat.{ℕ, suc, ◌+◌, ◌≤◌, ◌<◌}
use Rattle.std.proofs.Common.{arith, ap, lt-ltb, le-ltb, ltb-true}
use Rattle.std.proofs.Math.Decide.{ℕ_discrete, dec_lt}
use Rattle.std.specs.Prelude.{◌≡◌, refl, ◌↔◌, Bool, true, false, cond, pos, nat_abs, ◌-ℤ◌, length, ltb}
use mathlib.Core.List.{List, [], ◌∷◌, ◌++◌, Memᴰ}
use Rattle.std.proofs.Math.Option.{Option, some, none}
use Rattle.limits.specs.Limits.{max_number}
use Rattle.loops.specs.Below.{sum}
use Rattle.loops.specs.Loop.{first}
use Rattle.loops.specs.PutLaws.{put_same, put_other}
use Rattle.loops.specs.SumLaws.{sum_same, sum_zero, sum_change}
use Rattle.loops.specs.FirstLaws.{First, first_is}
use Rattle.loops.specs.TestLaws.{clash, cond_both}
use Rattle.graph.specs.Graph.{Graph, EdgeSet, Minimum}
use Rattle.graph.specs.RankLaws.{tree_lists}
use Rattle.graph.proofs.Tree.{judge_means}
use Rattle.optimum.specs.Optimum.{deviation, Answer, Demanded}
use Rattle.optimum.specs.Distance.{distance_is}
use Rattle.frame.specs.Job.{Job, graph_of, tree_of, cost_of}
use Rattle.frame.specs.Meaning.{Accepted}
use Rattle.frame.specs.Answers.{gap}
use Rattle.sheet.specs.Sheet.{InRange}
use Rattle.replay.specs.Log.{Packet, stepped, heard, replayed, CheapestAfter, FirstCheapest}
use Rattle.replay.specs.Replaying.{judged_after, first_of}

-- ---- logs one behind the other

pub replayed_append : (qs rs : List Packet) (c : ℕ → ℕ) → replayed (qs ++ rs) c ≡ replayed rs (replayed qs c)
unfolding replayed
replayed_append [] rs c = refl
replayed_append (q ∷ qs) rs c = replayed_append qs rs (heard q c)

-- ---- costs stay in range

pub stepped_small : (up : Bool) (x : ℕ) → x ≤ max_number → stepped up x ≤ max_number
stepped_small true x l = cond_both (λ y. y ≤ max_number) _ (suc x) x (λ t. ltb-true x max_number t) (λ _. l)
stepped_small false x l = omega arith

pub heard_range : (m : ℕ) (q : Packet) (c : ℕ → ℕ) → q.edge < m → InRange m c → InRange m (heard q c)
heard_range m q c l h e k =
    elim (ℕ_discrete e q.edge) [
      | yes s ↦ rw (s, put_same c q.edge (stepped q.up (c q.edge))) (stepped_small q.up (c q.edge) (h q.edge l))
      | no d ↦ rw (put_other c q.edge (stepped q.up (c q.edge)) e d) (h e k)
    ]

pub replayed_range :
    (m : ℕ) (qs : List Packet) (c : ℕ → ℕ) → ((q : Packet) → Memᴰ q qs → q.edge < m) → InRange m c → InRange m (replayed qs c)
unfolding replayed
replayed_range m [] c inside h = h
replayed_range m (q ∷ qs) c inside h =
    replayed_range m qs (heard q c) (λ p l. inside p (Memᴰ.tail l)) (heard_range m q c (inside q (Memᴰ.head refl)) h)

-- ---- how far a log moves costs

-- How far costs are from others, in steps.
abbrev apart : Graph → (ℕ → ℕ) → (ℕ → ℕ) → ℕ
apart g c d = sum g.edges (λ e. gap (d e) (c e))

step_near : (up : Bool) (x y : ℕ) → gap (stepped up x) y ≤ suc (gap x y)
step_near true x y =
    elim (dec_lt x max_number) [
      | yes l ↦ rw (lt-ltb x max_number l) (omega arith)
      | no l ↦ rw (le-ltb x max_number (omega arith)) (omega arith)
    ]
step_near false x y = omega arith

heard_near : (g : Graph) (c d : ℕ → ℕ) (q : Packet) → apart g c (heard q d) ≤ suc (apart g c d)
heard_near g c d q =
    elim (dec_lt q.edge g.edges) [
      | yes l ↦
          let here : heard q d q.edge ≡ stepped q.up (d q.edge) = put_same d q.edge _ in
          let mine : gap (heard q d q.edge) (c q.edge) ≤ suc (gap (d q.edge) (c q.edge)) =
          rw here (step_near q.up (d q.edge) (c q.edge)) in
          omega (arith, mine, sum_change g.edges _ _ q.edge l (λ j k n. other j n))
      | no l ↦ omega (arith, sum_same g.edges _ _ (λ j k. other j (λ e. omega (arith, e))))
    ]
  where
    other : (j : ℕ) → (j ≡ q.edge → ⊥) → gap (heard q d j) (c j) ≡ gap (d j) (c j)
    other j n = ap (λ (x : ℕ). gap x (c j)) (put_other d q.edge _ j n)

replay_near : (g : Graph) (c d : ℕ → ℕ) (qs : List Packet) → apart g c (replayed qs d) ≤ length qs + apart g c d
unfolding replayed
replay_near g c d [] = omega arith
replay_near g c d (q ∷ qs) = omega (arith, replay_near g c (heard q d) qs, heard_near g c d q)

-- No log whose final costs make the tree cheapest is shorter than the steps that an answer as demanded names.
pub log_least :
    (g : Graph) (tr : EdgeSet) (c : ℕ → ℕ) (a : Answer) → Demanded g tr c a
    → (qs : List Packet) → Minimum g tr (λ e. pos (replayed qs c e)) → a.steps ≤ length qs
log_least g tr c a d qs cheapest =
    let same : deviation g c (λ e. pos (replayed qs c e)) ≡ apart g c (replayed qs c) =
    sum_same g.edges (λ e. nat_abs (pos (replayed qs c e) -ℤ pos (c e))) (λ e. gap (replayed qs c e) (c e))
    (λ e h. distance_is (pos (replayed qs c e)) (c e)) in
    let none : apart g c c ≡ 0 = sum_zero g.edges (λ e. gap (c e) (c e)) (λ e h. omega arith) in
    omega (arith, d.fewest _ cheapest, same, replay_near g c c qs, none)

-- ---- the first number of packets

module _ (j : Job) (a : Accepted j) (qs : List Packet) where
  pub judged_after_lem : (k : ℕ) → (judged_after j qs k ≡ true) ↔ CheapestAfter j qs k
  judged_after_lem k = judge_means a.sound (tree_lists (graph_of j) (tree_of j) (cost_of j)) a.tree _

  not_after : (k : ℕ) → judged_after j qs k ≡ false → CheapestAfter j qs k → ⊥
  not_after k miss m = clash ((judged_after_lem k).1 m) miss

  -- The number that the model finds is the least after which the tree is cheapest.
  pub first_cheapest : FirstCheapest j qs (first_of j qs)
  unfolding first_of
  first_cheapest = of (first most (judged_after j qs)) (first_is most (judged_after j qs))
    where
      most : ℕ
      most = suc (length qs)

      of : (k : ℕ) → First most (judged_after j qs) k → FirstCheapest j qs (cond (ltb k most) (some k) none)
      of k f =
          elim (dec_lt k most) [
            | yes l ↦
                rw (lt-ltb k most l)
                (FirstCheapest.after k (omega arith) ((judged_after_lem k).0 (f.hit l)) (λ i b. not_after i (f.before i b)))
            | no l ↦ rw (le-ltb k most (omega arith)) (FirstCheapest.never (λ i b. not_after i (f.before i (omega arith))))
          ]

-- There is one such number only.
pub first_cheapest_once : (j : Job) (qs : List Packet) (o p : Option ℕ) → FirstCheapest j qs o → FirstCheapest j qs p → o ≡ p
first_cheapest_once j qs o p (FirstCheapest.never n) (FirstCheapest.never n') = refl
first_cheapest_once j qs o p (FirstCheapest.after k l h before) (FirstCheapest.never n) = absurd (n k l h)
first_cheapest_once j qs o p (FirstCheapest.never n) (FirstCheapest.after k l h before) = absurd (n k l h)
first_cheapest_once j qs o p (FirstCheapest.after k l h before) (FirstCheapest.after k' l' h' before') =
    elim (dec_lt k k') [
      | yes b ↦ absurd (before' k b h)
      | no b ↦ elim (dec_lt k' k) [ yes d ↦ absurd (before k' d h') | no d ↦ let same : k ≡ k' = omega arith in ap some same ]
    ]
