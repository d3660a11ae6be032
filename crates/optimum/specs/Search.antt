-- The model of the matching, over any relation between tree ranks and non-tree ranks: the exploration that follows
-- alternating paths over the pairs so far and keeps the way back, and the matching built one tree rank at a time.
-- Definitions only. Assumes nothing.
use Rattle.std.specs.Prelude.{ℕ, zero, suc, ◌+◌, ◌-◌, Bool, true, false, ◌&&◌, ltb, eqb}
use Rattle.loops.specs.Below.{choose}
use Rattle.loops.specs.Loop.{put, first, last}

-- Tree edges and non-tree edges by rank: how many, the relation to match in, and their old costs. In the answer's problem
-- (Solve.antt) `covers t s` says that non-tree rank s covers tree rank t and costs less. Tree ranks go by falling, non-tree
-- ranks by rising cost.
pub record Problem : Type 0 where
  pub trees : ℕ
  pub spares : ℕ
  pub covers : ℕ → ℕ → Bool
  pub tree_cost : ℕ → ℕ
  pub spare_cost : ℕ → ℕ

-- Which tree rank each non-tree rank is matched to: suc t for t, 0 for none.
abbrev pub Mates : Type 0
Mates = ℕ → ℕ

-- The matching as a list of pairs: a pair gets its slot when its non-tree rank is first matched, and keeps it.
pub record Slots : Type 0 where
  pub slots : ℕ
  pub spare_of : ℕ → ℕ
  pub tree_of : ℕ → ℕ

unfoldable pub mates_below : ℕ → (ℕ → ℕ) → (ℕ → ℕ) → Mates
mates_below zero spare_of tree_of = λ _. 0
mates_below (suc n) spare_of tree_of = put (mates_below n spare_of tree_of) (spare_of n) (suc (tree_of n))

abbrev pub mates_in : Slots → Mates
mates_in q = mates_below q.slots q.spare_of q.tree_of

-- The slot of a tree rank, and of a non-tree rank; none if it is unmatched.
abbrev pub tree_slot : Slots → ℕ → ℕ
tree_slot q t = first q.slots (λ k. eqb (q.tree_of k) t)

abbrev pub spare_slot : Slots → ℕ → ℕ
spare_slot q s = first q.slots (λ k. eqb (q.spare_of k) s)

-- The state of an exploration: the slots that it may still follow; the tree ranks visited; the tree rank from which, and
-- the slot by which, each was reached.
pub record Search : Type 0 where
  pub live : ℕ → Bool
  pub seen : ℕ → Bool
  pub from : ℕ → ℕ
  pub by : ℕ → ℕ

-- Tree rank u reached from tree rank t by slot k.
abbrev pub reach : ℕ → ℕ → ℕ → Search → Search
reach t k u st = record { live = put st.live k false; seen = put st.seen u true; from = put st.from u t; by = put st.by u k }

-- No slot is followed any more.
abbrev pub halt : Search → Search
halt st = record { live = λ _. false; seen = st.seen; from = st.from; by = st.by }

-- Tree rank u, just reached: the exploration ends there, or goes on from it.
abbrev pub enter : (ℕ → Bool) → (ℕ → Search → Search) → ℕ → Search → Search
enter ends visit u st = choose (ends u) (λ _. halt st) (λ _. visit u st)

-- An exploration that nothing ends.
abbrev pub never : ℕ → Bool
never _ = false

-- What tree rank t tries next: the last live slot over it; none if there is none.
abbrev pub next_slot : Problem → Slots → ℕ → Search → ℕ
next_slot p q t st = last q.slots (λ k. p.covers t (q.spare_of k) && st.live k) q.slots

-- Tree rank t tries the live slots over it, one after the other: each leads to its own tree rank. At most `turns` slots
-- are live.
unfoldable pub try_tree : Problem → Slots → (ℕ → Bool) → ℕ → ℕ → Search → Search
try_tree p q ends zero t st = st
try_tree p q ends (suc turns) t st =
    let k : ℕ = next_slot p q t st in
    choose (ltb k q.slots)
    (λ _. try_tree p q ends turns t (enter ends (try_tree p q ends turns) (q.tree_of k) (reach t k (q.tree_of k) st)))
    (λ _. st)

-- Nothing but tree rank t visited.
abbrev pub begun : (ℕ → Bool) → ℕ → Search
begun live t = record { live = live; seen = put (λ _. false) t true; from = λ _. 0; by = λ _. 0 }

abbrev pub search : Problem → Slots → (ℕ → Bool) → (ℕ → Bool) → ℕ → Search
search p q ends live t = enter ends (try_tree p q ends q.slots) t (begun live t)

-- The way back: slot k is paired with tree rank v; the slot that v had, with the tree rank from which v was reached;
-- and so on, until v is the root.
unfoldable pub turn : Search → ℕ → ℕ → ℕ → ℕ → (ℕ → ℕ) → ℕ → ℕ
turn st root zero v k tree_of = put tree_of k v
turn st root (suc turns) v k tree_of =
    choose (eqb v root) (λ _. put tree_of k v) (λ _. turn st root turns (st.from v) (st.by v) (put tree_of k v))

-- The matching so far, its weight, and the slots that no failed exploration has visited: no later one needs the others.
pub record Progress : Type 0 where
  pub pairs : Slots
  pub weight : ℕ
  pub live : ℕ → Bool

-- The lowest unmatched non-tree rank.
abbrev pub cheapest_of : Problem → Mates → ℕ
cheapest_of p mates = first p.spares (λ s. eqb (mates s) 0)

-- The lowest of these tree ranks that non-tree rank s covers.
abbrev pub hit_of : Problem → (ℕ → Bool) → ℕ → ℕ
hit_of p trees s = first p.trees (λ t. trees t && p.covers t s)

-- The lowest unmatched rank that covers one of them.
abbrev pub goal_of : Problem → Mates → (ℕ → Bool) → ℕ
goal_of p mates trees = first p.spares (λ s. ltb (hit_of p trees s) p.trees && eqb (mates s) 0)

-- The goal is worth a search from tree rank t: there is one, and it costs less.
abbrev pub worth : Problem → ℕ → ℕ → Bool
worth p t goal = ltb goal p.spares && ltb (p.spare_cost goal) (p.tree_cost t)

-- The goal gets a slot, and the way from a tree rank under it back to t is turned. Whatever lies between, that adds t and
-- the goal to the matched ranks and takes none out: the weight is corrected by these two alone. The goal costs less than t,
-- so that nothing is cut off.
abbrev pub turned : Problem → ℕ → Progress → ℕ → Search → Progress
turned p t pr goal st =
    let n : ℕ = pr.pairs.slots in
    record {
      pairs =
          record {
            slots = suc n;
            spare_of = put pr.pairs.spare_of n goal;
            tree_of = turn st t n (hit_of p st.seen goal) n pr.pairs.tree_of;
          };
      weight = pr.weight + (p.tree_cost t - p.spare_cost goal);
      live = put pr.live n true;
    }

-- The exploration found nothing that gains: what it has visited is given up.
abbrev pub given_up : Progress → Search → Progress
given_up pr st = record { pairs = pr.pairs; weight = pr.weight; live = st.live }

-- What was explored from tree rank t: t is matched if the cheapest unmatched rank over it costs less; else all of it is
-- given up.
abbrev pub augment_by : Problem → ℕ → Progress → Search → Progress
augment_by p t pr st =
    let goal : ℕ = goal_of p (mates_in pr.pairs) st.seen in
    choose (worth p t goal)
    (λ _. turned p t pr goal st)
    (λ _. given_up pr st)

-- Tree rank t is matched if the cheapest unmatched non-tree edge that alternating paths lead to costs less than it. If the
-- cheapest of all costs too much, so do the others; if the exploration comes under it, it ends: no other is cheaper.
unfoldable pub augment : Problem → ℕ → Progress → Progress
augment p t pr =
    let cheapest : ℕ = cheapest_of p (mates_in pr.pairs) in
    choose (worth p t cheapest)
    (λ _. augment_by p t pr (search p pr.pairs (λ x. p.covers x cheapest) pr.live t))
    (λ _. pr)

-- Before the first tree rank: no pairs, and so no weight.
abbrev pub unmatched : Progress
unmatched = record { pairs = record { slots = 0; spare_of = λ _. 0; tree_of = λ _. 0 }; weight = 0; live = λ _. false }

-- What is there once the first t tree ranks have had their turn.
unfoldable pub built : Problem → ℕ → Progress
built p zero = unmatched
built p (suc t) = augment p t (built p t)

-- The matching: every tree rank in turn.
abbrev pub matching : Problem → Slots
matching p = (built p p.trees).pairs
