-- The model of question 6 and of the judge: tree paths from node 0, found node by node, and the test of every
-- non-tree edge against the tree edges that it covers. Definitions only. Assumes nothing.
use Rattle.std.specs.Prelude.{ℕ, zero, suc, Bool, true, false, cond, not, ◌&&◌, ◌||◌, List, leb, ltb, eqb, length, get_or}
use Rattle.std.specs.Bool.{xor}
use Rattle.loops.specs.Loop.{scan, put, first}
use Rattle.loops.specs.Below.{choose, all_below}
use Rattle.graph.specs.Graph.{Graph, EdgeSet, spare_of}

-- What has been found from node 0: how many nodes, which, and of each the ranks of the tree edges on its path to node 0.
pub record Rooted : Type 0 where
  pub found : ℕ
  pub reached : ℕ → Bool
  pub path : ℕ → ℕ → Bool

abbrev pub root : Rooted
root = record { found = 1; reached = put (λ _. false) 0 true; path = λ _ _. false }

-- Node v is reached from node u over the tree edge of rank k.
abbrev pub attach : ℕ → ℕ → ℕ → Rooted → Rooted
attach u v k st =
    record {
      found = suc st.found;
      reached = put st.reached v true;
      path = put st.path v (put (st.path u) k (not (st.path u k)));
    }

-- One tree edge tried: it reaches a node if just one of its ends has been reached.
unfoldable pub grow : Graph → List ℕ → ℕ → Rooted → Rooted
grow g ranks k st =
    let u : ℕ = g.end₁ (get_or ranks k 0) in
    let v : ℕ = g.end₂ (get_or ranks k 0) in
    cond (st.reached u) (cond (st.reached v) st (attach u v k st)) (cond (st.reached v) (attach v u k st) st)

-- Node v is an end of the tree edge of rank k.
abbrev pub touches : Graph → List ℕ → ℕ → ℕ → Bool
touches g ranks v k = eqb (g.end₁ (get_or ranks k 0)) v || eqb (g.end₂ (get_or ranks k 0)) v

-- The tree edge of rank k tried, if it is at node v.
abbrev pub try_at : Graph → List ℕ → ℕ → ℕ → Rooted → Rooted
try_at g ranks v k st = cond (touches g ranks v k) (grow g ranks k st) st

-- A node expanded: every tree edge at it tried, by rank.
abbrev pub expand : Graph → List ℕ → ℕ → Rooted → Rooted
expand g ranks v st = scan (try_at g ranks v) (length ranks) 0 st

-- Node v has been reached, but not expanded.
abbrev pub waits : (ℕ → Bool) → Rooted → ℕ → Bool
waits done st v = st.reached v && not (done v)

-- The lowest node that waits is expanded, until none waits, at most `rounds` times.
unfoldable pub expand_all : Graph → List ℕ → ℕ → (ℕ → Bool) → Rooted → Rooted
expand_all g ranks zero done st = st
expand_all g ranks (suc rounds) done st =
    let v : ℕ = first g.nodes (waits done st) in
    choose (ltb v g.nodes) (λ _. expand_all g ranks rounds (put done v true) (expand g ranks v st)) (λ _. st)

abbrev pub rooted : Graph → List ℕ → Rooted
rooted g ranks = expand_all g ranks g.nodes (λ _. false) root

-- Question 6: are there (nodes − 1) tree edges, and do they join all nodes?
abbrev pub is_tree : Graph → List ℕ → Bool
is_tree g ranks = eqb (suc (length ranks)) g.nodes && eqb (rooted g ranks).found g.nodes

-- Edge s covers the tree edge of rank k: just one of the paths from its ends to node 0 takes it.
abbrev pub covers_rank : Graph → Rooted → ℕ → ℕ → Bool
covers_rank g r s k = xor (r.path (g.end₁ s) k) (r.path (g.end₂ s) k)

-- The judge: every non-tree edge costs at least as much as every tree edge that it covers.
unfoldable pub judge : Graph → EdgeSet → (ℕ → ℕ) → List ℕ → Bool
judge g tr c ranks =
    all_below g.edges λ s.
    not (spare_of g tr s) ||
    all_below (length ranks) λ k. not (covers_rank g (rooted g ranks) s k) || leb (c (get_or ranks k 0)) (c s)
