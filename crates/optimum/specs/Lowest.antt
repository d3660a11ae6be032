-- The model of the lowest costs of a matching: every pair gets the old cost of the dearest edge from which an
-- alternating path leads to it; what is unmatched keeps its own. Definitions only. Assumes nothing.
use Rattle.std.specs.Prelude.{ℕ, zero, suc, ◌+◌, Bool, false, cond, not, ◌&&◌, leb, ltb}
use Rattle.loops.specs.Below.{choose}
use Rattle.loops.specs.Loop.{put}
use Rattle.optimum.specs.Search.{Problem, Slots, tree_slot, spare_slot, Search, never, search}

-- The slots that have no label yet, and the labels of the others.
pub record Marks : Type 0 where
  pub live : ℕ → Bool
  pub label : ℕ → ℕ

-- What an exploration has newly visited gets the label x.
abbrev pub marked : ℕ → Search → Marks → Marks
marked x st l = record { live = st.live; label = λ k. cond (l.live k && not (st.live k)) x (l.label k) }

-- An unmatched tree rank labels, with its old cost, what alternating paths reach from it.
unfoldable pub label_tree : Problem → Slots → ℕ → Marks → Marks
label_tree p q t l =
    choose (ltb (tree_slot q t) q.slots) (λ _. l) λ _.
    marked (p.tree_cost t) (search p q never l.live t) l

-- So does the non-tree rank of a slot.
unfoldable pub label_slot : Problem → Slots → ℕ → ℕ → Marks → Marks
label_slot p q s k l =
    choose (ltb k q.slots && l.live k)
    (λ _. marked (p.spare_cost s) (search p q never (put l.live k false) (q.tree_of k)) l)
    (λ _. l)

-- All of them in turn, by falling cost: tree ranks from t up, non-tree ranks below s down; of equal costs the tree rank first.
unfoldable pub label_from : Problem → Slots → ℕ → ℕ → ℕ → Marks → Marks
label_from p q zero t s l = l
label_from p q (suc turns) t zero l = label_from p q turns (suc t) zero (label_tree p q t l)
label_from p q (suc turns) t (suc s) l =
    choose (ltb t p.trees && leb (p.spare_cost s) (p.tree_cost t))
    (λ _. label_from p q turns (suc t) (suc s) (label_tree p q t l))
    (λ _. label_from p q turns t s (label_slot p q s (spare_slot q s) l))

-- At the start no slot has a label; at the end every slot has one.
abbrev pub unlabelled : Slots → Marks
unlabelled q = record { live = λ k. ltb k q.slots; label = λ _. 0 }

abbrev pub slot_marks : Problem → Slots → Marks
slot_marks p q = label_from p q (p.trees + p.spares) 0 p.spares (unlabelled q)
