-- The matching of the model is valid, and costs exist that are slack with it: it is a best one. Its running weight is what
-- its pairs add up to, at the start and after each chain. It has no more slots than tree ranks had their turn. Assumes nothing.
use Rattle.std.specs.Prelude.{ℕ, zero, suc, ◌≤◌, ◌<◌, ◌≡◌, refl, ◌⊎◌, Bool, true, false, pos}
use Rattle.std.proofs.Common.{arith, ap, sym, inl, inr, le-ltb}
use Rattle.loops.specs.TestLaws.{clash, choose_both}
use Rattle.loops.specs.PutLaws.{put_split}
use Rattle.loops.specs.SumLaws.{sum_zero}
use Rattle.optimum.specs.Search.{Problem, Mates, mates_below, mates_in, Search, search, Progress, cheapest_of, goal_of, worth}
use Rattle.optimum.specs.Search.{turned, given_up, augment_by, augment, unmatched, built, matching}
use Rattle.optimum.specs.Slackness.{Ranked, Valid, RankCosts, Slack, Unmatched, pair_weight, rank_weight}
use Rattle.graph.specs.Integers.{pos_le}
use Rattle.optimum.proofs.Matched.{Matched, matched_view}
use Rattle.optimum.proofs.Invariant.{Pairs, pairs_valid, Done}
use Rattle.optimum.proofs.SlotLaws.{HeldSlots}
use Rattle.optimum.proofs.SearchLaws.{search_closed}
use Rattle.optimum.proofs.Augment.{Invariant, augment_keeps}

first_invariant : (p : Problem) → Invariant p 0 unmatched p.spare_cost
unfolding pair_weight mates_below
first_invariant p =
    record {
      pairs =
          record {
            below = λ s t l e. absurd (omega arith);
            covers = λ s t l e. absurd (omega arith);
            falls = λ s t l e. absurd (omega arith);
            once = λ s s' t l l' e e'. absurd (omega arith);
            feasible = λ s s' t l l' e c. absurd (omega arith);
            above = λ s l. omega arith;
            free = λ s l e. refl;
            under = λ s t l e. absurd (omega arith);
          };
      weighs = sym (sum_zero p.spares (λ s. pair_weight p s 0) (λ s l. refl));
      done = λ t l. absurd (omega arith);
      held = record { distinct = λ k k' a b e. absurd (omega arith); ranks = λ k a. absurd (omega arith) };
      high = λ k t a h b c. absurd (omega arith);
    }

-- The invariant holds at the start and after every tree rank, and so after every chain.
kept : (p : Problem) → Ranked p → (t : ℕ) → t ≤ p.trees → (d : ℕ → ℕ) × Invariant p t (built p t) d
unfolding built
kept p r zero l = (p.spare_cost, first_invariant p)
kept p r (suc t) l =
    let (d, inv) = kept p r t (omega arith) in
    augment_keeps p r t (omega arith) (built p t) d inv

module _ (p : Problem) (r : Ranked p) (t : ℕ) (l : t ≤ p.trees) where
  -- The running weight is the matching's, added up afresh.
  pub weight_kept : (built p t).weight ≡ rank_weight p (mates_in (built p t).pairs)
  weight_kept = (kept p r t l).1.weighs

  pub built_held : HeldSlots p (built p t).pairs
  built_held = (kept p r t l).1.held

  pub built_valid : Valid p (mates_in (built p t).pairs)
  built_valid = pairs_valid (kept p r t l).1.pairs l

-- Of any problem: a tree rank adds one slot at most, and none but the slots there are is live.
one_more :
    (P : Progress → Type 0) (p : Problem) (t : ℕ) (pr : Progress) → ((goal : ℕ) (st : Search) → P (turned p t pr goal st))
    → ((ends : ℕ → Bool) → P (given_up pr (search p pr.pairs ends pr.live t))) → P pr → P (augment p t pr)
unfolding augment
one_more P p t pr met failed same =
    let cheapest : ℕ = cheapest_of p (mates_in pr.pairs) in
    let st : Search = search p pr.pairs (λ x. p.covers x cheapest) pr.live t in
    let goal : ℕ = goal_of p (mates_in pr.pairs) st.seen in
    choose_both P (worth p t cheapest) (λ _. augment_by p t pr st) (λ _. pr)
    (λ _.
    choose_both P (worth p t goal) (λ _. turned p t pr goal st) (λ _. given_up pr st)
    (λ _. met goal st) (λ _. failed (λ x. p.covers x cheapest)))
    (λ _. same)

pub built_few : (p : Problem) (t : ℕ) → (built p t).pairs.slots ≤ t
unfolding built
built_few p zero = omega arith
built_few p (suc t) =
    let before = built_few p t in
    one_more (λ pr. pr.pairs.slots ≤ suc t) p t (built p t) (λ goal st. omega arith) (λ ends. omega arith) (omega arith)

pub built_live : (p : Problem) (t k : ℕ) → (built p t).live k ≡ true → k < (built p t).pairs.slots
unfolding built
built_live p zero k h = clash h refl
built_live p (suc t) k h =
    let pr : Progress = built p t in
    one_more (λ next. next.live k ≡ true → k < next.pairs.slots) p t pr
    (λ goal st i. elim (put_split pr.live pr.pairs.slots k i) [
      | inl e ↦ omega arith
      | inr e ↦ omega (arith, built_live p t k e)
    ])
    (λ ends i. built_live p t k ((search_closed p pr.pairs ends pr.live t).falls k i))
    (built_live p t k)
    h

-- A matched tree rank costs as much as its mate; an unmatched one keeps its cost.
abbrev tree_cost_lem : (p : Problem) (mates : Mates) (d : ℕ → ℕ) (t : ℕ) → Matched p mates t ⊎ Unmatched p mates t → ℕ
tree_cost_lem p mates d t (inl m) = d m.0
tree_cost_lem p mates d t (inr u) = p.tree_cost t

abbrev rank_costs : Problem → Mates → (ℕ → ℕ) → RankCosts
rank_costs p mates d = record { tree = λ t. pos (tree_cost_lem p mates d t (matched_view p mates t)); spare = λ s. pos (d s) }

module _ (p : Problem) (mates : Mates) (d : ℕ → ℕ) (g : Pairs p p.trees mates d) (done : (t : ℕ) → t < p.trees → Done p mates d t) where
  pairs_slack : Slack p mates (rank_costs p mates d)
  pairs_slack =
      record {
        feasible = λ t s k l c. pos_le (feasible t s k l c (matched_view p mates t));
        tight = λ s t l e. ap pos (tight s t l e (matched_view p mates t));
        above = λ s l. pos_le (g.above s l);
        below = λ t k. pos_le (below t k (matched_view p mates t));
        spare_free = λ s l e. ap pos (g.free s l e);
        tree_free = λ t k u. ap pos (free t k u (matched_view p mates t));
      }
    where
      covered : (t s : ℕ) → s < p.spares → p.covers t s ≡ true → Unmatched p mates t → Done p mates d t → p.tree_cost t ≤ d s
      covered t s l c u (inl m) = absurd (u m.0 m.1 m.2)
      covered t s l c u (inr f) = f s l c

      feasible : (t s : ℕ) → t < p.trees → s < p.spares → p.covers t s ≡ true → (w : Matched p mates t ⊎ Unmatched p mates t)
          → tree_cost_lem p mates d t w ≤ d s
      feasible t s k l c (inl m) = g.feasible m.0 s t m.1 l m.2 c
      feasible t s k l c (inr u) = covered t s l c u (done t k)

      tight : (s t : ℕ) → s < p.spares → mates s ≡ suc t → (w : Matched p mates t ⊎ Unmatched p mates t) → tree_cost_lem p mates d t w ≡ d s
      tight s t l e (inl m) = ap d (g.once m.0 s t m.1 l m.2 e)
      tight s t l e (inr u) = absurd (u s l e)

      below : (t : ℕ) → t < p.trees → (w : Matched p mates t ⊎ Unmatched p mates t) → tree_cost_lem p mates d t w ≤ p.tree_cost t
      below t k (inl m) = g.under m.0 t m.1 m.2
      below t k (inr u) = omega arith

      free : (t : ℕ) → t < p.trees → Unmatched p mates t → (w : Matched p mates t ⊎ Unmatched p mates t) → tree_cost_lem p mates d t w ≡ p.tree_cost t
      free t k u (inl m) = absurd (u m.0 m.1 m.2)
      free t k u (inr _) = refl

pub matching_slack : (p : Problem) → Ranked p → (d : RankCosts) × Slack p (mates_in (matching p)) d
matching_slack p r =
    let (d, inv) = kept p r p.trees (omega arith) in
    (rank_costs p (mates_in (matching p)) d, pairs_slack p (mates_in (matching p)) d inv.pairs inv.done)

-- Without a non-tree rank nothing is matched.
unworthy : (p : Problem) → p.spares ≡ 0 → (t goal : ℕ) → worth p t goal ≡ false
unworthy p e t goal = rw (e, le-ltb goal 0 (omega arith))

pub nothing_built : (p : Problem) → p.spares ≡ 0 → (t : ℕ) → built p t ≡ unmatched
unfolding built augment
nothing_built p e zero = refl
nothing_built p e (suc t) = rw (nothing_built p e t, unworthy p e t (cheapest_of p (mates_in unmatched.pairs)))
