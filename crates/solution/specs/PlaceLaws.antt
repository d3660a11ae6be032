-- The loop from slots to edges: a turn puts a label at two edges and a mate at one. Only what the slots name counts.
-- Assumes nothing.
use Rattle.std.specs.Prelude.{ℕ, suc, ◌+◌, ◌-◌, ◌≤◌, ◌<◌, ◌≡◌, List, length, get_or, set, replicate}
use Rattle.std.proofs.Math.Decide.{dec_lt}
use Rattle.std.proofs.Common.{add-one, arith, sym, ap, ◌∙◌, length-set}
use Rattle.std.proofs.Math.Path.{fun_ext}
use Rattle.std.proofs.lemmas.List.{length-replicate, get_or-replicate}
use Rattle.std.proofs.Math.ListN.{get_or-eq_default}
use Rattle.loops.specs.Loop.{scan, put}
use Rattle.loops.specs.PutLaws.{set_put}
use Rattle.loops.specs.ScanLaws.{scan_start, scan_turn, scan_end, scan_same}
use Rattle.optimum.specs.Search.{Slots}
use Rattle.optimum.specs.Solve.{new_costs, partners}
use Rattle.solution.specs.Asked.{slot_pairs, SlotsNamed}

-- A list of zeros, as a function.

zeros_at : (n : ℕ) → ◌≡◌ {A = ℕ → ℕ} (λ e. get_or (replicate n 0) e 0) (λ _. 0)
zeros_at n =
    fun_ext λ e. elim (dec_lt e n) [
      | yes l ↦ get_or-replicate n e 0 0 l
      | no h ↦ get_or-eq_default (replicate n 0) 0 {n = e} (omega (arith, length-replicate {A = ℕ} n 0))
    ]

module _ (slots : ℕ) (ts ss links spare label : List ℕ) where
  -- What the model makes of f from slot k on.
  abbrev pub placed_from : ℕ → (ℕ → ℕ) → ℕ → ℕ
  placed_from k f =
      scan (λ k f. put (put f (get_or ts (get_or links k 0) 0) (get_or label k 0)) (get_or ss (get_or spare k 0) 0)
      (get_or label k 0)) (slots - k) k f

  abbrev pub partners_from : ℕ → (ℕ → ℕ) → ℕ → ℕ
  partners_from k f = scan (λ k f. put f (get_or ts (get_or links k 0) 0) (suc (get_or ss (get_or spare k 0) 0))) (slots - k) k f

  pub costs_start : (f : ℕ → ℕ) → placed_from 0 f ≡ new_costs f ts ss (slot_pairs slots links spare) (λ k. get_or label k 0)
  costs_start f = scan_start _ slots f

  pub partners_start : (mate : List ℕ) → mate ≡ replicate 256 0 → partners_from 0 (λ e. get_or mate e 0)
      ≡ partners ts ss (slot_pairs slots links spare)
  partners_start mate h = ap (partners_from 0) (ap (λ l e. get_or l e 0) h ∙ zeros_at 256) ∙ scan_start _ slots (λ _. 0)

  module _ (k : ℕ) where
    pub costs_end : (f : ℕ → ℕ) → slots ≤ k → placed_from k f ≡ f
    costs_end f l = scan_end _ slots k f l

    pub partners_end : (f : ℕ → ℕ) → slots ≤ k → partners_from k f ≡ f
    partners_end f l = scan_end _ slots k f l

    module _ (named : SlotsNamed slots ts ss links spare) (l : k < slots) where
      abbrev a : ℕ
      a = get_or ts (get_or links k 0) 0

      abbrev b : ℕ
      b = get_or ss (get_or spare k 0) 0

      pub costs_turn :
          (costs : List ℕ) → length costs ≡ 256
          → placed_from k (λ e. get_or costs e 0) ≡ placed_from (k + 1)
          (λ e. get_or (set (set costs a (get_or label k 0)) b (get_or label k 0)) e 0)
      costs_turn costs s =
          scan_turn _ slots k (λ e. get_or costs e 0) l
          ∙ ap (placed_from (k + 1)) (sym (set_put (set costs a (get_or label k 0)) b (get_or label k 0)
          (omega (arith, named.spare_edges k l, length-set costs a (get_or label k 0)))
          ∙ ap (λ (f : ℕ → ℕ). put f b (get_or label k 0))
          (set_put costs a (get_or label k 0) (omega (arith, named.tree_edges_lem k l)))))

      pub partners_turn :
          (mate : List ℕ) → length mate ≡ 256 → partners_from k (λ e. get_or mate e 0)
          ≡ partners_from (k + 1) (λ e. get_or (set mate a (b + 1)) e 0)
      partners_turn mate s =
          scan_turn _ slots k (λ e. get_or mate e 0) l
          ∙ ap (partners_from (k + 1)) (sym
          (set_put mate a (b + 1) (omega (arith, named.tree_edges_lem k l)) ∙ ap (put (λ e. get_or mate e 0) a) (add-one b)))

-- Only what the slots name counts.
module _
    (ts ss ts' ss' : List ℕ)
    (q q' : Slots)
    (slots : q.slots ≡ q'.slots)
    (trees : (k : ℕ) → k < q.slots → get_or ts (q.tree_of k) 0 ≡ get_or ts' (q'.tree_of k) 0)
    (spares : (k : ℕ) → k < q.slots → get_or ss (q.spare_of k) 0 ≡ get_or ss' (q'.spare_of k) 0)
  where
    pub new_costs_same :
        (c label label' : ℕ → ℕ) → ((k : ℕ) → k < q.slots → label k ≡ label' k) → new_costs c ts ss q label
        ≡ new_costs c ts' ss' q' label'
    new_costs_same c label label' labels =
        scan_same (λ k f. put (put f (get_or ts (q.tree_of k) 0) (label k)) (get_or ss (q.spare_of k) 0) (label k))
        (λ k f. put (put f (get_or ts' (q'.tree_of k) 0) (label' k)) (get_or ss' (q'.spare_of k) 0) (label' k)) q.slots 0 c
        (λ k f _ l. rw (trees k (omega arith), spares k (omega arith), labels k (omega arith)))
        ∙ ap (λ (n : ℕ). scan (λ k f. put (put f (get_or ts' (q'.tree_of k) 0) (label' k)) (get_or ss' (q'.spare_of k) 0)
        (label' k)) n 0 c) slots

    pub partners_same : partners ts ss q ≡ partners ts' ss' q'
    partners_same =
        scan_same (λ k f. put f (get_or ts (q.tree_of k) 0) (suc (get_or ss (q.spare_of k) 0)))
        (λ k f. put f (get_or ts' (q'.tree_of k) 0) (suc (get_or ss' (q'.spare_of k) 0))) q.slots 0 (λ _. 0)
        (λ k f _ l. rw (trees k (omega arith), spares k (omega arith)))
        ∙ ap (λ (n : ℕ). scan (λ k f. put f (get_or ts' (q'.tree_of k) 0) (suc (get_or ss' (q'.spare_of k) 0))) n 0
        (λ _. 0)) slots
