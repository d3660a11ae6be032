-- Matching, labels and places over the arrays of a problem: what each step asks is there, and in the end they hold the model's
-- answer to the problem. Assumes nothing.
use Rattle.std.specs.Prelude.{ℕ, ◌≤◌, ◌<◌, ◌≡◌, refl, List, length, get_or, replicate}
use Rattle.std.proofs.Common.{arith, sym, ap, subst, ◌∙◌}
use Rattle.loops.specs.Loop.{gather}
use Rattle.optimum.specs.Optimum.{Pair}
use Rattle.optimum.specs.Search.{Problem, built, matching}
use Rattle.optimum.specs.Lowest.{slot_marks}
use Rattle.optimum.specs.Solve.{new_costs, partners, pair_at}
use Rattle.links.specs.ColumnLaws.{zero_at}
use Rattle.matching.specs.Tables.{tables, HoldsPairs, HoldsProgress}
use Rattle.matching.specs.Build.{Buildable, Built}
use Rattle.labels.specs.Labels.{Labellable, Labelled}
use Rattle.solution.specs.Asked.{slot_pairs, SlotsNamed}
use Rattle.solution.specs.PlaceLaws.{new_costs_same, partners_same}
use Rattle.answer.specs.Contents.{mate_pairs, PairsListed}
use Rattle.solve.specs.Solving.{pair_list, Solvable, Rooms, SettledAs}

module _ {p : Problem} {trees edges spares : ℕ} {cost ts ss cols : List ℕ} (v : Solvable p trees edges spares cost ts ss cols) where
  pub buildable :
      {slot pairs : List ℕ} → Rooms cost cols slot pairs
      → Buildable trees spares ts ss (tables cols (replicate 66 0) (replicate 128 0) pairs slot)
  buildable r =
      record {
        few_trees = v.few_trees;
        few_spares = v.few_spares;
        tree_edges_lem = v.tree_edges_lem;
        spare_edges = v.spare_edges;
        cols_length = r.col_places;
        spare_length = r.pair_places;
        slot_length = r.slot_places;
        some = v.holds.some;
        no_rows = refl;
        no_partners = refl;
      }

  module _ {slots low live weight : ℕ} {cols₁ words₁ links₁ spare₁ slot₁ : List ℕ}
      (b : Built trees spares cost ts ss cols slots low live weight (tables cols₁ words₁ links₁ spare₁ slot₁)) where
    pub labellable : Labellable trees spares slots cost ts ss cols₁ slot₁ words₁ links₁ (replicate 64 0)
    labellable =
        record {
          few_trees = v.few_trees;
          few_slots = omega (arith, b.few, v.few_trees);
          tree_edges_lem = v.tree_edges_lem;
          below_top = v.small_costs;
          spares_read =
              record {
                few = v.few_spares;
                edges = v.spare_edges;
                slots = λ s l e. omega (arith, b.placed s l e, b.few, v.few_trees);
              };
          room =
              record {
                words_length = b.sized.words_length;
                links_length = b.sized.links_length;
                label_length = refl;
                partners = b.sized.partners;
              };
          unlabelled = zero_at 64;
        }

    progress : HoldsProgress p (built p p.trees) cols slots low live weight (tables cols₁ words₁ links₁ spare₁ slot₁)
    progress = b.holds p v.ranked v.holds

    pairs : HoldsPairs p (matching p) cols (tables cols₁ words₁ links₁ spare₁ slot₁)
    pairs = progress.pairs

    module _ {words₂ links₂ label : List ℕ} (l : Labelled trees spares slots cost ts ss cols₁ slot₁ words₁ links₁ words₂ links₂ label) where
      slot_below : (k : ℕ) → k < slots → k < (matching p).slots
      slot_below k a = omega (arith, progress.slots_are)

      tree_at_lem : (k : ℕ) → k < slots → get_or links₂ k 0 ≡ (matching p).tree_of k
      tree_at_lem k a = l.kept.partners k (omega (arith, b.few, v.few_trees)) ∙ pairs.own k (slot_below k a)

      spare_at : (k : ℕ) → k < slots → get_or spare₁ k 0 ≡ (matching p).spare_of k
      spare_at k a = pairs.spares k (slot_below k a)

      pub slots_named : SlotsNamed slots ts ss links₂ spare₁
      slots_named =
          let tree : (k : ℕ) → k < slots → get_or links₂ k 0 < trees =
          λ k a. omega (arith, tree_at_lem k a, pairs.below k (slot_below k a), v.holds.trees_are) in
          let spare : (k : ℕ) → k < slots → get_or spare₁ k 0 < spares =
          λ k a. omega (arith, spare_at k a, pairs.ranks k (slot_below k a), v.holds.spares_are) in
          record {
            few = omega (arith, b.few, v.few_trees);
            tree_ranks_lem = λ k a. omega (arith, tree k a, v.few_trees);
            spare_ranks = λ k a. omega (arith, spare k a, v.few_spares);
            tree_edges_lem = λ k a. v.tree_edges_lem (get_or links₂ k 0) (tree k a);
            spare_edges = λ k a. v.spare_edges (get_or spare₁ k 0) (spare k a);
          }

      -- The mates and the new costs that the places give.
      module _ (mate : List ℕ) (mated : ◌≡◌ {A = ℕ → ℕ} (λ e. get_or mate e 0) (partners ts ss (slot_pairs slots links₂ spare₁))) where
        mate_pairs_lem : mate_pairs edges mate ≡ pair_list p edges ts ss
        mate_pairs_lem =
            ap (λ (f : ℕ → ℕ). gather edges (λ e. pair_at e (f e)))
            (mated
            ∙ partners_same ts ss ts ss (slot_pairs slots links₂ spare₁) (matching p) (sym progress.slots_are)
            (λ k a. ap (λ (t : ℕ). get_or ts t 0) (tree_at_lem k a)) (λ k a. ap (λ (s : ℕ). get_or ss s 0) (spare_at k a)))

        pub few_listed : length (mate_pairs edges mate) ≤ 64
        few_listed = omega (arith, ap length mate_pairs_lem, v.few_pairs)

        pub settled :
            (cost₂ : List ℕ)
            → ◌≡◌ {A = ℕ → ℕ} (λ e. get_or cost₂ e 0)
            (new_costs (λ e. get_or cost e 0) ts ss (slot_pairs slots links₂ spare₁) (λ k. get_or label k 0))
            → (count : ℕ) (ps : List ℕ) → PairsListed (mate_pairs edges mate) count ps → SettledAs p edges cost ts ss weight cost₂ count ps
        settled cost₂ placed count ps listed =
            record {
              steps_are = sym progress.weighs;
              costs_are =
                  placed
                  ∙ new_costs_same ts ss ts ss (slot_pairs slots links₂ spare₁) (matching p) (sym progress.slots_are)
                  (λ k a. ap (λ (t : ℕ). get_or ts t 0) (tree_at_lem k a)) (λ k a. ap (λ (s : ℕ). get_or ss s 0) (spare_at k a))
                  (λ e. get_or cost e 0) (λ k. get_or label k 0) (slot_marks p (matching p)).label
                  (λ k a. l.labels p (matching p) cols spare₁ v.ranked v.holds pairs progress.slots_are k);
              listed = subst (λ (xs : List Pair). PairsListed xs count ps) mate_pairs_lem listed;
            }

    pub small_weight : weight < 4294967296
    small_weight = omega (arith, progress.weighs, v.small_steps)
