-- Our own answers: they are judged yes, read back, and at most `answer_most` bytes long. Assumes nothing.
use Rattle.std.specs.Prelude.{ℕ, zero, suc, ◌<◌, ◌≤◌, ◌≡◌, refl, true, length, get_or}
use Rattle.std.proofs.Common.{arith}
use Rattle.std.proofs.Math.Decide.{dec_lt}
use mathlib.Core.List.{List, [], ◌∷◌, ◌++◌, flat_map, Memᴰ}
use Rattle.std.proofs.Math.Option.{some}
use Rattle.std.proofs.Math.ListN.{get_or-eq_default}
use Rattle.optimum.specs.Optimum.{Pair, both, Demanded}
use Rattle.optimum.proofs.Demand.{demand}
use Rattle.optimum.proofs.Range.{new_most, pairs_few, steps_few}
use Rattle.frame.specs.Job.{Job, graph_of, tree_of, cost_of}
use Rattle.limits.specs.Limits.{max_edges, max_number, answer_most}
use Rattle.frame.proofs.AnswerSize.{answer_most_lem}
use Rattle.frame.specs.Answers.{answer_of, read_answer, judge_answer}
use Rattle.frame.specs.Meaning.{Small, Accepted}
use Rattle.frame.proofs.Division.{small_cons}
use Rattle.frame.proofs.Accepted.{cost_small}
use Rattle.frame.specs.AnswerMeaning.{AnswerOf, Certified, answer_frame}
use Rattle.frame.proofs.AnswerLayout.{layout_read}
use Rattle.frame.proofs.AnswerJudge.{certified_judged}

small_append : (xs ys : List ℕ) → Small xs → Small ys → Small (xs ++ ys)
small_append [] ys h k = k
small_append (x ∷ xs) ys h k = small_cons x (xs ++ ys) (h 0) (small_append xs ys (λ i. h (suc i)) k)

small_places : (xs : List ℕ) → ((i : ℕ) → i < length xs → get_or xs i 0 ≤ max_number) → Small xs
small_places xs h i = elim (dec_lt i (length xs)) [ yes l ↦ h i l | no l ↦ omega (arith, get_or-eq_default xs 0 {n = i} (omega arith)) ]

-- No number of pairs is larger than their links' numbers.
both_most :
    (most : ℕ) (ps : List Pair) → ((p : Pair) → Memᴰ p ps → (p.tree ≤ most) × (p.spare ≤ most)) → (i : ℕ) → get_or (flat_map both ps) i 0 ≤ most
unfolding flat_map
both_most most [] h i = omega arith
both_most most (p ∷ ps) h zero = (h p (Memᴰ.head refl)).0
both_most most (p ∷ ps) h (suc zero) = (h p (Memᴰ.head refl)).1
both_most most (p ∷ ps) h (suc (suc i)) = both_most most ps (λ q m. h q (Memᴰ.tail m)) i

module _ (j : Job) (accepted : Accepted j) where
  -- The third demand holds of the answer to an accepted job.
  pub own : Demanded (graph_of j) (tree_of j) (cost_of j) (answer_of j)
  own = demand (graph_of j) accepted.sound (tree_of j) accepted.tree (cost_of j)

  few : length (answer_of j).pairs ≤ 63
  few = omega (arith, pairs_few own, accepted.tree.size, accepted.node_limit)

  paired : (i : ℕ) → get_or (flat_map both (answer_of j).pairs) i 0 ≤ max_edges
  paired =
      both_most max_edges (answer_of j).pairs λ p m.
      let is = own.matching.pairs p m in
      (omega (arith, is.tree_below, accepted.edge_limit), omega (arith, is.spare_below, accepted.edge_limit))

  -- The answer to an accepted job fits the layout.
  pub own_layout : AnswerOf (length j.links) (answer_frame (answer_of j)) (answer_of j)
  own_layout =
      record {
        joined = refl;
        step_limit =
            omega (arith, steps_few own max_number (λ e l. cost_small j accepted.small e) 63 (omega (arith, accepted.tree.size, accepted.node_limit)));
        small =
            small_append (answer_of j).costs (length (answer_of j).pairs ∷ flat_map both (answer_of j).pairs)
            (small_places (answer_of j).costs (λ i l.
            new_most (graph_of j) (tree_of j) (cost_of j) max_number (λ e l. cost_small j accepted.small e) i (omega (arith, own.count))))
            (small_cons (length (answer_of j).pairs) (flat_map both (answer_of j).pairs) (omega (arith, few))
            (λ i. omega (arith, paired i)));
        count = own.count;
      }

  pub own_read : read_answer (length j.links) (answer_frame (answer_of j)) ≡ some (answer_of j)
  own_read = layout_read own_layout

  pub own_certified : Certified j (answer_frame (answer_of j)) (answer_of j)
  own_certified =
      record {
        layout = own_layout;
        certificate =
            record {
              steps = own.steps;
              minimum = own.minimum;
              matching = own.matching;
              rising = own.rising;
              falls = own.falls;
              weighs = own.weighs;
            };
      }

  pub own_judged : judge_answer j (answer_frame (answer_of j)) ≡ true
  own_judged = certified_judged j accepted own_certified

  pub own_size : length (answer_frame (answer_of j)) ≤ answer_most
  own_size = omega (arith, answer_most_lem (answer_of j) (omega (arith, few)) paired, few, own.count, accepted.edge_limit)
