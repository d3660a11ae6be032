-- Links that are laid but not plugged: such a link is in no spanning tree, lies over nothing, is in no pair and keeps its cost,
-- in our answer and in every answer that the judge says yes to. Assumes nothing.
use Rattle.std.specs.Prelude.{ℕ, ◌<◌, ◌≡◌, refl, ◌≢◌, false, List, pos, length, get_or}
use Rattle.std.proofs.Common.{ap, ◌∙◌, inl, inr}
use Rattle.limits.specs.Limits.{unplugged_mark}
use Rattle.loops.specs.TestLaws.{truth, clash}
use Rattle.graph.specs.Graph.{EdgeSet, SpanningTree, Covers}
use Rattle.optimum.specs.Optimum.{Pair, IsPair, Answer, chosen}
use Rattle.optimum.specs.PairBound.{idle_unpaired, idle_still}
use Rattle.optimum.proofs.SolveProof.{solve_idle}
use Rattle.frame.specs.Job.{Job, link, graph_of, tree_of, cost_of}
use Rattle.frame.specs.Meaning.{Accepted}
use Rattle.frame.specs.AnswerMeaning.{Certified}
use Rattle.frame.specs.Answers.{answer_of}

module _ (j : Job) (e : ℕ) (unplugged : (link j e).mark ≡ unplugged_mark) where
  -- It may not be used, and it is not in the marked tree.
  pub unplugged_idle : (graph_of j).live e ≡ false
  unplugged_idle = rw unplugged refl

  unplugged_unmarked : tree_of j e ≡ false
  unplugged_unmarked = rw unplugged refl

  pub unplugged_in_no_tree : (S : EdgeSet) → SpanningTree (graph_of j) S → e < length j.links → S e ≡ false
  unplugged_in_no_tree S tree l = elim (truth (S e)) [
    | inl s ↦ clash (tree.usable e l s) unplugged_idle
    | inr o ↦ o
  ]

  pub unplugged_over_nothing : (tr : EdgeSet) (t : ℕ) → Covers (graph_of j) tr e t → ⊥
  unplugged_over_nothing tr t over = clash over.usable unplugged_idle

  module _ (accepted : Accepted j) where
    pub unplugged_in_no_pair : (p : Pair) → IsPair (graph_of j) (tree_of j) p → (e ≢ p.tree) × (e ≢ p.spare)
    unplugged_in_no_pair = idle_unpaired accepted.tree e unplugged_idle

    -- Our answer keeps its cost, and so does every answer frame that is judged yes: one that moves it is judged no.
    pub unplugged_kept : e < length j.links → get_or (answer_of j).costs e 0 ≡ cost_of j e
    unplugged_kept l = solve_idle (graph_of j) (tree_of j) (cost_of j) e l unplugged_idle unplugged_unmarked

    pub unplugged_certified :
        (s : List ℕ) (a : Answer) → Certified j s a → e < length j.links → get_or a.costs e 0 ≡ cost_of j e
    unplugged_certified s a certified l =
        let k = certified.certificate in
        let still = idle_still accepted.sound accepted.tree (cost_of j) (chosen a) k.minimum a.pairs k.matching k.falls in
        cc (still (k.weighs ∙ ap pos k.steps) e l unplugged_idle)
