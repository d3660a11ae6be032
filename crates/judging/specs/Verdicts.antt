-- What the judges say. Definitions only. Assumes nothing.
use Rattle.std.specs.Prelude.{ℕ, ◌≡◌, ◌↔◌, Bool, true, false, List, Result, Ok, IfOk, pos}
use Rattle.graph.specs.Graph.{Minimum}
use Rattle.optimum.specs.Optimum.{Answer}
use Rattle.frame.specs.Job.{Job, graph_of, tree_of, cost_of}
use Rattle.frame.specs.Questions.{job_of, refusal}
use Rattle.frame.specs.Answers.{judge_tree, judge_answer}
use Rattle.frame.specs.AnswerMeaning.{Certified}
use Rattle.frame.specs.Meaning.{FirstNo}
use Rattle.limits.specs.declared.Refusal.{Refusal}
use Rattle.limits.specs.Refusals.{refusal_in}

-- A verdict: the number of the refusal, where there is one; else the judge's word.
pub record Verdict (n : ℕ) (word : Bool) (r : Result Bool Refusal) : Type 0 where
  pub number : refusal_in r ≡ n
  pub word_is : IfOk r (λ b. b ≡ word)

-- The marked tree of a job is cheapest: no spanning tree of its links has a smaller total cost.
abbrev pub Cheapest : Job → Type 0
Cheapest j = Minimum (graph_of j) (tree_of j) (λ e. pos (cost_of j e))

-- The verdict r on the frame s, when a judge of accepted jobs has this word on the claim: a refusal is the first "no" of
-- the six questions; of an accepted job the word is yes exactly if the claim holds, and no exactly if it does not.
pub record VerdictOn (s : List ℕ) (word : Bool) (Claim : Type 0) (r : Result Bool Refusal) : Type 0 where
  pub said : Verdict (refusal s) word r
  pub first : FirstNo s (refusal s)
  pub yes_means : (r ≡ Ok true) ↔ ((refusal s ≡ 0) × Claim)
  pub no_means : (r ≡ Ok false) ↔ ((refusal s ≡ 0) × (Claim → ⊥))

-- The verdict on the marked tree of a job frame.
abbrev pub TreeJudged : List ℕ → Result Bool Refusal → Type 0
TreeJudged s = VerdictOn s (judge_tree (job_of s)) (Cheapest (job_of s))

-- The verdict on a frame offered as the answer to a job frame: yes exactly if it is laid out as one and its costs make the
-- marked tree cheapest with the steps it names, which its pairing proves to be the fewest.
abbrev pub AnswerJudged : List ℕ → List ℕ → Result Bool Refusal → Type 0
AnswerJudged s f = VerdictOn s (judge_answer (job_of s) f) ((a : Answer) × Certified (job_of s) f a)
