-- What is printed of an answer, as bytes of ASCII. Definitions only. Assumes nothing.
use Rattle.std.specs.Prelude.{ℕ, zero, suc, ◌+◌, ◌/◌, ◌%◌, List, [], ◌∷◌, ◌++◌, ltb, length, get_or}
use Rattle.loops.specs.Below.{choose}
use Rattle.loops.specs.Loop.{gather}
use Rattle.optimum.specs.Optimum.{Answer}
use Rattle.frame.specs.Job.{Job, cost_of}
use Rattle.frame.specs.Answers.{no_pair}

-- A number's digits, no more than so many: those of its tenth, and then the last.
unfoldable pub decimal_in : ℕ → ℕ → List ℕ
decimal_in zero n = []
decimal_in (suc k) n =
    choose (ltb n 10) (λ _. (48 + n) ∷ []) (λ _. decimal_in k (n / 10) ++ ((48 + n % 10) ∷ []))

-- No number of 64 bits has more than 20.
abbrev pub decimal : ℕ → List ℕ
decimal n = decimal_in 20 n

-- A space, a line's end, and the words "total ", "pair ", "refused ".
abbrev pub space : List ℕ
space = 32 ∷ []

abbrev pub end : List ℕ
end = 10 ∷ []

abbrev pub total_word : List ℕ
total_word = 116 ∷ 111 ∷ 116 ∷ 97 ∷ 108 ∷ 32 ∷ []

abbrev pub pair_word : List ℕ
pair_word = 112 ∷ 97 ∷ 105 ∷ 114 ∷ 32 ∷ []

abbrev pub refused_word : List ℕ
refused_word = 114 ∷ 101 ∷ 102 ∷ 117 ∷ 115 ∷ 101 ∷ 100 ∷ 32 ∷ []

-- A line each: a word and a number; link, old cost and new cost; a pair, tree link first.
abbrev pub word_line : List ℕ → ℕ → List ℕ
word_line word n = word ++ (decimal n ++ end)

abbrev pub cost_line : ℕ → ℕ → ℕ → List ℕ
cost_line e old new = (decimal e ++ space) ++ (decimal old ++ space) ++ (decimal new ++ end)

abbrev pub pair_line : ℕ → ℕ → List ℕ
pair_line tree spare = pair_word ++ (decimal tree ++ space) ++ (decimal spare ++ end)

-- A line a link, from the old and the new costs; a line a pair.
abbrev pub cost_lines : ℕ → (ℕ → ℕ) → (ℕ → ℕ) → List ℕ
cost_lines n old new = gather n (λ e. cost_line e (old e) (new e))

abbrev pub pair_lines : ℕ → (ℕ → ℕ) → (ℕ → ℕ) → List ℕ
pair_lines n tree spare = gather n (λ i. pair_line (tree i) (spare i))

-- An answer to a job: the steps, the links, the pairs.
abbrev pub answer_text : Job → Answer → List ℕ
answer_text j a =
    word_line total_word a.steps ++
    cost_lines (length j.links) (cost_of j) (λ e. get_or a.costs e 0) ++
    pair_lines (length a.pairs) (λ i. (get_or a.pairs i no_pair).tree) (λ i. (get_or a.pairs i no_pair).spare)
