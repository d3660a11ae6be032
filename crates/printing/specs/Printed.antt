-- What is printed for a job frame. Definitions only. Assumes nothing.
use Rattle.std.specs.Prelude.{ℕ, ◌+◌, ◌*◌, ◌≤◌, ◌≡◌, List, ◌++◌, eqb, length, get_or, take}
use Rattle.loops.specs.Below.{choose}
use Rattle.frame.specs.Questions.{job_of, refusal}
use Rattle.frame.specs.Answers.{answer_of}
use Rattle.records.specs.Records.{zero_link}
use Rattle.reading.specs.declared.JobRead.{JobRead}
use Rattle.reading.specs.declared.AnswerRead.{AnswerRead}
use Rattle.text.specs.Text.{total_word, refused_word, word_line, cost_lines, pair_lines, answer_text}

-- The room for a text, in bytes: enough for every one (`lines_fit`).
abbrev pub text_most : ℕ
text_most = 20480

-- A buffer has so many bytes, and they are as many at its start.
abbrev pub IsPrefixLen : ℕ → List ℕ → Type 0
IsPrefixLen n xs = (n ≤ length xs) × (n ≡ length (take n xs))

-- The text of the answer to an accepted job; else one line, with the number of the first question whose answer is "no".
abbrev pub printed : List ℕ → List ℕ
printed s = choose (eqb (refusal s) 0) (λ _. answer_text (job_of s) (answer_of (job_of s))) (λ _. word_line refused_word (refusal s))

-- The lines of a job and an answer in arrays, as the code puts them.
abbrev pub lines_of : JobRead → AnswerRead → List ℕ
lines_of j a =
    word_line total_word a.steps ++
    cost_lines j.count (λ e. (get_or j.links e zero_link).cost) (λ e. get_or a.costs e 0) ++
    pair_lines a.count (λ i. get_or a.pairs (2 * i) 0) (λ i. get_or a.pairs (2 * i + 1) 0)
