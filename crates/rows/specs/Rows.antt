-- The bench rows T1 to T9, and one of a link that is not plugged: the model gives each job of the table its result.
-- Assumes nothing.
use Rattle.std.specs.Prelude.{ℕ, ◌≡◌, refl, eqb}
use mathlib.Core.List.{List, [], ◌∷◌, map, flat_map}
use Rattle.loops.specs.Below.{choose, all_below}
use Rattle.loops.specs.Loop.{scan, first, last, gather}
use Rattle.number.specs.Number.{encode, extend, decode}
use Rattle.frame.specs.Questions.{front, divide_up_to, question2, question3, question4, question5, question6, refusal, job_of}
use Rattle.frame.specs.Meaning.{links_of}
use Rattle.frame.specs.AnswerMeaning.{answer_frame}
use Rattle.frame.specs.Answers.{answer_of}
use Rattle.graph.specs.Rank.{insert, sorted}
use Rattle.graph.specs.Paths.{grow, expand_all, judge}
use Rattle.optimum.specs.Search.{mates_below, try_tree, turn, augment, built}
use Rattle.optimum.specs.Lowest.{label_tree, label_slot, label_from}
use Rattle.optimum.specs.Solve.{pair_at, solve}
use Rattle.std.proofs.Math.Bool.{xor}

pub data Result : Type 0 where
  frame : List ℕ → Result
  refused : ℕ → Result

-- What the model gives for a job frame: the answer frame, or the number of the first refusal.
abbrev pub result_of : List ℕ → Result
result_of s = choose (eqb (refusal s) 0) (λ _. frame (answer_frame (answer_of (job_of s)))) (λ _. refused (refusal s))

pub record Row : Type 0 where
  pub job : List ℕ
  pub result : Result

abbrev pub row : List ℕ → Result → Row
row s r = record { job = s; result = r }

abbrev pub rows : List Row
rows =
    row (0x03 ∷ 0x03 ∷ 0x00 ∷ 0x01 ∷ 0x05 ∷ 0x01 ∷ 0x01 ∷ 0x02 ∷ 0x04 ∷ 0x01 ∷ 0x00 ∷ 0x02 ∷ 0x02 ∷ 0x00 ∷ [])
    (frame (0x03 ∷ 0x04 ∷ 0x04 ∷ 0x04 ∷ 0x01 ∷ 0x00 ∷ 0x02 ∷ [])) ∷
    row (0x01 ∷ 0x00 ∷ []) (frame (0x00 ∷ 0x00 ∷ [])) ∷
    row (0x02 ∷ 0x02 ∷ 0x00 ∷ 0x01 ∷ 0x07 ∷ 0x01 ∷ 0x00 ∷ 0x01 ∷ 0x07 ∷ 0x00 ∷ []) (frame (0x00 ∷ 0x07 ∷ 0x07 ∷ 0x00 ∷ [])) ∷
    row (0x02 ∷ 0x02 ∷ 0x00 ∷ 0x01 ∷ 0x07 ∷ 0x01 ∷ 0x00 ∷ 0x01 ∷ 0x06 ∷ 0x00 ∷ []) (frame (0x01 ∷ 0x06 ∷ 0x06 ∷ 0x01 ∷ 0x00 ∷ 0x01 ∷ [])) ∷
    row (0x02 ∷ 0x01 ∷ 0x00 ∷ 0x01 ∷ 0xFF ∷ 0x7F ∷ 0x01 ∷ []) (frame (0x00 ∷ 0xFF ∷ 0x7F ∷ 0x00 ∷ [])) ∷
    row (0x80 ∷ 0x00 ∷ []) (refused 1) ∷
    row [] (refused 2) ∷
    row (0x02 ∷ 0x01 ∷ 0x00 ∷ 0x00 ∷ 0x05 ∷ 0x03 ∷ []) (refused 4) ∷
    row (0x40 ∷ 0x00 ∷ []) (refused 6) ∷
    row (0x02 ∷ 0x02 ∷ 0x00 ∷ 0x01 ∷ 0x05 ∷ 0x01 ∷ 0x00 ∷ 0x01 ∷ 0x03 ∷ 0x02 ∷ []) (frame (0x00 ∷ 0x05 ∷ 0x03 ∷ 0x00 ∷ [])) ∷
    []

pub rows_hold : map (λ (r : Row). result_of r.job) rows ≡ map (λ (r : Row). r.result) rows
unfolding links_of question2 question3 question4 question5 question6 flat_map encode extend decode front divide_up_to scan all_below
    first last gather insert sorted grow expand_all judge mates_below try_tree turn augment built label_tree label_slot label_from
    pair_at solve xor
rows_hold = refl
