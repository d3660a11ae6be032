-- The questions put to a job frame or to a list of links, each to the whole before the next, as functions that compute.
-- Definitions only. Assumes nothing.
use Rattle.std.specs.Prelude.{ℕ, zero, suc, ◌+◌, ◌*◌, Bool, not, ◌&&◌, List, [], ◌∷◌, leb, ltb, eqb, length, drop}
use Rattle.std.proofs.Math.Option.{Option, some, none, map, get_or}
use Rattle.loops.specs.Below.{choose, all_below}
use Rattle.number.specs.Number.{Decoded, decode}
use Rattle.graph.specs.Rank.{tree_ranks}
use Rattle.graph.specs.Paths.{is_tree}
use Rattle.frame.specs.Job.{Job, link, graph_of, tree_of, cost_of}
use Rattle.limits.specs.Limits.{max_nodes, max_edges, number_bytes, unplugged_mark}
use Rattle.frame.specs.Meaning.{node_count, edge_count, job_from}
use Rattle.frame.specs.Services.{small}

-- A number in front of what follows it.
unfoldable pub front : (List ℕ → Option (List ℕ)) → List ℕ → Decoded → Option (List ℕ)
front rest s (Decoded.number v n) = map (v ∷◌) (rest (drop n s))
front rest s Decoded.none = none

-- The numbers of at most k bytes each into which a list of bytes divides, if it does; at most `most` numbers.
unfoldable pub divide_up_to : ℕ → ℕ → List ℕ → Option (List ℕ)
divide_up_to k zero [] = some []
divide_up_to k zero (b ∷ s) = none
divide_up_to k (suc most) [] = some []
divide_up_to k (suc most) (b ∷ s) = front (λ s'. divide_up_to k most s') (b ∷ s) (decode k (b ∷ s))

abbrev pub divide_by : ℕ → List ℕ → Option (List ℕ)
divide_by k s = divide_up_to k (length s) s

-- Those of a job frame.
abbrev pub divide : ℕ → List ℕ → Option (List ℕ)
divide most s = divide_up_to number_bytes most s

abbrev pub numbers : List ℕ → Option (List ℕ)
numbers s = divide_by number_bytes s

abbrev pub job_of : List ℕ → Job
job_of s = job_from (get_or (numbers s) [])

-- 2. Are there at least two numbers, the first 1 to 64, the second 0 to 256?
unfoldable pub question2 : List ℕ → Bool
question2 ns = leb 2 (length ns) && leb 1 (node_count ns) && leb (node_count ns) max_nodes && leb (edge_count ns) max_edges

-- 3. Are there exactly 2 + 4 × link count numbers?
unfoldable pub question3 : List ℕ → Bool
question3 ns = eqb (length ns) (4 * edge_count ns + 2)

-- 4. Are every link's ends below the station count and different?
unfoldable pub question4 : Job → Bool
question4 j =
    all_below (length j.links) λ e.
    ltb (link j e).end₁ j.nodes && ltb (link j e).end₂ j.nodes && not (eqb (link j e).end₁ (link j e).end₂)

-- 5. Is every mark 0, 1 or 2?
unfoldable pub question5 : Job → Bool
question5 j = all_below (length j.links) λ e. leb (link j e).mark unplugged_mark

-- 6. Are there (stations − 1) tree links, and do they join all stations?
unfoldable pub question6 : Job → Bool
question6 j = is_tree (graph_of j) (tree_ranks (graph_of j) (tree_of j) (cost_of j))

-- The first "no" gives the number; 0 if there is none.
abbrev pub ask : Bool → ℕ → (Unit {0} → ℕ) → ℕ
ask answer number rest = choose answer rest (λ _. number)

-- Questions 2 to 5, put to the numbers of a frame, and then what `rest` says of the job.
abbrev pub number_questions : (Job → ℕ) → List ℕ → ℕ
number_questions rest ns =
    ask (question2 ns) 2 λ _.
    ask (question3 ns) 3 λ _.
    ask (question4 (job_from ns)) 4 λ _.
    ask (question5 (job_from ns)) 5 λ _.
    rest (job_from ns)

-- 1. Does the frame divide into whole numbers, each in shortest form of one to three bytes?
abbrev pub question1 : Option (List ℕ) → (List ℕ → ℕ) → ℕ
question1 (some ns) rest = rest ns
question1 none rest = 1

-- The refusal of a frame by questions 1 to 3, which are about its layout, and of a job by questions 4 to 6.
abbrev pub layout_refusal : List ℕ → ℕ
layout_refusal s = question1 (numbers s) λ ns. ask (question2 ns) 2 λ _. ask (question3 ns) 3 λ _. 0

abbrev pub job_refusal : Job → ℕ
job_refusal j = ask (question4 j) 4 λ _. ask (question5 j) 5 λ _. ask (question6 j) 6 λ _. 0

-- The refusal of a frame by questions 1 to 5, and by questions 1 to 6. A frame whose refusal is 0 is accepted.
abbrev pub form_refusal : List ℕ → ℕ
form_refusal s = question1 (numbers s) (number_questions λ _. 0)

abbrev pub refusal : List ℕ → ℕ
refusal s = question1 (numbers s) (number_questions λ j. ask (question6 j) 6 λ _. 0)

-- A question of a service's own, put after these: its number, if they have the answer "yes" and it has "no".
abbrev pub later : ℕ → Bool → ℕ → ℕ
later zero holds number = ask holds number λ _. 0
later (suc r) holds number = suc r

-- Question 2, put to a list of links.
unfoldable pub counted : Job → Bool
counted j = leb 1 j.nodes && leb j.nodes max_nodes && leb (length j.links) max_edges

-- Questions 1 to 5, put to a list of links, and then what `rest` says.
abbrev pub list_questions : (Job → ℕ) → Job → ℕ
list_questions rest j =
    ask (small j) 1 λ _. ask (counted j) 2 λ _. ask (question4 j) 4 λ _. ask (question5 j) 5 λ _. rest j

-- The refusal of a list by questions 1 and 2, by questions 1 to 5, and by questions 1 to 6; question 3 is met.
abbrev pub list_layout_refusal : Job → ℕ
list_layout_refusal j = ask (small j) 1 λ _. ask (counted j) 2 λ _. 0

abbrev pub list_form_refusal : Job → ℕ
list_form_refusal j = list_questions (λ _. 0) j

abbrev pub list_refusal : Job → ℕ
list_refusal j = list_questions (λ j. ask (question6 j) 6 λ _. 0) j
