-- What the services say of a frame, as functions that compute: the answer service and the two finders. Definitions only.
-- Assumes nothing.
use Rattle.std.specs.Prelude.{ℕ, Bool, ◌&&◌, List, [], ltb, eqb, length}
use Rattle.std.proofs.Math.Option.{get_or}
use Rattle.loops.specs.Below.{choose}
use Rattle.optimum.specs.Optimum.{Answer}
use Rattle.frame.specs.Job.{Job}
use Rattle.frame.specs.Meaning.{edge_count}
use Rattle.frame.specs.AnswerMeaning.{answer_frame}
use Rattle.frame.specs.Services.{Outcome, written, Place, nowhere, part_at, link_offset, link_length, cost_offset, cost_length}
use Rattle.frame.specs.Questions.{numbers, job_of, refusal}
use Rattle.frame.specs.Answers.{answer_of, read_answer, judge_answer}

-- The answer service: a job frame in, the answer frame into the area.
abbrev pub answered : List ℕ → List ℕ → Outcome
answered s area = written (refusal s) (answer_frame (answer_of (job_of s))) 0 area

-- A part that is shown, or none.
abbrev pub place_when : Bool → ℕ → ℕ → Place
place_when shown offset size = choose shown (λ _. record { offset = offset; size = size }) (λ _. nowhere)

-- The link finder: link e's four numbers as the frame's own bytes.
abbrev pub link_place : ℕ → List ℕ → ℕ → Place
link_place refused s e =
    let ns : List ℕ = get_or (numbers s) [] in
    place_when (eqb refused 0 && ltb e (edge_count ns)) (link_offset ns e) (link_length ns e)

abbrev pub link_part : ℕ → List ℕ → ℕ → List ℕ
link_part refused s e = part_at (link_place refused s e) s

-- The cost finder: the bytes of link e's new cost in an answer frame that is judged yes for its job.
abbrev pub no_answer : Answer
no_answer = record { steps = 0; costs = []; pairs = [] }

abbrev pub cost_place : List ℕ → List ℕ → ℕ → Place
cost_place s f e =
    let j : Job = job_of s in
    let a : Answer = get_or (read_answer (length j.links) f) no_answer in
    place_when (eqb (refusal s) 0 && ltb e (length j.links) && judge_answer j f) (cost_offset a e) (cost_length a e)

abbrev pub cost_part : List ℕ → List ℕ → ℕ → List ℕ
cost_part s f e = part_at (cost_place s f e) f
