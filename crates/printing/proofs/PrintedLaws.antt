-- What the services give for a job frame is what is to be printed. Assumes nothing.
use Rattle.std.specs.Prelude.{ℕ, ◌+◌, ◌*◌, ◌<◌, ◌≤◌, ◌≡◌, Result, Ok, Some, length, take, drop}
use Rattle.std.proofs.Common.{arith, sym, ◌∙◌, ⊎_elim, length-take, length-append, take_at, eq-eqb, ne_eqb}
use Rattle.std.proofs.Math.Path.{ap, ap₂, subst}
use mathlib.Core.List.{List, ◌++◌, map}
use Rattle.std.proofs.Math.ListN.{get_or, get_or-map}
use Rattle.std.proofs.Math.Option.{some}
use Rattle.limits.specs.Limits.{answer_most}
use Rattle.loops.specs.GatherLaws.{get_d_tabulate}
use Rattle.number.specs.Number.{Bytes}
use Rattle.optimum.specs.Optimum.{Pair, Answer}
use Rattle.frame.specs.Job.{Job, no_link, cost_of}
use Rattle.frame.specs.Questions.{job_of, refusal}
use Rattle.frame.specs.Answers.{no_pair, pair_from, answer_of, read_answer}
use Rattle.frame.specs.AnswerMeaning.{answer_frame}
use Rattle.frame.specs.Meaning.{Accepted}
use Rattle.frame.proofs.Accepted.{accepted}
use Rattle.frame.specs.Services.{Outcome}
use Rattle.frame.proofs.OwnAnswer.{own_certified, own_read, own_size}
use Rattle.frame.proofs.Outcomes.{accepted_written}
use Rattle.limits.specs.declared.Refusal.{Refusal}
use Rattle.limits.specs.Refusals.{number_of, refusal_in}
use Rattle.limits.specs.ResultLaws.{refusal_nonzero}
use Rattle.codec.specs.Numbers.{outcome}
use Rattle.records.specs.Records.{zero_link}
use Rattle.records.proofs.RecordsLaws.{firsts_at}
use Rattle.answering.specs.Answering.{Answered}
use Rattle.reading.specs.declared.JobRead.{JobRead}
use Rattle.reading.specs.declared.AnswerRead.{AnswerRead}
use Rattle.reading.specs.JobsRead.{link_of, given_of, JobGiven}
use Rattle.reading.specs.AnswersRead.{answer_read, AnswerGiven}
use Rattle.reading.specs.AnswerReadLaws.{pairs_most, pairs_back}
use Rattle.text.specs.Text.{total_word, refused_word, word_line, cost_line, cost_lines, pair_line, pair_lines, answer_text}
use Rattle.text.proofs.TextLaws.{lines_same, word_line_most, cost_lines_most, pair_lines_most}
use Rattle.printing.specs.Printed.{text_most, printed, lines_of}

-- The lines of an accepted job and its answer, read into arrays.
module _ (j : Job) (k : length j.links ≤ 256) (a : Answer) (few : length a.pairs ≤ 64) where
  old_cost_lem : (e : ℕ) → e < length j.links → (get_or (given_of j).links e zero_link).cost ≡ cost_of j e
  old_cost_lem e l = ap (λ (x : _). x.cost) (firsts_at 256 (map link_of j.links) e (omega (arith, k)) ∙ get_or-map link_of j.links e no_link)

  pair_is : (i : ℕ) → i < length a.pairs → pair_from (answer_read a).pairs i ≡ get_or a.pairs i no_pair
  pair_is i l =
      sym (get_d_tabulate (pair_from (answer_read a).pairs) (length a.pairs) i no_pair l) ∙
      ap (λ (ps : List Pair). get_or ps i no_pair) (pairs_back 128 a.pairs (omega (arith, few)))

  pub lines_text : lines_of (given_of j) (answer_read a) ≡ answer_text j a
  lines_text =
      ap₂ (λ (xs ys : List ℕ). word_line total_word a.steps ++ xs ++ ys)
      (lines_same (length j.links) (λ e. cost_line e (get_or (given_of j).links e zero_link).cost (get_or (answer_read a).costs e 0))
      (λ e. cost_line e (cost_of j e) (get_or a.costs e 0))
      λ e l. ap₂ (cost_line e) (old_cost_lem e l) (get_d_tabulate (λ e. get_or a.costs e 0) 256 e 0 (omega (arith, l, k))))
      (lines_same (length a.pairs) (λ i. pair_line (get_or (answer_read a).pairs (2 * i) 0) (get_or (answer_read a).pairs (2 * i + 1) 0))
      (λ i. pair_line (get_or a.pairs i no_pair).tree (get_or a.pairs i no_pair).spare)
      λ i l. ap (λ (p : Pair). pair_line p.tree p.spare) (pair_is i l))

-- A refusal is printed by its number.
pub refused_line : (s : List ℕ) (q : Refusal) → number_of q ≡ refusal s → word_line refused_word (number_of q) ≡ printed s
refused_line s q e = rw (ne_eqb (refusal s) 0 (λ z. refusal_nonzero q (e ∙ z))) (ap (word_line refused_word) e)

-- An area for the longest answer is never too short.
pub number :
    (s : List ℕ) (b : Bytes s) (area : List ℕ) →
    length area ≡ answer_most →
    (r : Result ℕ Refusal) (after : List ℕ) → Answered s area r after → refusal_in r ≡ refusal s
number s b area room r after g =
    ⊎_elim (λ q. q) (λ q. absurd (omega (arith, q.2, room, own_size (job_of s) (accepted s b q.0)))) g.served.number

-- A job frame that is answered.
module _
    (s : List ℕ) (b : Bytes s) (area : List ℕ) (room : length area ≡ answer_most) (n : ℕ) (after : List ℕ) (g : Answered s area (Ok n) after) where
  none : refusal s ≡ 0
  none = sym (number s b area room (Ok n) after g)

  is_accepted : Accepted (job_of s)
  is_accepted = accepted s b none

  abbrev bytes : List ℕ
  bytes = answer_frame (answer_of (job_of s))

  whole : outcome (Ok n) after ≡ record { refusal = 0; size = length bytes; area = take 0 area ++ bytes ++ drop (0 + length bytes) area }
  whole = g.served.said ∙ accepted_written bytes 0 area (refusal s) (sym (ap (λ (o : Outcome). o.refusal) g.served.said))

  size : n ≡ length bytes
  size = ap (λ (o : Outcome). o.size) whole

  own_frame : take n after ≡ bytes
  own_frame =
      ap (take n) (ap (λ (o : Outcome). o.area) whole) ∙ take_at bytes (drop (0 + length bytes) area) n (sym size)

  pub answer_fits : n ≤ length after
  answer_fits = omega (arith, size, ap length own_frame, length-take n after)

  module _ (j : JobRead) (jg : JobGiven s (Ok j)) (a : AnswerRead) (ag : AnswerGiven s (take n after) (Ok (Some a))) where
    answer_is : a ≡ answer_read (answer_of (job_of s))
    answer_is =
        let is : read_answer (length (job_of s).links) (take n after) ≡ some (answer_of (job_of s))
        = ap (read_answer (length (job_of s).links)) own_frame ∙ own_read (job_of s) is_accepted in
        let same : ag.said.0 ≡ answer_of (job_of s) = cc (ag.said.1, is) in
        ag.said.2 ∙ ap answer_read same

    pub printed_links : j.count ≤ 256
    printed_links = subst (λ (x : JobRead). x.count ≤ 256) (sym jg.said) is_accepted.edge_limit

    pairs_few : length (answer_of (job_of s)).pairs ≤ 64
    pairs_few = pairs_most (job_of s) is_accepted (own_certified (job_of s) is_accepted)

    pub pairs_few_read : a.count ≤ 64
    pairs_few_read = subst (λ (x : AnswerRead). x.count ≤ 64) (sym answer_is) pairs_few

    shown : answer_text (job_of s) (answer_of (job_of s)) ≡ printed s
    shown = rw (eq-eqb (refusal s) 0 none)

    pub accepted_lines : lines_of j a ≡ printed s
    accepted_lines =
        ap₂ lines_of jg.said answer_is ∙ lines_text (job_of s) is_accepted.edge_limit (answer_of (job_of s)) pairs_few ∙ shown

-- The room for a text is long enough.
pub lines_fit : (j : JobRead) (a : AnswerRead) → j.count ≤ 256 → a.count ≤ 64 → length (lines_of j a) ≤ text_most
lines_fit j a k few =
    let total : List ℕ = word_line total_word a.steps in
    let costs : List ℕ = cost_lines j.count (λ e. (get_or j.links e zero_link).cost) (λ e. get_or a.costs e 0) in
    let pairs : List ℕ = pair_lines a.count (λ i. get_or a.pairs (2 * i) 0) (λ i. get_or a.pairs (2 * i + 1) 0) in
    omega (
      arith,
      length-append (total ++ costs) pairs,
      length-append total costs,
      word_line_most total_word a.steps,
      cost_lines_most j.count (λ e. (get_or j.links e zero_link).cost) (λ e. get_or a.costs e 0),
      pair_lines_most a.count (λ i. get_or a.pairs (2 * i) 0) (λ i. get_or a.pairs (2 * i + 1) 0),
    )
