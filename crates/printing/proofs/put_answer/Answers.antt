-- The steps, the links and the pairs, one behind the other.
use Rattle.std.proofs.Common.{ℕ, ◌++◌, arith, get_or, length-append}
use Rattle.codec.specs.Numbers.{Put}
use Rattle.codec.specs.WritingLaws.{put_more, put_room}
use Rattle.records.specs.Records.{zero_link}
use Rattle.text.specs.Text.{total_word, word_line, cost_lines}
use Rattle.text.proofs.TextLaws.{word_line_most, cost_lines_most}
use Rattle.printing.proofs.put_answer.Goals as goal
use Rattle.printing.proofs.put_answer.Goals.{After-put_links-q}

pub put_links-q-requires-clause-count_in_bounds : goal.put_links-q-requires-clause-count_in_bounds
put_links-q-requires-clause-count_in_bounds c =
    put_room _ _ _ _ _ _ c.put_word-p.ensures (omega (arith, word_line_most total_word))

-- The steps and the links are put.
two :
    (c : After-put_links-q) →
    let old : ℕ → ℕ = λ e. (get_or c.args.job.links e zero_link).cost in
    let new : ℕ → ℕ = λ e. get_or c.args.answer.costs e 0 in
    Put c.args.out.now 0 (word_line total_word c.args.answer.steps ++ cost_lines c.args.job.count old new) c.put_links-q.result c.put_links-q.new.out
two c = put_more _ _ _ _ _ _ _ _ c.put_word-p.ensures c.put_links-q.ensures.next c.put_links-q.ensures.area

pub put_pairs-requires-clause-count_in_bounds : goal.put_pairs-requires-clause-count_in_bounds
put_pairs-requires-clause-count_in_bounds c =
    let old : ℕ → ℕ = λ e. (get_or c.args.job.links e zero_link).cost in
    let new : ℕ → ℕ = λ e. get_or c.args.answer.costs e 0 in
    put_room _ _ _ _ _ _ (two (goal.at.put_pairs-requires-clause-count_in_bounds c).After-put_links-q)
    (omega (
      arith,
      length-append (word_line total_word c.args.answer.steps) (cost_lines c.args.job.count old new),
      word_line_most total_word c.args.answer.steps,
      cost_lines_most c.args.job.count old new,
    ))

pub returns : goal.returns
returns c = put_more _ _ _ _ _ _ _ _ (two (goal.at.returns c).After-put_links-q) c.put_pairs.ensures.next c.put_pairs.ensures.area
