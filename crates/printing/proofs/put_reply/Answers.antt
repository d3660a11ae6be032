-- The text of the answer, or of the refusal.
use Rattle.std.proofs.Common.{arith, ◌∙◌, ap}
use Rattle.text.specs.Text.{refused_word, word_line}
use Rattle.text.proofs.TextLaws.{word_line_most, put_text}
use Rattle.printing.proofs.PrintedLaws.{refused_line}
use Rattle.printing.proofs.put_reply.Goals as goal

pub returns-in-Err-clause-out_after : goal.returns-in-Err-clause-out_after
returns-in-Err-clause-out_after c =
    let put = put_text _ _ _ _ c.put_word.ensures (omega (arith, word_line_most refused_word c.from.result)) in
    put.0 ∙ ap (word_line refused_word) c.from.ensures ∙ refused_line _ c.in-Err.refusal c.in-Err.ensures.number

pub returns-in-Err-clause-prefix_len : goal.returns-in-Err-clause-prefix_len
returns-in-Err-clause-prefix_len c =
    let put = put_text _ _ _ _ c.put_word.ensures (omega (arith, word_line_most refused_word c.from.result)) in
    (put.1, put.2)
