-- `ist_readers::read_answer` meets its contract: what is said of the answer, in numbers. Assumes nothing.
use mathlib.Core.Path.{ap, ◌∙◌}
use Rattle.codes.specs.Exports.{code_of}
use Rattle.codes.specs.ExportLaws.{code_said}
use Rattle.copying.specs.declared.AnswerCopy.{AnswerCopy}
use Rattle.ist_readers.proofs.read_answer.Goals as goal

pub returns : goal.returns
returns c =
    let copy = c.counts-copy.ensures in
    record {
      said = c.copy_answer-said.result;
      number = code_said _ _ _ c.map_err.ensures.cases c.code.ensures ∙ ap code_of c.verdict.ensures;
      total = ap (λ (k : AnswerCopy). k.steps) copy;
      links = ap (λ (k : AnswerCopy). k.costs) copy;
      matched = ap (λ (k : AnswerCopy). k.pairs) copy;
      told = c.copy_answer-said.ensures;
    }
