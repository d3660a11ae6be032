-- `ist_frames::judge_answer` meets its contract: the judge's verdict as a number. Assumes nothing.
use Rattle.codes.specs.ExportLaws.{code_said}
use Rattle.ist_frames.proofs.judge_answer.Goals as goal

pub returns : goal.returns
returns c = record { verdict = c.judge_answer.result; number = code_said _ _ _ c.map_err.ensures.cases c.code.ensures; judged = c.judge_answer.ensures }
