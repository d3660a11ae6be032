-- `ist_frames::judge` meets its contract: the judge's verdict as a number. Assumes nothing.
use Rattle.codes.specs.ExportLaws.{code_said}
use Rattle.ist_frames.proofs.judge.Goals as goal

pub returns : goal.returns
returns c = record { verdict = c.judge.result; number = code_said _ _ _ c.map_err.ensures.cases c.code.ensures; judged = c.judge.ensures }
