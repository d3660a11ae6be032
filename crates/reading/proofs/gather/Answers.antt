-- Each turn gathers one link more.
use Rattle.std.proofs.Common.{arith}
use Rattle.reading.specs.JobReadLaws.{gather_start, gather_turn, gather_end}
use Rattle.reading.proofs.gather.Goals as goal

pub loop-e-init : goal.loop-e-init
loop-e-init c = gather_start 256 _

pub loop-e-preserved : goal.loop-e-preserved
loop-e-preserved c = gather_turn 256 _ _ _ (omega arith) c.loop-e.invariant

pub returns : goal.returns
returns c = gather_end 256 _ _ _ (omega arith) c.loop-e.invariant
