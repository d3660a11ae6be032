-- The first links are gathered, zeros behind them.
use Rattle.frame.specs.Arrays.{columns}
use Rattle.reading.specs.JobReadLaws.{Gathering}
use Rattle.reading.proofs.gather.Given as goal

abbrev pub invariant-loop-e : goal.invariant-loop-e
invariant-loop-e l = Gathering 256 (columns l.end1 l.end2 l.cost l.mark) l.link-items l.e
