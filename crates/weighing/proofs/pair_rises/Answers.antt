-- Every pair before pair i passes the test of two.
use Rattle.std.proofs.Common.{rules, tests}
use Rattle.loops.specs.RangeLaws.{all_over_range}
use Rattle.weighing.proofs.pair_rises.Goals as goal

pub returns : goal.returns
returns c = all_over_range c.all.ensures.ran (λ x b q k. search rules) (λ x b q k. search (rules, tests))
