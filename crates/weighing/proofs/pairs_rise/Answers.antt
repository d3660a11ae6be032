-- Every pair passes the test of one.
use Rattle.std.proofs.Common.{rules, tests}
use Rattle.loops.specs.RangeLaws.{all_over_range}
use Rattle.weighing.proofs.pairs_rise.Goals as goal

pub returns : goal.returns
returns c = all_over_range c.all.ensures.ran (λ x b q k. search rules) (λ x b q k. search (rules, tests))
