-- `cheapest::judge_unsorted` meets its contract: the ranks that cost no more than any lower one are found first. Assumes nothing.
use Rattle.cheapest.specs.LeadLaws.{falls_word}
use Rattle.cheapest.proofs.judge_unsorted.Goals as goal

pub judge_ranked-requires-clause-fall_along : goal.judge_ranked-requires-clause-fall_along
judge_ranked-requires-clause-fall_along c =
    let f = c.falling_ranks-falling in
    falls_word c.args.ranks.now c.args.cost.now c.args.count f.result f.ensures
