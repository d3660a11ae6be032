-- The two counts, or a link. Assumes nothing.
use Rattle.frame.specs.Arrays.{columns}
use Rattle.job_write.specs.WritingLaws.{group_counts, group_link}
use Rattle.job_write.proofs.group_at.Goals as goal

pub returns-then-i-eq0-clause-listed : goal.returns-then-i-eq0-clause-listed
returns-then-i-eq0-clause-listed c =
    group_counts c.args.nodes c.args.edges (columns c.args.end1.now c.args.end2.now c.args.cost.now c.args.mark.now) c.args.i
    c.if-i-eq0.true

pub returns-clause-listed : goal.returns-clause-listed
returns-clause-listed c =
    group_link c.args.nodes c.args.edges (columns c.args.end1.now c.args.end2.now c.args.cost.now c.args.mark.now) c.args.i
    c.if-i-eq0.false _ c.link_numbers-numbers.ensures
