-- `writing::write_links` meets its contract: the writer's core is handed the refusal, or the job in the arrays. Assumes nothing.
use Rattle.std.specs.Prelude.{Err}
use Rattle.std.proofs.Common.{rules}
use Rattle.codec.specs.WritingLaws.{told_outcome}
use Rattle.answering.specs.AnswerLaws.{untouched_told}
use Rattle.listed.proofs.ListServiceLaws.{given_few, given_written}
use Rattle.writing.proofs.write_links.Goals as goal
use Rattle.writing.proofs.write_links.Goals.{in-Ok, in-Err}

pub write_job-requires : goal.write_job-requires
write_job-requires c =
    elim c.match-accepted.branch [
      | in-Ok w ↦ rw w.earlier-is (given_few (rw w.in-Ok.is at c.accept_links-accepted.ensures.list))
      | in-Err w ↦ rw w.earlier-is (search rules)
    ]

pub returns : goal.returns
returns c =
    let area = c.args.area.now in
    let r = c.write_job.result in
    let after = c.write_job.new.area in
    let list = c.accept_links-accepted.ensures.list in
    elim c.match-accepted.branch [
      | in-Ok w ↦
          given_written (rw w.in-Ok.is at list) area r after
          (told_outcome r after _ (rw w.earlier-is at c.write_job.ensures.written)) tt
      | in-Err w ↦
          given_written (rw w.in-Err.is at list) area r after tt
          (untouched_told (Err w.in-Err.refusal) area r after (rw w.earlier-is at c.write_job.ensures.refused))
    ]
