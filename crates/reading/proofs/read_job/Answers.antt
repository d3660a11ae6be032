-- `reading::read_job` meets its contract: an accepted job's arrays are gathered; of a refused frame nothing is read.
-- Assumes nothing.
use mathlib.Core.Path.{◌∙◌}
use Rattle.frame.specs.Questions.{job_of}
use Rattle.accept.specs.AcceptLaws.{accepted_number, accepted_nodes, accepted_edges}
use Rattle.reading.specs.JobReadLaws.{gathered_stored, given_job, job_given, job_withheld}
use Rattle.reading.proofs.read_job.Goals as goal

pub returns-in-Err : goal.returns-in-Err
returns-in-Err c = job_withheld c.args.frame.now (λ i. (c.type_inv.frame i).fits) c.in-Err.refusal c.in-Err.ensures.header.number

pub returns-in-Ok : goal.returns-in-Ok
returns-in-Ok c =
    let s = c.args.frame.now in
    let h = c.in-Ok.header in
    let k = c.in-Ok.ensures.header in
    job_given s (λ i. (c.type_inv.frame i).fits) _ (accepted_number s h k)
    (given_job h.nodes h.edges c.gather.result (job_of s) (accepted_nodes s h k) (accepted_edges s h k)
    (c.gather.ensures ∙ gathered_stored 256 c.in-Ok.ensures.job))
