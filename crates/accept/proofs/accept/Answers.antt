-- `accept::accept` meets its contract: the frame is asked questions 1 to 3, then the arrays the others. Assumes nothing.
use Rattle.std.proofs.lemmas.Result.{err_from_is_err_and}
use Rattle.frame.specs.Arrays.{columns, arrays}
use Rattle.accept.specs.AcceptLaws.{layout_zero, accept_refused, header_nodes, header_edges, job_refused, job_accepted}
use Rattle.accept.specs.ArrayLaws.{stored}
use Rattle.accept.proofs.accept.Goals as goal

pub returns-in_err-header-clause-header : goal.returns-in_err-header-clause-header
returns-in_err-header-clause-header c =
    let p = err_from_is_err_and c.from_residual.result c.from_residual.ensures.1 in
    rw (p.1, p.2) (accept_refused c.args.frame.now c.in_err-header.field-0.0 c.in_err-header.ensures.header)

-- questions 1 to 3 have passed: the frame's job stands in the arrays
pub check_job-requires-clause-stored : goal.check_job-requires-clause-stored
check_job-requires-clause-stored c =
    let a = c.args in
    let h = c.in_ok-header.header in
    let k = c.in_ok-header.ensures.header in (
      _,
      stored a.frame.now (arrays a.end1.now a.end2.now a.cost.now a.mark.now a.ts.now a.mask.now)
          (columns c.load_job.new.end1 c.load_job.new.end2 c.load_job.new.cost c.load_job.new.mark) c.in_ok-header.header.nodes
          c.in_ok-header.header.edges (λ i. (c.type_inv.frame i).fits) (layout_zero a.frame.now h k) c.requires c.in_ok-header.ensures.links
          (header_nodes a.frame.now h k) (header_edges a.frame.now h k),
    )

pub returns-in_err-check_job-clause-header : goal.returns-in_err-check_job-clause-header
returns-in_err-check_job-clause-header c =
    let a = c.args in
    let h = c.in_ok-header.header in
    let k = c.in_ok-header.ensures.header in
    let held = stored a.frame.now (arrays a.end1.now a.end2.now a.cost.now a.mark.now a.ts.now a.mask.now)
    (columns c.load_job.new.end1 c.load_job.new.end2 c.load_job.new.cost c.load_job.new.mark) c.in_ok-header.header.nodes
    c.in_ok-header.header.edges (λ i. (c.type_inv.frame i).fits) (layout_zero a.frame.now h k) c.requires c.in_ok-header.ensures.links
    (header_nodes a.frame.now h k) (header_edges a.frame.now h k) in
    let p = err_from_is_err_and c.from_residual-in_err-check_job.result c.from_residual-in_err-check_job.ensures.1 in
    rw (p.1, p.2) (job_refused a.frame.now h k c.in_err-check_job.field-0.0 (c.in_err-check_job.ensures.refusal _ held))

pub returns-clause-header : goal.returns-clause-header
returns-clause-header c =
    let a = c.args in
    let h = c.in_ok-header.header in
    let k = c.in_ok-header.ensures.header in
    let held = stored a.frame.now (arrays a.end1.now a.end2.now a.cost.now a.mark.now a.ts.now a.mask.now)
    (columns c.load_job.new.end1 c.load_job.new.end2 c.load_job.new.cost c.load_job.new.mark) c.in_ok-header.header.nodes
    c.in_ok-header.header.edges (λ i. (c.type_inv.frame i).fits) (layout_zero a.frame.now h k) c.requires c.in_ok-header.ensures.links
    (header_nodes a.frame.now h k) (header_edges a.frame.now h k) in
    job_accepted a.frame.now h k (c.in_ok-check_job.ensures.refusal _ held)

pub returns-clause-job : goal.returns-clause-job
returns-clause-job c =
    let a = c.args in
    let h = c.in_ok-header.header in
    let k = c.in_ok-header.ensures.header in
    let held = stored a.frame.now (arrays a.end1.now a.end2.now a.cost.now a.mark.now a.ts.now a.mask.now)
    (columns c.load_job.new.end1 c.load_job.new.end2 c.load_job.new.cost c.load_job.new.mark) c.in_ok-header.header.nodes
    c.in_ok-header.header.edges (λ i. (c.type_inv.frame i).fits) (layout_zero a.frame.now h k) c.requires c.in_ok-header.ensures.links
    (header_nodes a.frame.now h k) (header_edges a.frame.now h k) in
    c.in_ok-check_job.ensures.held _ held
