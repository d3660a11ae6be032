-- `copying::copy_job` meets its contract: of a refused frame, or if the array is too short, nothing is copied.
-- Assumes nothing.
use native.Mathlib.Omega.{arith}
use Prim.Native.Nat.{◌*◌, ◌<◌, ◌≤◌}
use lib.ListN.{length}
use Rattle.std.proofs.lemmas.Result.{err_from_is_err_and}
use Rattle.copying.specs.ServiceLaws.{job_copy_refused, job_unfit, job_fit, job_few}
use Rattle.copying.proofs.copy_job.Goals as goal

pub returns-in_err-read : goal.returns-in_err-read
returns-in_err-read c =
    let p = err_from_is_err_and c.from_residual.result c.from_residual.ensures.1 in
    rw (p.1, p.2) (job_copy_refused c.args.frame.now c.args.links.now c.in_err-read.field-0.0 c.in_err-read.ensures)

pub returns-then-links-count : goal.returns-then-links-count
returns-then-links-count c =
    let short : length c.args.links.now < 4 * c.in_ok-read.read.count = omega (arith, c.if-links-count.true) in
    job_unfit c.args.frame.now c.args.links.now c.in_ok-read.read c.in_ok-read.ensures short

pub copy_links-requires-clause-count_bound : goal.copy_links-requires-clause-count_bound
copy_links-requires-clause-count_bound c =
    job_few c.args.frame.now c.args.links.now c.in_ok-read.read c.in_ok-read.ensures (λ i. (c.type_inv.frame i).fits)

-- the array is long enough
pub returns : goal.returns
returns c =
    let fits : 4 * c.in_ok-read.read.count ≤ length c.args.links.now = omega (arith, c.if-links-count.false) in
    job_fit c.args.frame.now c.args.links.now c.in_ok-read.read c.in_ok-read.ensures fits _ c.copy_links.ensures
