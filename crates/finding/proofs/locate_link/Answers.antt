-- `finding::locate_link` meets its contract: a refused frame has no links, and the finder's core is handed an accepted one's
-- counts. Assumes nothing.
use native.Mathlib.Omega.{arith}
use mathlib.Core.Path.{sym}
use Rattle.std.specs.Prelude.{Ok, Err}
use Rattle.limits.specs.Refusals.{number_of}
use Rattle.limits.specs.ResultLaws.{refusal_nonzero}
use Rattle.job.specs.Finding.{find_refused}
use Rattle.finding.specs.PartLaws.{header_read, link_located}
use Rattle.finding.proofs.locate_link.Goals as goal

pub returns-in_default : goal.returns-in_default
returns-in_default c =
    let a = c.args in
    let q = c.in_default.field-0 in
    link_located a.frame.now (λ i. (c.type_inv.frame i).fits) (Err q) (rw c.in_default.is at c.accept-accepted.ensures.header)
    a.edge.0 _ (sym (find_refused (number_of q) a.frame.now a.edge.0 (refusal_nonzero q))) (omega arith)

pub link_part-requires : goal.link_part-requires
link_part-requires c =
    header_read c.args.frame.now (Ok c.in-Ok.header) (rw c.in-Ok.is at c.accept-accepted.ensures.header)

pub returns : goal.returns
returns c =
    let a = c.args in
    link_located a.frame.now (λ i. (c.type_inv.frame i).fits) (Ok c.in-Ok.header)
    (rw c.in-Ok.is at c.accept-accepted.ensures.header) a.edge.0 _ c.link_part.ensures.place c.link_part.ensures.within
