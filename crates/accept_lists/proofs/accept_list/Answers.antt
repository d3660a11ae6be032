-- `accept_lists::accept_list` meets its contract: questions 1 and 2 are asked first, then the others. Assumes nothing.
use Rattle.std.proofs.Common.{sym, ◌∙◌}
use Rattle.limits.specs.ResultLaws.{refusal_nonzero}
use Rattle.frame.specs.Arrays.{columns}
use Rattle.accept_lists.specs.ListLaws.{list_layout_passed, list_layout_refused, list_stored}
use Rattle.accept_lists.proofs.accept_list.Goals as goal

pub returns-in-Err-clause-refusal : goal.returns-in-Err-clause-refusal
returns-in-Err-clause-refusal c =
    let said = c.in-Err.ensures in
    said ∙ sym (list_layout_refused _ (λ z. refusal_nonzero c.in-Err.refusal (said ∙ z)))

pub check_job-requires-clause-stored : goal.check_job-requires-clause-stored
check_job-requires-clause-stored c =
    let a = c.args in (
      _,
      list_stored a.nodes a.edges (columns a.end1.now a.end2.now a.cost.now a.mark.now) c.requires.list_held
          (sym c.in-Ok.ensures),
    )

pub returns-in-Ok-clause-refusal : goal.returns-in-Ok-clause-refusal
returns-in-Ok-clause-refusal c =
    let a = c.args in
    let good = sym c.in-Ok.ensures in
    c.check_job.ensures.refusal _
    (list_stored a.nodes a.edges (columns a.end1.now a.end2.now a.cost.now a.mark.now) c.requires.list_held good) ∙
    sym (list_layout_passed _ good)

pub returns-in-Ok-clause-held : goal.returns-in-Ok-clause-held
returns-in-Ok-clause-held c =
    let a = c.args in
    c.check_job.ensures.held _
    (list_stored a.nodes a.edges (columns a.end1.now a.end2.now a.cost.now a.mark.now) c.requires.list_held
    (sym c.in-Ok.ensures))
