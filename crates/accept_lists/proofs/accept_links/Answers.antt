-- `accept_lists::accept_links` meets its contract: the word and the counts are asked first, then the arrays. Assumes nothing.
use Rattle.std.proofs.Common.{arith, sym, ap, subst, ◌∙◌, ◌≡◌, take}
use Rattle.std.proofs.lemmas.Result.{err_from_is_err_and}
use Rattle.limits.specs.ResultLaws.{refusal_nonzero}
use Rattle.frame.specs.Job.{Job}
use Rattle.frame.specs.Questions.{list_refusal}
use Rattle.frame.specs.Arrays.{columns, arrays}
use Rattle.held.specs.Held.{Held}
use Rattle.accept.specs.ListJobs.{list_job}
use Rattle.accept_lists.specs.Given.{count_refusal}
use Rattle.accept_lists.specs.ListJobLaws.{list_count_few, columns_held, columns_job}
use Rattle.accept_lists.specs.ListAcceptLaws.{list_refused, list_held}
use Rattle.accept_lists.proofs.accept_links.Goals as goal

-- the word and the counts refuse
pub returns-in_err-check_counts-clause-list : goal.returns-in_err-check_counts-clause-list
returns-in_err-check_counts-clause-list c =
    let p = err_from_is_err_and c.from_residual.result c.from_residual.ensures.1 in
    let said = c.in_err-check_counts.ensures in
    rw (p.1, p.2)
    record { refused = λ _. said; said = λ z. absurd (refusal_nonzero c.in_err-check_counts.field-0.0 (said ∙ z)) }

pub accept_list-requires-clause-list_held : goal.accept_list-requires-clause-list_held
accept_list-requires-clause-list_held c =
    let a = c.args in
    let e = c.spread.ensures in
    let n = c.spread.new in
    columns_held a.list.count a.list.links (arrays a.end1.now a.end2.now a.cost.now a.mark.now a.ts.now a.mask.now)
    (columns n.end1 n.end2 n.cost n.mark) (omega arith) c.requires e.end1 e.end2 e.cost e.mark

-- they refuse nothing; then the refusal that was found is that of the job
pub returns-in_err-accept_list-clause-list : goal.returns-in_err-accept_list-clause-list
returns-in_err-accept_list-clause-list c =
    let a = c.args in
    let e = c.spread.ensures in
    let n = c.spread.new in
    let found = c.accept_list.new in
    let z : count_refusal a.nodes a.list.count a.list.small ≡ 0 = sym c.in_ok-check_counts.ensures in
    let is = columns_job a.list.count a.list.links (arrays a.end1.now a.end2.now a.cost.now a.mark.now a.ts.now a.mask.now)
    (columns n.end1 n.end2 n.cost n.mark) (omega arith) c.requires e.end1 e.end2 e.cost e.mark
    (list_count_few a.nodes a.list.count a.list.small z) a.nodes in
    let p = err_from_is_err_and c.from_residual-in_err-accept_list.result c.from_residual-in_err-accept_list.ensures.1 in
    rw (p.1, p.2)
    record {
      refused = λ w. absurd (w z);
      said = λ _.
          list_refused (list_job a.nodes (take a.list.count a.list.links)) c.in_err-accept_list.field-0.0
          (arrays n.end1 n.end2 n.cost n.mark found.ts found.mask) (c.in_err-accept_list.ensures.refusal ∙ ap list_refusal is);
    }

pub returns-clause-list : goal.returns-clause-list
returns-clause-list c =
    let a = c.args in
    let e = c.spread.ensures in
    let n = c.spread.new in
    let found = c.accept_list.new in
    let z : count_refusal a.nodes a.list.count a.list.small ≡ 0 = sym c.in_ok-check_counts.ensures in
    let is = columns_job a.list.count a.list.links (arrays a.end1.now a.end2.now a.cost.now a.mark.now a.ts.now a.mask.now)
    (columns n.end1 n.end2 n.cost n.mark) (omega arith) c.requires e.end1 e.end2 e.cost e.mark
    (list_count_few a.nodes a.list.count a.list.small z) a.nodes in
    record {
      refused = λ w. absurd (w z);
      said = λ _.
          list_held (list_job a.nodes (take a.list.count a.list.links)) a.nodes a.list.count _
          (sym (c.in_ok-accept_list.ensures.refusal ∙ ap list_refusal is))
          (subst (λ (j : Job). Held j a.nodes a.list.count (arrays n.end1 n.end2 n.cost n.mark found.ts found.mask)) is
          c.in_ok-accept_list.ensures.held);
    }
