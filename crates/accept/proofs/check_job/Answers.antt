-- `accept::check_job` meets its contract: questions 4 and 5 are asked first; then the count of tree links and the paths that
-- join them decide question 6, and what was found is held. Assumes nothing.
use Rattle.std.proofs.Common.{refl}
use Rattle.std.proofs.lemmas.Result.{err_from_is_err_and}
use Rattle.limits.specs.ResultLaws.{refusal_nonzero}
use Rattle.accept.specs.ArrayLaws.{edges_most, costs_small, links_wrong, links_right, tree_listed}
use Rattle.accept.specs.ArrayLaws.{tree_ranked, tree_wrong, tree_right, tree_kept}
use Rattle.accept.proofs.check_job.Goals as goal

pub check_links-requires : goal.check_links-requires
check_links-requires c = let (j, k) = c.requires.stored in edges_most k

pub returns-in_err-check_links-clause-refusal : goal.returns-in_err-check_links-clause-refusal
returns-in_err-check_links-clause-refusal c j k =
    let p = err_from_is_err_and c.from_residual.result c.from_residual.ensures.1 in
    rw (p.1, p.2) (links_wrong k _ c.in_err-check_links.ensures (refusal_nonzero c.in_err-check_links.field-0.0))

pub tree_edges-count-requires : goal.tree_edges-count-requires
tree_edges-count-requires c = let (j, k) = c.requires.stored in (edges_most k, c.requires.ts_len, costs_small k)

pub question6-requires-clause-ends : goal.question6-requires-clause-ends
question6-requires-clause-ends c =
    let (j, k) = c.requires.stored in
    tree_ranked k (links_right k 0 c.in_ok-check_links.ensures refl)
    (tree_listed k c.args.ranked _ _ c.tree_edges-count.ensures.count c.tree_edges-count.ensures.edges c.tree_edges-count.ensures.size)

pub returns-then-not-question6-clause-refusal : goal.returns-then-not-question6-clause-refusal
returns-then-not-question6-clause-refusal c =
    λ j k.
    tree_wrong k (links_right k 0 c.in_ok-check_links.ensures refl)
    (tree_listed k c.args.ranked _ _ c.tree_edges-count.ensures.count c.tree_edges-count.ensures.edges c.tree_edges-count.ensures.size)
    c.question6.result c.question6.ensures.answer c.if-not-question6.true

pub returns-clause-refusal : goal.returns-clause-refusal
returns-clause-refusal c =
    λ j k.
    tree_right k (links_right k 0 c.in_ok-check_links.ensures refl)
    (tree_listed k c.args.ranked _ _ c.tree_edges-count.ensures.count c.tree_edges-count.ensures.edges c.tree_edges-count.ensures.size)
    c.question6.result c.question6.ensures.answer c.if-not-question6.false

pub returns-clause-held : goal.returns-clause-held
returns-clause-held c =
    λ j k.
    tree_kept k (links_right k 0 c.in_ok-check_links.ensures refl)
    (tree_listed k c.args.ranked _ _ c.tree_edges-count.ensures.count c.tree_edges-count.ensures.edges c.tree_edges-count.ensures.size)
    c.question6.result c.question6.ensures.answer c.if-not-question6.false
    c.args.ranked c.tree_edges-count.ensures.edges c.question6.new.mask (c.question6.ensures.walked c.if-not-question6.false)
