-- Each return of `read_counts` is a case of `counts_of`, by the tests that led there. Assumes nothing.
use Rattle.std.proofs.Common.{sym, ◌∙◌, arith}
use Rattle.std.proofs.lemmas.Result.{err_from_is_err_and}
use Rattle.limits.specs.declared.Refusal.TheVariants.{Numbers}
use Rattle.limits.specs.ResultLaws.{same_err}
use Rattle.job.specs.CountLaws.{counts_undivided, counts_few, counts_empty, counts_nodes, counts_edges, counts_wrong, counts_right}
use Rattle.job.proofs.read_counts.Goals as goal

pub returns-in_err-count : goal.returns-in_err-count
returns-in_err-count c =
    let p = err_from_is_err_and c.from_residual.result c.from_residual.ensures.1 in
    let none = c.in_err-count.ensures.ok_part in
    let said = same_err c.in_err-count.field-0.0 Numbers (rw none at c.in_err-count.ensures.value) in
    rw (p.1, p.2, said) (sym (counts_undivided c.args.frame.now (sym c.count_numbers.ensures ∙ none)))

pub returns-then-count-lt2 : goal.returns-then-count-lt2
returns-then-count-lt2 c =
    sym (counts_few c.args.frame.now c.in_ok-count.count (sym c.count_numbers.ensures ∙ c.in_ok-count.ensures.ok_part) c.if-count-lt2.true)

pub returns-then-nodes-lt1 : goal.returns-then-nodes-lt1
returns-then-nodes-lt1 c =
    sym (counts_empty c.args.frame.now c.in_ok-count.count (sym c.count_numbers.ensures ∙ c.in_ok-count.ensures.ok_part)
    (λ i. (c.type_inv.frame i).fits) c.if-count-lt2.false c.number_at-nodes.result c.number_at-edges.result
    c.number_at-nodes.ensures c.number_at-edges.ensures c.if-nodes-lt1.true)

pub returns-then-nodes-gt-MOST_NODES : goal.returns-then-nodes-gt-MOST_NODES
returns-then-nodes-gt-MOST_NODES c =
    sym (counts_nodes c.args.frame.now c.in_ok-count.count (sym c.count_numbers.ensures ∙ c.in_ok-count.ensures.ok_part)
    (λ i. (c.type_inv.frame i).fits) c.if-count-lt2.false c.number_at-nodes.result c.number_at-edges.result
    c.number_at-nodes.ensures c.number_at-edges.ensures c.if-nodes-gt-MOST_NODES.true)

pub returns-then-edges-gt-MOST_EDGES : goal.returns-then-edges-gt-MOST_EDGES
returns-then-edges-gt-MOST_EDGES c =
    sym (counts_edges c.args.frame.now c.in_ok-count.count (sym c.count_numbers.ensures ∙ c.in_ok-count.ensures.ok_part)
    (λ i. (c.type_inv.frame i).fits) c.if-count-lt2.false c.number_at-nodes.result c.number_at-edges.result
    c.number_at-nodes.ensures c.number_at-edges.ensures c.if-edges-gt-MOST_EDGES.true)

pub returns-then-count-edges : goal.returns-then-count-edges
returns-then-count-edges c =
    sym (counts_wrong c.args.frame.now c.in_ok-count.count (sym c.count_numbers.ensures ∙ c.in_ok-count.ensures.ok_part)
    (λ i. (c.type_inv.frame i).fits) c.if-count-lt2.false c.number_at-nodes.result c.number_at-edges.result
    c.number_at-nodes.ensures c.number_at-edges.ensures c.if-nodes-lt1.false c.if-nodes-gt-MOST_NODES.false (omega arith)
    (λ q. omega (arith, q, c.if-count-edges.true)))

pub returns : goal.returns
returns c =
    sym (counts_right c.args.frame.now c.in_ok-count.count (sym c.count_numbers.ensures ∙ c.in_ok-count.ensures.ok_part)
    (λ i. (c.type_inv.frame i).fits) c.if-count-lt2.false c.number_at-nodes.result c.number_at-edges.result
    c.number_at-nodes.ensures c.number_at-edges.ensures c.if-nodes-lt1.false c.if-nodes-gt-MOST_NODES.false (omega arith)
    (omega arith))
