-- Each return of `check_list` is the first "no", by the tests that led there. Assumes nothing.
use Rattle.std.proofs.Common.{ℕ, ◌≡◌, Bool, min, sym, ap, ◌∙◌}
use Rattle.frame.specs.Arrays.{Columns, columns}
use Rattle.links.specs.Columns.{links_small}
use Rattle.links.specs.ListLaws.{check_large_nodes, check_large_edges, check_large, check_empty, check_nodes, check_edges, check_passed}
use Rattle.links.proofs.check_list.Goals as goal

-- question 1 of the links held
answered : (h : Columns) (n e : ℕ) (r : Bool) → n ≡ min e 256 → r ≡ links_small n h → links_small (min e 256) h ≡ r
answered h n e r k a = sym (a ∙ ap (λ (m : ℕ). links_small m h) k)

pub returns-then-nodes-gt-MOST_NUMBER : goal.returns-then-nodes-gt-MOST_NUMBER
returns-then-nodes-gt-MOST_NUMBER c = sym (check_large_nodes c.args.nodes c.args.edges _ c.requires c.if-nodes-gt-MOST_NUMBER.true)

pub returns-then-edges-gt-MOST_LENGTH : goal.returns-then-edges-gt-MOST_LENGTH
returns-then-edges-gt-MOST_LENGTH c =
    sym (check_large_edges c.args.nodes c.args.edges _ c.requires c.if-nodes-gt-MOST_NUMBER.false c.if-edges-gt-MOST_LENGTH.true)

pub returns-then-not-links_small : goal.returns-then-not-links_small
returns-then-not-links_small c =
    let h = columns c.args.end1.now c.args.end2.now c.args.cost.now c.args.mark.now in
    sym (check_large c.args.nodes c.args.edges h c.requires c.if-nodes-gt-MOST_NUMBER.false c.if-edges-gt-MOST_LENGTH.false
    (answered h _ c.args.edges _ c.held-n.ensures c.links_small.ensures ∙ c.if-not-links_small.true))

pub returns-then-nodes-lt1 : goal.returns-then-nodes-lt1
returns-then-nodes-lt1 c =
    let h = columns c.args.end1.now c.args.end2.now c.args.cost.now c.args.mark.now in
    sym (check_empty c.args.nodes c.args.edges h c.requires
    (answered h _ c.args.edges _ c.held-n.ensures c.links_small.ensures ∙ c.if-not-links_small.false)
    c.if-nodes-gt-MOST_NUMBER.false c.if-edges-gt-MOST_LENGTH.false c.if-nodes-lt1.true)

pub returns-then-nodes-gt-MOST_NODES : goal.returns-then-nodes-gt-MOST_NODES
returns-then-nodes-gt-MOST_NODES c =
    let h = columns c.args.end1.now c.args.end2.now c.args.cost.now c.args.mark.now in
    sym (check_nodes c.args.nodes c.args.edges h c.requires
    (answered h _ c.args.edges _ c.held-n.ensures c.links_small.ensures ∙ c.if-not-links_small.false)
    c.if-nodes-gt-MOST_NUMBER.false c.if-edges-gt-MOST_LENGTH.false c.if-nodes-lt1.false c.if-nodes-gt-MOST_NODES.true)

pub returns-then-edges-gt-MOST_COUNT : goal.returns-then-edges-gt-MOST_COUNT
returns-then-edges-gt-MOST_COUNT c =
    let h = columns c.args.end1.now c.args.end2.now c.args.cost.now c.args.mark.now in
    sym (check_edges c.args.nodes c.args.edges h c.requires
    (answered h _ c.args.edges _ c.held-n.ensures c.links_small.ensures ∙ c.if-not-links_small.false)
    c.if-nodes-gt-MOST_NUMBER.false c.if-edges-gt-MOST_LENGTH.false c.if-nodes-lt1.false c.if-nodes-gt-MOST_NODES.false
    c.if-edges-gt-MOST_COUNT.true)

pub returns : goal.returns
returns c =
    let h = columns c.args.end1.now c.args.end2.now c.args.cost.now c.args.mark.now in
    sym (check_passed c.args.nodes c.args.edges h c.requires
    (answered h _ c.args.edges _ c.held-n.ensures c.links_small.ensures ∙ c.if-not-links_small.false)
    c.if-nodes-gt-MOST_NUMBER.false c.if-edges-gt-MOST_LENGTH.false c.if-nodes-lt1.false c.if-nodes-gt-MOST_NODES.false
    c.if-edges-gt-MOST_COUNT.false)
