-- `finding::locate_cost_held` meets its contract: an error finds nowhere, and an answer that is judged yes has the new cost of
-- each link. Assumes nothing.
use native.Mathlib.Omega.{arith}
use mathlib.Core.Path.{refl, ap, ◌∙◌}
use Rattle.std.specs.Prelude.{true, Ok}
use Rattle.accept.specs.AskedLaws.{asked_edges, held_asked}
use Rattle.finding.specs.PartLaws.{cost_unlinked, cost_denied, cost_in, cost_handed}
use Rattle.finding.proofs.locate_cost_held.Goals as goal

pub returns-then-header-e-clause-located : goal.returns-then-header-e-clause-located
returns-then-header-e-clause-located g c =
    rw c.in-Ok.is
    (λ s asked.
    cost_unlinked s c.args.offered.now asked.bytes (λ i. (c.type_inv.offered i).fits) c.args.edge.0
    (λ z. omega (arith, c.if-header-e.true, asked_edges asked)))

pub returns-in_default-verdict-clause-located : goal.returns-in_default-verdict-clause-located
returns-in_default-verdict-clause-located g c =
    rw c.in-Ok.is
    (λ s k.
    cost_denied s c.args.offered.now k.bytes (λ i. (c.type_inv.offered i).fits) c.args.edge.0
    (rw c.in_default-verdict.field-0-test at c.in_default-verdict.ensures.judged s k))

pub cost_part-requires : goal.cost_part-requires
cost_part-requires g c =
    let yes = c.in-Ok-true.is ∙ ap Ok c.in-Ok-true.field-0-test in
    let (s, k) = held_asked (rw c.in-Ok.is at c.requires) in
    let judged = c.judge_answer_held-verdict.ensures.judged s k in
    cost_in s c.args.offered.now k.bytes (λ i. (c.type_inv.offered i).fits) c.args.edge.0
    (omega (arith, c.if-header-e.false, asked_edges k)) (Ok true) (rw yes at judged) refl

pub returns-clause-located : goal.returns-clause-located
returns-clause-located g c =
    let yes = c.in-Ok-true.is ∙ ap Ok c.in-Ok-true.field-0-test in
    rw c.in-Ok.is
    (λ s k.
    let judged = c.judge_answer_held-verdict.ensures.judged s k in
    cost_handed s c.args.offered.now k.bytes (λ i. (c.type_inv.offered i).fits) c.args.edge.0
    (omega (arith, c.if-header-e.false, asked_edges k)) (Ok true) (rw yes at judged) refl _
    c.cost_part.ensures.place c.cost_part.ensures.within)
