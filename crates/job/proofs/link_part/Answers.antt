-- The part lies between the position behind the numbers before the link and the one behind its four. Assumes nothing.
use Rattle.std.proofs.Common.{arith, sym}
use Rattle.job.specs.Finding.{found, find_none, skip_on, part_within, find_place}
use Rattle.job.proofs.link_part.Goals as goal

pub returns-then-edges-e-clause-place : goal.returns-then-edges-e-clause-place
returns-then-edges-e-clause-place g c =
    let f = found c.args.frame.now (λ i. (c.type_inv.frame i).fits) c.in-Ok.header (rw c.in-Ok.is at c.requires) in
    rw c.in-Ok.is (sym (find_none c.args.frame.now c.in-Ok.header f c.args.edge.0 c.if-edges-e.true))

pub overflow_sub-result : goal.overflow_sub-result
overflow_sub-result g c = omega (arith, c.skip-end.ensures, skip_on c.args.frame.now 4 0 c.skip-first.result)

pub returns-clause-place : goal.returns-clause-place
returns-clause-place g c =
    let f = found c.args.frame.now (λ i. (c.type_inv.frame i).fits) c.in-Ok.header (rw c.in-Ok.is at c.requires) in
    rw c.in-Ok.is
    (find_place c.args.frame.now c.in-Ok.header f c.args.edge.0 c.skip-first.result c.skip-end.result c.if-edges-e.false
    c.skip-first.ensures c.skip-end.ensures)

pub returns-clause-within : goal.returns-clause-within
returns-clause-within g c =
    let f = found c.args.frame.now (λ i. (c.type_inv.frame i).fits) c.in-Ok.header (rw c.in-Ok.is at c.requires) in
    part_within c.args.frame.now c.in-Ok.header f c.args.edge.0 c.skip-first.result c.skip-end.result c.if-edges-e.false
    c.skip-first.ensures c.skip-end.ensures
