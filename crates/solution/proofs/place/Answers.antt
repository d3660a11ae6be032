-- `solution::place` meets its contract. Assumes nothing.
use Rattle.std.proofs.Common.{ℕ, sym, ap, ◌∙◌, length, get_or, length-set}
use Rattle.std.proofs.lemmas.List.{length-replicate}
use Rattle.solution.specs.PlaceLaws.{costs_start, costs_turn, costs_end, partners_start, partners_turn, partners_end}
use Rattle.solution.proofs.place.Goals as goal

pub loop-k-init : goal.loop-k-init
loop-k-init c =
    let a = c.args in
    let empty = c.requires.empty in (
      c.requires.length,
      ap length empty ∙ length-replicate {A = ℕ} 256 0,
      costs_start a.slots a.ts.now a.ss.now a.links.now a.spare.now a.label.now (λ e. get_or a.costs.now e 0),
      partners_start a.slots a.ts.now a.ss.now a.links.now a.spare.now a.label.now a.mate.now empty,
    )

pub loop-k-preserved : goal.loop-k-preserved
loop-k-preserved c =
    let l = c.loop-k in
    let a = c.args in
    let named = c.requires.pairs in (
      simp length-set l.invariant.0,
      simp length-set l.invariant.1,
      sym (costs_turn a.slots a.ts.now a.ss.now a.links.now a.spare.now a.label.now l.k named c.loop-k-test.true l.costs
          l.invariant.0)
          ∙ l.invariant.2,
      sym (partners_turn a.slots a.ts.now a.ss.now a.links.now a.spare.now a.label.now l.k named c.loop-k-test.true l.mate
          l.invariant.1)
          ∙ l.invariant.3,
    )

pub returns-clause-costs : goal.returns-clause-costs
returns-clause-costs c =
    let l = c.loop-k in
    let a = c.args in
    sym (costs_end a.slots a.ts.now a.ss.now a.links.now a.spare.now a.label.now l.k (λ e. get_or l.costs e 0) c.loop-k-test.false)
    ∙ l.invariant.2

pub returns-clause-mate : goal.returns-clause-mate
returns-clause-mate c =
    let l = c.loop-k in
    let a = c.args in
    sym (partners_end a.slots a.ts.now a.ss.now a.links.now a.spare.now a.label.now l.k (λ e. get_or l.mate e 0) c.loop-k-test.false)
    ∙ l.invariant.3
