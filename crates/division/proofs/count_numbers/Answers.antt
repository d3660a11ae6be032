use Rattle.std.proofs.Common.{sym, ◌∙◌, arith}
use Rattle.division.specs.CountingLaws.{read_further, count_turn, count_refused, count_end}
use Rattle.division.proofs.count_numbers.Goals as goal

pub returns-in_err-at : goal.returns-in_err-at
returns-in_err-at c =
    c.from_residual.ensures
    ∙ count_refused c.args.frame.now c.loop-at.at c.loop-at.count _ c.loop-at.invariant c.loop-at-test.true (sym c.in_err-at.ensures)

pub loop-at-smaller : goal.loop-at-smaller
loop-at-smaller c = omega (arith, read_further c.args.frame.now c.loop-at.at _ (sym c.in_ok-at.ensures))

pub loop-at-preserved : goal.loop-at-preserved
loop-at-preserved c =
    count_turn c.args.frame.now c.loop-at.at c.loop-at.count _ c.loop-at.invariant c.loop-at-test.true _ (sym c.in_ok-at.ensures)

pub returns : goal.returns
returns c = count_end _ _ _ _ c.loop-at.invariant c.loop-at-test.false
