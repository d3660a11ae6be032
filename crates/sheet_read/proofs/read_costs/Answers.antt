-- `sheet_read::read_costs` meets its contract: as many numbers as links, each in its place. Assumes nothing.
use native.Mathlib.Omega.{arith}
use mathlib.Core.Path.{sym}
use Rattle.sheet_read.specs.ApplyLaws.{costs_undivided, costs_stand, costs_read}
use Rattle.sheet_read.proofs.read_costs.Goals as goal

pub returns-in_default : goal.returns-in_default
returns-in_default c = costs_undivided c.args.edges _ (sym c.in_default.ensures)

pub read_numbers-requires-clause-numbers : goal.read_numbers-requires-clause-numbers
read_numbers-requires-clause-numbers c =
    costs_stand c.args.edges _ _ (sym c.in-Some.ensures) (λ i. (c.type_inv.frame i).fits) (omega arith)

pub returns : goal.returns
returns c =
    costs_read c.args.edges _ _ (sym c.in-Some.ensures) (λ i. (c.type_inv.frame i).fits) (omega arith) _ c.args.costs.now _
    (omega arith) c.read_numbers.ensures
