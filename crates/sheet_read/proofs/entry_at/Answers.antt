-- `sheet_read::entry_at` meets its contract: a link, and its code behind it. Assumes nothing.
use mathlib.Core.Path.{sym, ◌∙◌}
use Rattle.sheet_read.specs.ApplyLaws.{no_link_lem, no_code, entry_whole}
use Rattle.sheet_read.proofs.entry_at.Goals as goal

pub returns-in_err-link : goal.returns-in_err-link
returns-in_err-link c = c.from_residual.ensures ∙ no_link_lem _ _ (sym c.in_err-link.ensures)

pub returns-in_err-code : goal.returns-in_err-code
returns-in_err-code c =
    c.from_residual-in_err-code.ensures ∙ no_code _ c.args.at _ (sym c.in_ok-link.ensures) (sym c.in_err-code.ensures)

pub returns : goal.returns
returns c = entry_whole _ c.args.at _ (sym c.in_ok-link.ensures) _ (sym c.in_ok-code.ensures)
