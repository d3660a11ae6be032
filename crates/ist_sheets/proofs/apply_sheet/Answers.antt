-- `ist_sheets::apply_sheet` meets its contract: the reply's number and length. Assumes nothing.
use Rattle.codes.specs.ExportLaws.{reply_read}
use Rattle.ist_sheets.proofs.apply_sheet.Goals as goal

pub returns : goal.returns
returns c =
    record {
      reply = c.costs_of_sheet-applied.result;
      number = reply_read _ _ c.tell-told.ensures.number;
      length = c.tell-told.ensures.length;
      told = c.costs_of_sheet-applied.ensures;
    }
