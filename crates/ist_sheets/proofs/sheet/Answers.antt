-- `ist_sheets::sheet` meets its contract: the reply's number and length. Assumes nothing.
use Rattle.codes.specs.ExportLaws.{reply_read}
use Rattle.ist_sheets.proofs.sheet.Goals as goal

pub returns : goal.returns
returns c =
    record {
      reply = c.sheet_of_costs-made.result;
      number = reply_read _ _ c.tell-said.ensures.number;
      length = c.tell-said.ensures.length;
      told = c.sheet_of_costs-made.ensures;
    }
