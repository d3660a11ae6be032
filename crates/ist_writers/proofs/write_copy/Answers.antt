-- `ist_writers::write_copy` meets its contract: the reply's number and length. Assumes nothing.
use Rattle.listed.proofs.LentLaws.{lent_as, lent_written}
use Rattle.codes.specs.ExportLaws.{reply_read}
use Rattle.ist_writers.proofs.write_copy.Goals as goal

pub returns : goal.returns
returns c = λ ys copy.
    let a = c.args in
    let told = lent_written a.stations ys _ _ _ (lent_as a.stations ys _ _ copy c.write_links-frame.ensures) in
    record {
      reply = c.write_links-frame.result;
      number = reply_read _ _ c.tell-said.ensures.number;
      length = c.tell-said.ensures.length;
      told = told;
    }
