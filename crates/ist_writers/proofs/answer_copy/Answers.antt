-- `ist_writers::answer_copy` meets its contract: the reply's number and length. Assumes nothing.
use Rattle.listed.proofs.LentLaws.{lent_as, lent_answered}
use Rattle.codes.specs.ExportLaws.{reply_read}
use Rattle.ist_writers.proofs.answer_copy.Goals as goal

pub returns : goal.returns
returns c = λ ys copy.
    let a = c.args in
    let told = lent_answered a.stations ys _ _ _ (lent_as a.stations ys _ _ copy c.answer_links-reply.ensures) in
    record {
      reply = c.answer_links-reply.result;
      number = reply_read _ _ c.tell-told.ensures.number;
      length = c.tell-told.ensures.length;
      told = told;
    }
