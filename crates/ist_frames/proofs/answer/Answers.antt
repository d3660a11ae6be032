-- `ist_frames::answer` meets its contract: the reply's number and length. Assumes nothing.
use Rattle.codes.specs.ExportLaws.{reply_read}
use Rattle.ist_frames.proofs.answer.Goals as goal

pub returns : goal.returns
returns c =
    record {
      reply = c.answer-reply.result;
      number = reply_read _ _ c.tell-told.ensures.number;
      length = c.tell-told.ensures.length;
      told = c.answer-reply.ensures;
    }
