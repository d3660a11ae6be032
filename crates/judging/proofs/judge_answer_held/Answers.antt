-- `judging::judge_answer_held` meets its contract: an accepted job's arrays are what the judge of
-- answers asks for, and the word is the definition's. Assumes nothing.
use Rattle.std.proofs.Common.{sym}
use Rattle.accept.specs.AskedLaws.{asked_number}
use Rattle.judging.proofs.VerdictLaws.{answer_judged_of}
use Rattle.judging.proofs.judge_answer_held.Goals as goal

pub certify-certified-requires : goal.certify-certified-requires
certify-certified-requires g c = rw c.in-Ok.is at c.requires

pub returns : goal.returns
returns g c =
    rw c.in-Ok.is
    record {
      judged = λ s asked.
          answer_judged_of s asked.bytes _ (λ i. (c.type_inv.offered i).fits) _
          (record { number = sym (asked_number asked); word_is = c.certify-certified.ensures _ asked.held });
      refused = tt;
    }
