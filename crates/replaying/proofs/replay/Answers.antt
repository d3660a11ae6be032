-- `replaying::replay` meets its contract: the frame is asked the six questions, and the log replayed over its job. Assumes nothing.
use Rattle.frame.specs.Questions.{job_of}
use Rattle.accept.specs.AskedLaws.{some_held}
use Rattle.replaying.proofs.replay.Goals as goal

pub replay_held-requires : goal.replay_held-requires
replay_held-requires c = some_held _ (job_of c.args.frame.now) _ c.accept-accepted.ensures.job

pub returns : goal.returns
returns c =
    c.replay_held.ensures _
    (record {
      bytes = λ i. (c.type_inv.frame i).fits;
      headed = c.accept-accepted.ensures.header;
      held = c.accept-accepted.ensures.job;
    })
