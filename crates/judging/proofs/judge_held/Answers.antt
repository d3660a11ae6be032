-- `judging::judge_held` meets its contract: an accepted job's arrays are judged, and the word is the definition's.
-- Assumes nothing.
use Rattle.held.specs.HeldLaws.{some_node, paths_held}
use Rattle.certify.specs.JudgedLaws.{judged_held, falls_held, judge_held}
use Rattle.std.proofs.Common.{sym, ◌∙◌}
use Rattle.accept.specs.AskedLaws.{asked_number}
use Rattle.judging.proofs.VerdictLaws.{tree_judged_of}
use Rattle.judging.proofs.judge_held.Goals as goal

pub overflow_sub-count : goal.overflow_sub-count
overflow_sub-count g c = some_node (rw c.in-Ok.is at c.requires).1

pub judge_ranked-holds-requires : goal.judge_ranked-holds-requires
judge_ranked-holds-requires g c =
    let (j, h) = rw c.in-Ok.is at c.requires in
    record { judged = judged_held h; fall_along = falls_held h _ }

pub returns : goal.returns
returns g c =
    rw c.in-Ok.is
    record {
      judged = λ s asked.
          tree_judged_of s asked.bytes _
          (record {
            number = sym (asked_number asked);
            word_is = c.judge_ranked-holds.ensures _ (paths_held asked.held) ∙ judge_held asked.held;
          });
      refused = tt;
    }
