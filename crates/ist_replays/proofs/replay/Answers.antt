-- `ist_replays::replay` meets its contract: the reply's number, its length and the number of packets. Assumes nothing.
use native.Mathlib.Omega.{arith}
use mathlib.Core.Path.{refl, sym, ◌∙◌}
use Rattle.std.specs.Prelude.{Ok, Err}
use Rattle.codes.specs.ExportLaws.{reply_read}
use Rattle.ist_replays.specs.ToldLaws.{never_told, never_or}
use Rattle.ist_replays.proofs.replay.Goals as goal

pub returns-in-Ok : goal.returns-in-Ok
returns-in-Ok c =
    let first = c.unwrap_or.ensures ∙ never_or c.in-Ok.done.first in
    record {
      said = Ok c.in-Ok.done;
      number = reply_read (Ok c.in-Ok.done) _ c.tell.ensures.number;
      length = c.tell.ensures.length;
      count = first;
      never = λ e. never_told _ _ _ (Ok c.in-Ok.done) _ (omega arith) c.in-Ok.ensures (sym first ∙ e);
      told = c.in-Ok.ensures;
    }

pub returns-in-Err : goal.returns-in-Err
returns-in-Err c =
    record {
      said = Err c.in-Err.refusal;
      number = reply_read {A = Unit {0}} (Err c.in-Err.refusal) _ c.tell-in-Err.ensures.number;
      length = c.tell-in-Err.ensures.length;
      count = refl;
      never = λ _. refl;
      told = c.in-Err.ensures;
    }
