-- `ist_readers::read_job` meets its contract: what is said of the job, in numbers. Assumes nothing.
use mathlib.Core.Path.{refl, ap, ◌∙◌}
use Rattle.std.specs.Prelude.{Ok, Err, pos}
use Rattle.codes.specs.Exports.{told}
use Rattle.codes.specs.ExportLaws.{reply_read, told_refusal}
use Rattle.ist_readers.proofs.read_job.Goals as goal

pub returns-in-Ok : goal.returns-in-Ok
returns-in-Ok c = record { said = Ok c.in-Ok.copy; number = refl; nodes = refl; links = refl; told = c.in-Ok.ensures }

pub returns-in-Err : goal.returns-in-Err
returns-in-Err c =
    let q = c.in-Err.refusal in
    record {
      said = Err q;
      number = reply_read {A = Unit {0}} (Err q) _ (c.number.ensures ∙ ap pos (ap told c.from.ensures ∙ told_refusal q));
      nodes = refl;
      links = refl;
      told = c.in-Err.ensures;
    }
