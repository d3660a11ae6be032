-- A copy to a part of the buffer is a run of stores.
use Rattle.std.proofs.Common.{refl}
use Rattle.text.proofs.TextLaws.{range_copied}
use Rattle.text.proofs.put.Goals as goal

pub returns : goal.returns
returns c =
    let copied = range_copied c.args.out.now c.args.part.now c.args.at c.requires in
    record { next = refl; area = rw c.copy_from_slice.ensures.after copied }
