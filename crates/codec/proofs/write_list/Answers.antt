-- What fits is put, and numbers that are not measured do. Assumes nothing.
use Rattle.std.proofs.Common.{◌≤◌, ◌+◌, length, refl, arith}
use Rattle.frame.specs.Job.{bytes_of}
use Rattle.codec.specs.Numbers.{numbers_at}
use Rattle.codec.specs.ListLaws.{size_short}
use Rattle.codec.specs.WritingLaws.{put_whole}
use Rattle.codec.proofs.write_list.Goals as goal
use Rattle.codec.proofs.write_list.Goals.{then-area-count+else-area-total, else-area-count}

-- there is room for the bytes of the numbers
pub write_numbers-requires-clause-values_in_bounds : goal.write_numbers-requires-clause-values_in_bounds
write_numbers-requires-clause-values_in_bounds c =
    elim c.if-area-count.branch [
      | then-area-count+else-area-total w ↦ omega (arith, w.if-area-total.false, w.numbers_size-total.ensures)
      | else-area-count w ↦ omega (arith, w.if-area-count.false, size_short c.args.values.now c.args.count)
    ]

pub returns : goal.returns
returns c =
    let room : 0 + length (bytes_of (numbers_at c.args.count c.args.values.now)) ≤ length c.args.area.now =
    elim c.if-area-count.branch [
      | then-area-count+else-area-total w ↦ omega (arith, w.if-area-total.false, w.numbers_size-total.ensures)
      | else-area-count w ↦ omega (arith, w.if-area-count.false, size_short c.args.values.now c.args.count)
    ] in
    put_whole 0 (bytes_of (numbers_at c.args.count c.args.values.now)) 0 c.args.area.now _ _ refl room
    (omega (arith, c.write_numbers.ensures.next)) c.write_numbers.ensures.area
