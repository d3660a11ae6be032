-- The links passed are small as `small` says, and their first 256 stand in the array, zeros behind.
use Rattle.std.proofs.Common.{◌≡◌, take, length}
use Rattle.records.specs.Records.{first_links, small_to}
use Rattle.records.proofs.copy_list.Given as goal

abbrev pub invariant-loop-i : goal.invariant-loop-i
invariant-loop-i l = record {
  told : l.small ≡ small_to l.i l.list;
  copied : l.copy.links ≡ first_links 256 (take l.i l.list);
  count : l.copy.count ≡ length l.list;
}
