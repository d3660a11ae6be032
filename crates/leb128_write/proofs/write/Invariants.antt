-- What is still to be put follows the bytes that have been put.
use Rattle.std.proofs.Common.{◌≡◌, ◌+◌, ◌-◌, length}
use Rattle.std.proofs.lemmas.List.Edits.{sets}
use Rattle.number.specs.Number.{encode}
use Rattle.leb128_write.proofs.write.Given as goal

abbrev pub invariant-loop : goal.invariant-loop
invariant-loop l = record {
  next : l.at + length (encode l.most l.x) ≡ l.next + length (encode (l.most - l.counter) l.rest);
  area : sets l.fn.area l.at (encode l.most l.x) ≡ sets l.area l.next (encode (l.most - l.counter) l.rest);
}
