-- So many bytes have been counted, and those of the rest follow.
use Rattle.std.proofs.Common.{◌≡◌, ◌+◌, ◌-◌, length}
use Rattle.number.specs.Number.{encode}
use Rattle.leb128_write.proofs.size.Given as goal

abbrev pub invariant-loop-k : goal.invariant-loop-k
invariant-loop-k l = length (encode l.most l.x) ≡ l.k + length (encode (l.most - l.k) l.rest)
