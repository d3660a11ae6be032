-- Bytes from 128 on have been passed, and the rest of the number is still to be read.
use Rattle.std.proofs.Common.{◌≡◌, ◌-◌, ◌^◌, ◌<◌}
use Rattle.leb128.specs.Positions.{read_at}
use Rattle.leb128.proofs.Steps.{behind}
use Rattle.leb128.proofs.known.Given as goal

abbrev pub invariant-loop : goal.invariant-loop
invariant-loop l = record {
  weight : l.weight ≡ 128 ^ l.counter;
  groups : l.value < l.weight;
  rest : read_at l.most l.bytes l.at ≡ behind l.value l.weight (read_at (l.most - l.counter) l.bytes l.next);
}
