-- Each array holds the number of the links passed, and behind them what it held.
use Rattle.std.proofs.Common.{◌≡◌, ◌≤◌}
use Rattle.records.specs.Records.{column_put}
use Rattle.records.proofs.spread.Given as goal

abbrev pub invariant-loop-i : goal.invariant-loop-i
invariant-loop-i l = record {
  few : l.n ≤ 256;
  ends1 : l.end1 ≡ column_put (λ r. r.end1) l.i l.links l.initial.end1;
  ends2 : l.end2 ≡ column_put (λ r. r.end2) l.i l.links l.initial.end2;
  costs : l.cost ≡ column_put (λ r. r.cost) l.i l.links l.initial.cost;
  marks : l.mark ≡ column_put (λ r. r.mark) l.i l.links l.initial.mark;
}
