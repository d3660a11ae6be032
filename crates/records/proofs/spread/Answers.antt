-- None is put at first, and one more each turn.
use Rattle.std.proofs.Common.{arith}
use Rattle.records.proofs.RecordsLaws.{filled_none, filled_more}
use Rattle.records.proofs.spread.Goals as goal

pub loop-i-init : goal.loop-i-init
loop-i-init c = let a = c.args in record {
  few = omega arith;
  ends1 = filled_none (λ r. r.end1) a.links a.end1.now;
  ends2 = filled_none (λ r. r.end2) a.links a.end2.now;
  costs = filled_none (λ r. r.cost) a.links a.cost.now;
  marks = filled_none (λ r. r.mark) a.links a.mark.now;
}

pub loop-i-preserved : goal.loop-i-preserved
loop-i-preserved c = let a = c.args in let l = c.loop-i in let v = l.invariant in record {
  few = v.few;
  ends1 = filled_more (λ r. r.end1) 256 l.i a.links a.end1.now l.end1 (omega arith) c.requires.0 v.ends1 (omega arith);
  ends2 = filled_more (λ r. r.end2) 256 l.i a.links a.end2.now l.end2 (omega arith) c.requires.1 v.ends2 (omega arith);
  costs = filled_more (λ r. r.cost) 256 l.i a.links a.cost.now l.cost (omega arith) c.requires.2 v.costs (omega arith);
  marks = filled_more (λ r. r.mark) 256 l.i a.links a.mark.now l.mark (omega arith) c.requires.3 v.marks (omega arith);
}
