-- One link more each turn: it is tested, and copied while there is room.
use Rattle.std.proofs.Common.{arith, sym, ◌≡◌, ◌<◌, ◌≤◌, refl, min, length, ◌+◌, take, get_or, get_or-take, length-take-le, ap, ◌∙◌}
use Rattle.records.specs.declared.ListCopy.{ListCopy}
use Rattle.limits.specs.Limits.{max_number}
use Rattle.records.specs.Records.{zero_link}
use Rattle.records.proofs.RecordsLaws.{firsts_none, firsts_more, firsts_full, firsts_all, small_none, small_more}
use Rattle.records.proofs.copy_list.Goals as goal
use Rattle.records.proofs.copy_list.Goals.{then-i-lt-MOST_COUNT, else-i-lt-MOST_COUNT}

pub loop-i-init : goal.loop-i-init
loop-i-init c = record {
  told = small_none c.args.list.now;
  copied = sym (firsts_none 256 c.args.list.now);
  count = refl;
}

pub loop-i-preserved : goal.loop-i-preserved
loop-i-preserved c =
    let i = c.loop-i.i in
    let ys = c.args.list.now in
    let n = c.at_most-n.result in
    let few : n ≤ length ys = omega arith in
    let below : i < n = omega (arith, length-take-le n ys few) in
    let item : get_or (take n ys) i zero_link ≡ get_or ys i zero_link = get_or-take n ys i zero_link below in
    record {
      told = cc (item, small_more i ys);
      copied = elim c.if-i-lt-MOST_COUNT.branch [
        | then-i-lt-MOST_COUNT w ↦ ap (λ (r : ListCopy). r.links) w.copy-is ∙ cc (item, firsts_more 256 i ys w.if-i-lt-MOST_COUNT.true (omega arith))
        | else-i-lt-MOST_COUNT w ↦ cc (firsts_full 256 i ys w.if-i-lt-MOST_COUNT.false)
      ];
      count = elim c.if-i-lt-MOST_COUNT.branch [ then-i-lt-MOST_COUNT w ↦ cc | else-i-lt-MOST_COUNT w ↦ cc ];
    }

pub returns : goal.returns
returns c =
    let ys = c.args.list.now in
    let all : c.loop-i.i ≡ min (length ys) (max_number + 1) = omega (arith, length-take-le c.at_most-n.result ys (omega arith)) in
    cc (all, firsts_all 256 (max_number + 1) ys (omega arith))
