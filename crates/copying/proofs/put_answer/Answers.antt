-- `copying::put_answer` meets its contract: an answer is put into arrays that are long enough. Assumes nothing.
use native.Mathlib.Omega.{arith}
use Prim.Native.Nat.{◌*◌, ◌<◌, ◌≤◌}
use lib.ListN.{length}
use Rattle.copying.specs.ServiceLaws.{costs_short, pairs_short, answer_put}
use Rattle.copying.proofs.put_answer.Goals as goal

pub returns-then-costs-edges : goal.returns-then-costs-edges
returns-then-costs-edges c = costs_short c.args.read c.args.edges c.args.costs.now c.args.pairs.now c.if-costs-edges.true

pub returns-then-pairs-count : goal.returns-then-pairs-count
returns-then-pairs-count c =
    let short : length c.args.pairs.now < 2 * c.args.read.count = omega (arith, c.if-pairs-count.true) in
    pairs_short c.args.read c.args.edges c.args.costs.now c.args.pairs.now c.if-costs-edges.false short

-- the arrays are long enough
pub returns : goal.returns
returns c =
    let fits : 2 * c.args.read.count ≤ length c.args.pairs.now = omega (arith, c.if-pairs-count.false) in
    answer_put c.args.read c.args.edges c.args.costs.now c.args.pairs.now c.if-costs-edges.false fits _ _
    c.copy_numbers.ensures c.copy_numbers-2.ensures
