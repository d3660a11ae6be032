-- `slots::fill` meets its contract. The loop's invariant: the rows, with the slot in those of what is left of the set, are as at
-- first with it in those of the whole set. The measure is what is left. Assumes nothing.
use native.Mathlib.Omega.{arith}
use Rattle.bits.specs.BitLaws.{first_below, fewer}
use Rattle.slots.specs.PairLaws.{fill_turn, fill_end}
use Rattle.slots.proofs.fill.Goals as goal

pub bounds-words-t : goal.bounds-words-t
bounds-words-t c =
    omega (arith, c.lowest-t.ensures, first_below 64 c.loop-left.left (omega arith) c.loop-left.invariant.0)

pub bounds-words-t-in-loop-left : goal.bounds-words-t-in-loop-left
bounds-words-t-in-loop-left c =
    omega (arith, c.lowest-t.ensures, first_below 64 c.loop-left.left (omega arith) c.loop-left.invariant.0)

pub loop-left-smaller : goal.loop-left-smaller
loop-left-smaller c =
    let l = c.loop-left in
    fewer 64 l.left c.without_lowest-left.result (omega arith) l.invariant.0 (omega arith) c.without_lowest-left.ensures

pub loop-left-preserved : goal.loop-left-preserved
loop-left-preserved c =
    let a = c.args in (
      omega arith,
      fill_turn a.k.0 a.trees a.words.now c.loop-left.left c.without_lowest-left.result c.lowest-t.result c.with.result
          c.loop-left.words c.loop-left.invariant.1 (omega arith) c.loop-left.invariant.0 c.lowest-t.ensures c.with.ensures
          c.without_lowest-left.ensures,
    )

pub returns : goal.returns
returns c =
    let a = c.args in
    fill_end a.k.0 a.trees a.words.now c.loop-left.left c.loop-left.words c.loop-left-test.false c.loop-left.invariant.1
