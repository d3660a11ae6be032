-- `answer::fits` meets its contract: what stands before the pairs is no longer than its bound. Assumes nothing.
use native.Mathlib.Decide.{dec_le}
use native.Mathlib.Omega.{arith}
use mathlib.Core.Path.{◌≡◌, sym}
use Prim.Native.Nat.{ℕ, ◌+◌, ◌-◌, ◌≤◌}
use lib.Dec.{leb}
use borrow.Author.Tests.{le-leb, lt-leb}
use Rattle.codec.specs.HeldLaws.{front_short, answer_length}
use Rattle.answer.proofs.fits.Goals as goal

-- one part fits into what the other leaves exactly if both fit
left_fits : (x y sum room : ℕ) → x + y ≡ sum → y ≤ room → leb x (room - y) ≡ leb sum room
left_fits x y sum room e l =
    elim (dec_le x (room - y)) [
      | yes h ↦ rw (le-leb x (room - y) h, le-leb sum room (omega arith))
      | no h ↦ rw (lt-leb x (room - y) (omega arith), lt-leb sum room (omega arith))
    ]

pub returns-then-room-behind : goal.returns-then-room-behind
returns-then-room-behind c =
    let a = c.args in
    sym (lt-leb _ a.room (omega (
      arith,
      c.if-room-behind.true,
      c.numbers_size-behind.ensures,
      answer_length a.steps a.edges a.costs.now a.count a.pairs.now,
    )))

pub returns-then-edges-left : goal.returns-then-edges-left
returns-then-edges-left c =
    let a = c.args in
    sym (le-leb _ a.room (omega (
      arith,
      c.if-room-behind.false,
      c.if-edges-left.true,
      c.numbers_size-behind.ensures,
      front_short a.steps a.edges a.costs.now a.count c.requires.count_bound,
      answer_length a.steps a.edges a.costs.now a.count a.pairs.now,
    )))

pub returns : goal.returns
returns c =
    let a = c.args in
    let frame = answer_length a.steps a.edges a.costs.now a.count a.pairs.now in
    left_fits c.front_size.result c.numbers_size-behind.result _ a.room
    (omega (arith, c.front_size.ensures, c.numbers_size-behind.ensures, frame)) (omega (arith, c.if-room-behind.false))
