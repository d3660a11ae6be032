-- `answer::put_answer` meets its contract: the steps, the costs, the count of pairs and the pairs are put one behind the
-- other. Assumes nothing.
use Prim.Native.Nat.{ℕ, ◌+◌, ◌*◌, ◌≤◌}
use mathlib.Core.Path.{subst}
use mathlib.Core.List.{List, ◌++◌}
use native.Mathlib.Omega.{arith}
use lib.ListN.{length, length-append}
use Rattle.number.specs.Number.{encode}
use Rattle.limits.specs.Limits.{number_bytes, step_bytes}
use Rattle.frame.specs.Job.{bytes_of}
use Rattle.codec.specs.Numbers.{numbers_at, Put}
use Rattle.codec.specs.WritingLaws.{put_more, put_room}
use Rattle.frame.specs.AnswerMeaning.{answer_frame}
use Rattle.codec.specs.Held.{answer_at}
use Rattle.codec.specs.HeldLaws.{answer_bytes, front_length, answer_length}
use Rattle.answer.proofs.put_answer.Goals as goal

-- There is room for the four parts of the frame.
room :
    (steps edges : ℕ) (costs : List ℕ) (count : ℕ) (pairs : List ℕ) (at n : ℕ)
    → at + length (answer_frame (answer_at steps edges costs count pairs)) ≤ n
    → at + (
    length (encode step_bytes steps) + length (bytes_of (numbers_at edges costs)) + length (encode number_bytes count)
    + length (bytes_of (numbers_at (2 * count) pairs))) ≤ n
room steps edges costs count pairs at n r =
    omega (arith, r, front_length steps edges costs count, answer_length steps edges costs count pairs)

-- The steps put.
pub write_numbers-middle-requires-clause-values_in_bounds : goal.write_numbers-middle-requires-clause-values_in_bounds
write_numbers-middle-requires-clause-values_in_bounds c =
    let a = c.args in
    let w = c.write_long-first in
    let steps : Put a.area.now a.at (encode step_bytes a.steps) w.result w.new.area =
    record { next = w.ensures.next; area = w.ensures.area } in
    put_room _ _ _ _ _ _ steps (omega (arith, room a.steps a.edges a.costs.now a.count a.pairs.now _ _ c.requires.pairs_in_bounds))

-- The costs put behind them.
pub write_short-last-requires : goal.write_short-last-requires
write_short-last-requires c =
    let a = c.args in
    let w = c.write_long-first in
    let x = c.write_numbers-middle in
    let steps : Put a.area.now a.at (encode step_bytes a.steps) w.result w.new.area =
    record { next = w.ensures.next; area = w.ensures.area } in
    let costs : Put a.area.now a.at (encode step_bytes a.steps ++ bytes_of (numbers_at a.edges a.costs.now)) x.result x.new.area =
    put_more _ _ _ _ _ _ _ _ steps x.ensures.next x.ensures.area in
    put_room _ _ _ _ _ _ costs
    (simp length-append (omega (arith, room a.steps a.edges a.costs.now a.count a.pairs.now _ _ c.requires.pairs_in_bounds)))

-- The count put behind them.
pub write_numbers-requires-clause-values_in_bounds : goal.write_numbers-requires-clause-values_in_bounds
write_numbers-requires-clause-values_in_bounds c =
    let a = c.args in
    let w = c.write_long-first in
    let x = c.write_numbers-middle in
    let y = c.write_short-last in
    let steps : Put a.area.now a.at (encode step_bytes a.steps) w.result w.new.area =
    record { next = w.ensures.next; area = w.ensures.area } in
    let costs : Put a.area.now a.at (encode step_bytes a.steps ++ bytes_of (numbers_at a.edges a.costs.now)) x.result x.new.area =
    put_more _ _ _ _ _ _ _ _ steps x.ensures.next x.ensures.area in
    let count : Put a.area.now a.at ((encode step_bytes a.steps ++ bytes_of (numbers_at a.edges a.costs.now)) ++ encode number_bytes
    a.count) y.result y.new.area =
    put_more _ _ _ _ _ _ _ _ costs y.ensures.next y.ensures.area in
    put_room _ _ _ _ _ _ count
    (simp length-append (omega (arith, room a.steps a.edges a.costs.now a.count a.pairs.now _ _ c.requires.pairs_in_bounds)))

pub returns : goal.returns
returns c =
    let a = c.args in
    let w = c.write_long-first in
    let x = c.write_numbers-middle in
    let y = c.write_short-last in
    let z = c.write_numbers in
    let steps : Put a.area.now a.at (encode step_bytes a.steps) w.result w.new.area =
    record { next = w.ensures.next; area = w.ensures.area } in
    let costs : Put a.area.now a.at (encode step_bytes a.steps ++ bytes_of (numbers_at a.edges a.costs.now)) x.result x.new.area =
    put_more _ _ _ _ _ _ _ _ steps x.ensures.next x.ensures.area in
    let count : Put a.area.now a.at ((encode step_bytes a.steps ++ bytes_of (numbers_at a.edges a.costs.now)) ++ encode number_bytes
    a.count) y.result y.new.area =
    put_more _ _ _ _ _ _ _ _ costs y.ensures.next y.ensures.area in
    subst (λ (bytes : List ℕ). Put a.area.now a.at bytes z.result z.new.area)
    (answer_bytes a.steps a.edges a.costs.now a.count a.pairs.now)
    (put_more _ _ _ _ _ _ _ _ count z.ensures.next z.ensures.area)
