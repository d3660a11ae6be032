-- `answer::front_size` meets its contract: the sizes of the three parts add up. Assumes nothing.
use native.Mathlib.Omega.{arith}
use Rattle.number.proofs.Laws.{encode_size_most}
use Rattle.limits.specs.Limits.{number_bytes, step_bytes}
use Rattle.codec.specs.ListLaws.{size_short}
use Rattle.answer.proofs.front_size.Goals as goal

pub overflow_add-result : goal.overflow_add-result
overflow_add-result c =
    let a = c.args in
    omega (arith, c.numbers_size.ensures, c.size_long.ensures, encode_size_most step_bytes a.steps, size_short a.costs.now a.edges)

pub overflow_add-result-2 : goal.overflow_add-result-2
overflow_add-result-2 c =
    let a = c.args in
    omega (
      arith,
      c.size_short.ensures,
      encode_size_most number_bytes a.count,
      c.numbers_size.ensures,
      size_short a.costs.now a.edges,
      c.size_long.ensures,
      encode_size_most step_bytes a.steps,
    )
