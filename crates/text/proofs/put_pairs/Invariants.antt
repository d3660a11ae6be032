-- The lines of the pairs passed are put.
use Rattle.std.proofs.Common.{◌+◌, ◌*◌, get_or}
use Rattle.codec.specs.Numbers.{Put}
use Rattle.text.specs.Text.{pair_lines}
use Rattle.text.proofs.put_pairs.Given as goal

abbrev pub invariant-loop-i : goal.invariant-loop-i
invariant-loop-i l =
    Put l.fn.out l.at (pair_lines l.i (λ i. get_or l.fn.pairs (2 * i) 0) (λ i. get_or l.fn.pairs (2 * i + 1) 0)) l.next l.out
