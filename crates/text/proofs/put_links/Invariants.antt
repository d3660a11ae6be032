-- The lines of the links passed are put.
use Rattle.std.proofs.Common.{get_or}
use Rattle.codec.specs.Numbers.{Put}
use Rattle.records.specs.Records.{zero_link}
use Rattle.text.specs.Text.{cost_lines}
use Rattle.text.proofs.put_links.Given as goal

abbrev pub invariant-loop-e : goal.invariant-loop-e
invariant-loop-e l =
    Put l.fn.out l.at (cost_lines l.e (λ e. (get_or l.fn.links e zero_link).cost) (λ e. get_or l.fn.costs e 0)) l.next l.out
