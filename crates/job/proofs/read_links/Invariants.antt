-- The loop's invariant: the model, run on the links that are left, gives what it gives on all of them, and the numbers of these links
-- are left.
use Rattle.std.proofs.Common.{◌≡◌, ◌-◌, ◌*◌}
use Rattle.loops.specs.Loop.{scan}
use Rattle.frame.specs.Arrays.{columns}
use Rattle.codec.specs.Numbers.{Divided}
use Rattle.job.specs.Reading.{load_link, load_links, links_loaded}
use Rattle.job.proofs.read_links.Given as goal

abbrev pub invariant-loop-e : goal.invariant-loop-e
invariant-loop-e l =
    (scan (load_link l.part) (l.edges - l.e) l.e (links_loaded l.at (columns l.end1 l.end2 l.cost l.mark))
    ≡ load_links l.part l.edges (links_loaded 0 (columns l.fn.end1 l.fn.end2 l.fn.cost l.fn.mark))) ×
    Divided l.part l.at (4 * (l.edges - l.e))
