use Rattle.std.proofs.Common.{ℕ, ◌-◌, ◌*◌, sym, ◌∙◌, arith}
use Rattle.frame.specs.Arrays.{columns}
use Rattle.loops.specs.ScanLaws.{scan_end}
use Rattle.codec.specs.Numbers.{Divided}
use Rattle.codec.specs.NumberLaws.{divided_stands, divided_next}
use Rattle.job.specs.Reading.{links_loaded}
use Rattle.job.specs.LoadLaws.{load_turn}
use Rattle.job.proofs.read_links.Goals as goal

-- The numbers that are left: all of a turn's first, then behind each that was read.
pub read_known-a-requires : goal.read_known-a-requires
read_known-a-requires c = divided_stands _ _ _ c.loop-e.invariant.1 (omega arith)

pub read_known-b-requires : goal.read_known-b-requires
read_known-b-requires c =
    let s = c.args.part.now in
    let left : ℕ = 4 * (c.args.edges - c.loop-e.e) in
    let d1 = c.loop-e.invariant.1 in
    let d2 : Divided s c.read_known-a.result.next (left - 1) = divided_next _ _ _ d1 _ _ (omega arith) c.read_known-a.ensures in
    divided_stands _ _ _ d2 (omega arith)

pub read_known-c-requires : goal.read_known-c-requires
read_known-c-requires c =
    let s = c.args.part.now in
    let left : ℕ = 4 * (c.args.edges - c.loop-e.e) in
    let d1 = c.loop-e.invariant.1 in
    let d2 : Divided s c.read_known-a.result.next (left - 1) = divided_next _ _ _ d1 _ _ (omega arith) c.read_known-a.ensures in
    let d3 : Divided s c.read_known-b.result.next (left - 2) = divided_next _ _ _ d2 _ _ (omega arith) c.read_known-b.ensures in
    divided_stands _ _ _ d3 (omega arith)

pub read_known-m-requires : goal.read_known-m-requires
read_known-m-requires c =
    let s = c.args.part.now in
    let left : ℕ = 4 * (c.args.edges - c.loop-e.e) in
    let d1 = c.loop-e.invariant.1 in
    let d2 : Divided s c.read_known-a.result.next (left - 1) = divided_next _ _ _ d1 _ _ (omega arith) c.read_known-a.ensures in
    let d3 : Divided s c.read_known-b.result.next (left - 2) = divided_next _ _ _ d2 _ _ (omega arith) c.read_known-b.ensures in
    let d4 : Divided s c.read_known-c.result.next (left - 3) = divided_next _ _ _ d3 _ _ (omega arith) c.read_known-c.ensures in
    divided_stands _ _ _ d4 (omega arith)

pub loop-e-preserved : goal.loop-e-preserved
loop-e-preserved c =
    let s = c.args.part.now in
    let left : ℕ = 4 * (c.args.edges - c.loop-e.e) in
    let d1 = c.loop-e.invariant.1 in
    let d2 : Divided s c.read_known-a.result.next (left - 1) = divided_next _ _ _ d1 _ _ (omega arith) c.read_known-a.ensures in
    let d3 : Divided s c.read_known-b.result.next (left - 2) = divided_next _ _ _ d2 _ _ (omega arith) c.read_known-b.ensures in
    let d4 : Divided s c.read_known-c.result.next (left - 3) = divided_next _ _ _ d3 _ _ (omega arith) c.read_known-c.ensures in
    let l = c.loop-e in (
      load_turn _ _ l.e (links_loaded l.at (columns l.end1 l.end2 l.cost l.mark)) _ l.invariant.0 c.loop-e-test.true _ _ _ _
          c.read_known-a.ensures c.read_known-b.ensures c.read_known-c.ensures c.read_known-m.ensures,
      divided_next _ _ _ d4 _ _ (omega arith) c.read_known-m.ensures,
    )

pub returns : goal.returns
returns c = sym (scan_end _ _ _ _ c.loop-e-test.false) ∙ c.loop-e.invariant.0
