-- `labels::label` meets its contract. The invariant: the model, run on what is left, gives what it gives on the whole. Assumes nothing.
use Rattle.std.proofs.Common.{ℕ, List, ◌≤◌}
use native.Mathlib.Omega.{arith}
use Rattle.bits.specs.BitLaws.{fewer}
use Rattle.labels.specs.Labels.{SparesRead}
use Rattle.labels.specs.LabelSteps.{room_kept}
use Rattle.labels.specs.OriginSteps.{labelling_done, next_rank_below, labelling_turn, labelling_end}
use Rattle.labels.proofs.label.Goals as goal

-- The spare ranks left are among those at the start.
spares_left :
    {spares left : ℕ} {ss cols slot : List ℕ} → SparesRead spares ss cols slot → left ≤ spares → SparesRead left ss cols slot
spares_left r fewer =
    record {
      few = omega (arith, r.few, fewer);
      edges = λ k m. r.edges k (omega (arith, fewer));
      slots = λ s m. r.slots s (omega (arith, fewer));
    }

pub returns-then-at-eq0 : goal.returns-then-at-eq0
returns-then-at-eq0 c =
    let a = c.args in
    let l = c.loop-free in
    labelling_done a.trees a.spares a.slots a.cost.now a.ts.now a.ss.now a.cols.now a.slot.now a.words.now a.links.now
    l.free l.at.spares l.at.live l.words l.links l.label l.invariant c.if-at-eq0.true c.requires.few_trees

pub cost_at-x-requires : goal.cost_at-x-requires
cost_at-x-requires c =
    let a = c.args in
    let l = c.loop-free in
    let rank =
    next_rank_below a.trees a.spares a.slots a.cost.now a.ts.now a.ss.now a.cols.now a.slot.now a.words.now a.links.now l.free
    l.at.spares l.at.live l.words l.links l.label l.invariant c.loop-free-test.true c.lowest-t.result c.lowest-t.ensures
    in
    (omega (arith, rank, c.requires.few_trees), c.requires.tree_edges_lem c.lowest-t.result rank)

pub overflow_add-x : goal.overflow_add-x
overflow_add-x c =
    let a = c.args in
    let l = c.loop-free in
    let rank =
    next_rank_below a.trees a.spares a.slots a.cost.now a.ts.now a.ss.now a.cols.now a.slot.now a.words.now a.links.now l.free
    l.at.spares l.at.live l.words l.links l.label l.invariant c.loop-free-test.true c.lowest-t.result c.lowest-t.ensures
    in
    omega (arith, c.cost_at-x.ensures, c.requires.below_top c.lowest-t.result rank)

pub label_from-requires : goal.label_from-requires
label_from-requires c =
    let a = c.args in
    let l = c.loop-free in
    let rank =
    next_rank_below a.trees a.spares a.slots a.cost.now a.ts.now a.ss.now a.cols.now a.slot.now a.words.now a.links.now l.free
    l.at.spares l.at.live l.words l.links l.label l.invariant c.loop-free-test.true c.lowest-t.result c.lowest-t.ensures
    in
    let f = c.label_spares-at in (
      omega (arith, rank, c.requires.few_trees),
      room_kept l.words l.links f.new.words f.new.links f.ensures.labelled.kept l.label f.new.label
          (room_kept a.words.now a.links.now l.words l.links l.invariant.kept a.label.now l.label c.requires.room l.invariant.size)
          f.ensures.labelled.size,
    )

pub loop-free-smaller : goal.loop-free-smaller
loop-free-smaller c =
    let l = c.loop-free in
    fewer 64 l.free c.without_lowest-free.result (omega (arith, c.loop-free-test.true)) l.invariant.small
    (omega (arith, c.without_lowest-free.type_inv))
    c.without_lowest-free.ensures

pub loop-free-preserved : goal.loop-free-preserved
loop-free-preserved c =
    let l = c.loop-free in
    let a = c.args in
    let t = c.lowest-t in
    let x = c.cost_at-x in
    let f = c.label_spares-at in
    let g = c.label_from in
    labelling_turn a.trees a.spares a.slots a.cost.now a.ts.now a.ss.now a.cols.now a.slot.now a.words.now a.links.now
    l.free l.at.spares l.at.live l.words l.links l.label l.invariant c.loop-free-test.true t.result t.ensures x.result
    x.ensures f.new.words f.new.links f.new.label f.result.spares f.result.live
    f.ensures.labelled f.ensures.cheaper g.new.words g.new.links g.new.label g.result g.ensures
    c.without_lowest-free.result c.without_lowest-free.ensures (omega (arith, c.without_lowest-free.type_inv))

pub returns : goal.returns
returns c =
    let l = c.loop-free in
    let a = c.args in
    let f = c.label_spares in
    labelling_end a.trees a.spares a.slots a.cost.now a.ts.now a.ss.now a.cols.now a.slot.now a.words.now a.links.now
    l.free l.at.spares l.at.live l.words l.links l.label l.invariant c.loop-free-test.false c.requires.few_trees f.new.words f.new.links
    f.new.label f.result.spares f.result.live f.ensures.labelled f.ensures.cheaper
