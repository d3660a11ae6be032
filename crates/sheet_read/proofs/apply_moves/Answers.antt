-- `sheet_read::apply_moves` meets its contract. Assumes nothing.
use Prim.Native.Nat.{◌+◌, ◌-◌, ◌<◌}
use native.Mathlib.Omega.{arith}
use mathlib.Core.Path.{◌≡◌, sym, ◌∙◌}
use lib.ListN.{length, length-set}
use Rattle.loops.specs.PutLaws.{set_put}
use Rattle.sheet.specs.Reading.{costs_at}
use Rattle.sheet.proofs.EntryLaws.{moves_may}
use Rattle.sheet_read.specs.ApplyLaws.{no_count, count_read, inside_small, entry_within, in_range_set}
use Rattle.sheet_read.specs.ApplyLaws.{apply_unread, apply_barred, apply_out, apply_turn, apply_end}
use Rattle.sheet_read.proofs.apply_moves.Goals as goal

pub returns-in_default : goal.returns-in_default
returns-in_default c = no_count c.args.edges _ _ (sym c.in_default.ensures)

pub loop-init : goal.loop-init
loop-init c =
    let (within, rest) = count_read c.args.edges (costs_at c.args.costs.now) _ _ (sym c.in-Some.ensures) in
    let whole : c.in-Some.count.value - 0 ≡ c.in-Some.count.value = omega arith in
    record { within = within; places = c.requires.costs_len; small = c.requires.in_range; told = rw whole rest }

pub returns-in_default-entry_at : goal.returns-in_default-entry_at
returns-in_default-entry_at c =
    apply_unread _ _ _ _ _ c.loop.at _ (omega arith) c.loop.invariant.told c.in_default-entry_at.ensures

pub returns-then-not-may_move : goal.returns-then-not-may_move
returns-then-not-may_move c =
    apply_barred _ _ _ _ _ c.loop.at _ (omega arith) c.loop.invariant.told _ c.in-Some-entry_at.ensures
    (sym c.if-not-may_move.ensures)

pub returns-in_default-moved_cost : goal.returns-in_default-moved_cost
returns-in_default-moved_cost c =
    apply_out _ _ _ _ _ c.loop.at _ (omega arith) c.loop.invariant.told _ c.in-Some-entry_at.ensures (sym c.if-not-may_move.ensures)
    c.in_default-moved_cost.ensures

pub loop-preserved : goal.loop-preserved
loop-preserved c =
    let a = c.args in
    let l = c.loop in
    let x = c.in-Some-entry_at.entry in
    let v = c.in-Some-moved_cost.cost in
    let may = sym c.if-not-may_move.ensures in
    let within : x.edge < a.edges = (moves_may a.edges l.least x.edge x.code may).1 in
    let place : x.edge < length l.costs = omega (arith, l.invariant.places) in
    let left : c.in-Some.count.value - (l.counter + 1) ≡ c.in-Some.count.value - l.counter - 1 = omega arith in
    record {
      within = entry_within _ _ x l.invariant.within c.in-Some-entry_at.ensures;
      places = length-set l.costs x.edge _ ∙ l.invariant.places;
      small = in_range_set a.edges l.costs x.edge v place (inside_small _ _ c.in-Some-moved_cost.ensures) l.invariant.small;
      told =
          rw (set_put l.costs x.edge v place, left)
          (apply_turn _ _ _ _ _ l.at _ (omega arith) l.invariant.told x c.in-Some-entry_at.ensures may v c.in-Some-moved_cost.ensures);
    }

pub returns : goal.returns
returns c =
    apply_end _ _ c.loop.least _ _ c.loop.at _ (omega arith) c.loop.invariant.within c.loop.invariant.told
