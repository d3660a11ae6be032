-- `sheet_write::entries_size` meets its contract. The loop's invariant: the entries of the links passed are measured. Assumes nothing.
use mathlib.Core.Path.{refl, sym, ap, ◌∙◌}
use mathlib.Core.List.{List, flat_map}
use native.Mathlib.Omega.{arith}
use lib.ListN.{length as size}
use Rattle.limits.specs.Limits.{change_bytes}
use Rattle.loops.specs.Loop.{gather}
use Rattle.number.proofs.Laws.{encode_size_most}
use Rattle.sheet.specs.Sheet.{Move}
use Rattle.sheet.specs.Reading.{costs_at}
use Rattle.sheet.proofs.EntryLaws.{entries_bytes}
use Rattle.sheet.proofs.MoveLaws.{entries_most}
use Rattle.sheet_write.specs.MoveSteps.{moves_stay, moves_size}
use Rattle.sheet_write.proofs.entries_size.Goals as goal
use Rattle.sheet_write.proofs.entries_size.Goals.{then-old-e, else-old-e}

pub loop-e-init : goal.loop-e-init
unfolding gather flat_map
loop-e-init c = refl

-- The entries so far are short.
pub overflow_add-length : goal.overflow_add-length
overflow_add-length c =
    let a = c.args in
    let l = c.loop-e in
    let short = entries_most (costs_at a.old.now) (costs_at a.new.now) l.e (omega (arith, c.requires.edges_bound)) in
    omega (
      arith,
      short,
      l.invariant,
      c.requires.edges_bound,
      c.size_long-length.ensures,
      encode_size_most change_bytes l.e,
    )

pub overflow_add-length-then-old-e : goal.overflow_add-length-then-old-e
overflow_add-length-then-old-e c =
    let a = c.args in
    let l = c.loop-e in
    let short = entries_most (costs_at a.old.now) (costs_at a.new.now) l.e (omega (arith, c.requires.edges_bound)) in
    omega (
      arith,
      short,
      l.invariant,
      c.requires.edges_bound,
      c.size_long-length.ensures,
      encode_size_most change_bytes l.e,
      c.size_long-length-then-old-e.ensures,
      encode_size_most change_bytes c.change_code-code.result,
    )

pub loop-e-preserved : goal.loop-e-preserved
loop-e-preserved c =
    let a = c.args in
    let old = costs_at a.old.now in
    let new = costs_at a.new.now in
    let l = c.loop-e in
    elim c.if-old-e.branch [
      | then-old-e w ↦
          let code = w.change_code-code in
          w.length-is
          ∙ omega (
            arith,
            l.invariant,
            w.size_long-length.ensures,
            w.size_long-length-then-old-e.ensures,
            moves_size old new l.e w.if-old-e.true code.result code.ensures,
          )
      | else-old-e w ↦
          w.length-is ∙ l.invariant ∙ ap (λ (ks : List Move). size (entries_bytes ks)) (sym (moves_stay old new l.e w.if-old-e.false))
    ]
