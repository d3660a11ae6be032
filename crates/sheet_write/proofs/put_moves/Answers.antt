-- `sheet_write::put_moves` meets its contract. The loop's invariant: the entries of the links passed are put, one behind the other.
-- Assumes nothing.
use Prim.Native.Nat.{ℕ, ◌+◌, ◌≤◌}
use mathlib.Core.Path.{◌≡◌, refl}
use mathlib.Core.List.{flat_map}
use native.Mathlib.Omega.{arith}
use Rattle.std.specs.Prelude.{◌<◌, pos, ◌-ℤ◌}
use lib.ListN.{length, length-append}
use Rattle.limits.specs.Limits.{change_bytes}
use Rattle.loops.specs.Loop.{gather}
use Rattle.number.specs.Number.{encode}
use Rattle.codec.specs.WritingLaws.{put_more, put_room}
use Rattle.sheet.specs.Sheet.{coded, moves_of}
use Rattle.sheet.specs.Reading.{costs_at}
use Rattle.sheet.proofs.EntryLaws.{entries_bytes}
use Rattle.sheet_write.specs.MoveSteps.{moves_stay, moves_bytes, moves_size, entries_within}
use Rattle.sheet_write.proofs.put_moves.Goals as goal
use Rattle.sheet_write.proofs.put_moves.Goals.{then-old-e, else-old-e}

-- There is room for the bytes of the entries passed and of one more.
room :
    (old new : ℕ → ℕ) (edges at n e code : ℕ)
    → at + length (entries_bytes (moves_of edges old new)) ≤ n
    → e < edges
    → (old e ≡ new e → ⊥)
    → code ≡ coded (pos (new e) -ℤ pos (old e))
    → at + (length (entries_bytes (moves_of e old new)) + length (encode change_bytes e) + length (encode change_bytes code)) ≤ n
room old new edges at n e code fits l moved is =
    omega (arith, fits, entries_within old new (e + 1) edges (omega arith), moves_size old new e moved code is)

pub loop-e-init : goal.loop-e-init
unfolding gather flat_map
loop-e-init c = record { next = omega arith; area = refl }

pub write_long-middle-requires : goal.write_long-middle-requires
write_long-middle-requires c =
    let a = c.args in
    let fits = room (costs_at a.old.now) (costs_at a.new.now) a.edges a.at _ c.loop-e.e c.change_code-code.result
    c.requires.in_bounds (omega arith) c.if-old-e.true c.change_code-code.ensures in
    put_room _ _ _ _ _ _ c.loop-e.invariant (omega (arith, fits))

pub write_long-next-requires : goal.write_long-next-requires
write_long-next-requires c =
    let a = c.args in
    let fits = room (costs_at a.old.now) (costs_at a.new.now) a.edges a.at _ c.loop-e.e c.change_code-code.result
    c.requires.in_bounds (omega arith) c.if-old-e.true c.change_code-code.ensures in
    let w = c.write_long-middle in
    put_room _ _ _ _ _ _ (put_more _ _ _ _ _ _ _ _ c.loop-e.invariant w.ensures.next w.ensures.area)
    (simp length-append (omega (arith, fits)))

pub loop-e-preserved : goal.loop-e-preserved
loop-e-preserved c =
    let a = c.args in
    let old = costs_at a.old.now in
    let new = costs_at a.new.now in
    let l = c.loop-e in
    elim c.if-old-e.branch [
      | then-old-e w ↦
          let code = w.change_code-code in
          let link = w.write_long-middle in
          let change = w.write_long-next in
          rw (w.area-is, w.next-is, moves_bytes old new l.e w.if-old-e.true code.result code.ensures)
          (put_more _ _ _ _ _ _ _ _
          (put_more _ _ _ _ _ _ _ _ l.invariant link.ensures.next link.ensures.area)
          change.ensures.next change.ensures.area)
      | else-old-e w ↦ rw (w.area-is, w.next-is, moves_stay old new l.e w.if-old-e.false) l.invariant
    ]
