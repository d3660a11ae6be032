-- `sheet_write::write_sheet` meets its contract: the count, then the entries, if they fit; a sheet that is not measured does.
-- Assumes nothing.
use Prim.Native.Nat.{ℕ, ◌+◌, ◌≤◌}
use mathlib.Core.Path.{◌≡◌, refl, sym, ap, subst, ◌∙◌}
use mathlib.Core.List.{List}
use native.Mathlib.Omega.{arith}
use Rattle.std.proofs.lemmas.List.Edits.{sets}
use lib.ListN.{length, length-append}
use Rattle.limits.specs.Limits.{change_bytes}
use Rattle.number.specs.Number.{encode}
use Rattle.number.proofs.Laws.{encode_size_most}
use Rattle.codec.specs.Numbers.{Put}
use Rattle.codec.specs.WritingLaws.{put_more, put_room, put_short, put_whole}
use Rattle.sheet.specs.Sheet.{Move, moves_of, sheet_frame}
use Rattle.sheet.specs.Reading.{costs_at}
use Rattle.sheet.proofs.EntryLaws.{entries_bytes, sheet_parts}
use Rattle.sheet.proofs.MoveLaws.{entries_most, sheet_short}
use Rattle.sheet_write.proofs.write_sheet.Goals as goal
use Rattle.sheet_write.proofs.write_sheet.Goals.{then-area-count+else-area-front, else-area-count}

-- How long a sheet is.
parts : (ms : List Move) → length (sheet_frame ms) ≡ length (encode change_bytes (length ms)) + length (entries_bytes ms)
parts ms = ap length (sheet_parts ms) ∙ length-append (encode change_bytes (length ms)) (entries_bytes ms)

-- The size of the count written.
count_size : (n m : ℕ) → n ≡ m → length (encode change_bytes n) ≡ length (encode change_bytes m)
count_size n m e = ap (λ (x : ℕ). length (encode change_bytes x)) e

-- The count put in front.
count_put :
    (area after : List ℕ) (n m next : ℕ)
    → n ≡ m
    → next ≡ 0 + length (encode change_bytes n)
    → after ≡ sets area 0 (encode change_bytes n)
    → Put area 0 (encode change_bytes m) next after
count_put area after n m next e here there =
    subst (λ (x : ℕ). Put area 0 (encode change_bytes x) next after) e (record { next = here; area = there })

pub overflow_add-front : goal.overflow_add-front
overflow_add-front c =
    let a = c.args in
    omega (
      arith,
      c.size_long-front.ensures,
      encode_size_most change_bytes c.count_moved-count.result,
      c.entries_size.ensures,
      entries_most (costs_at a.old.now) (costs_at a.new.now) a.edges (omega (arith, c.requires.edges_bound)),
      c.requires.edges_bound,
    )

pub returns-then-area-front : goal.returns-then-area-front
returns-then-area-front c =
    let a = c.args in
    let moves = moves_of a.edges (costs_at a.old.now) (costs_at a.new.now) in
    put_short 0 (sheet_frame moves) 0 a.area.now refl
    (omega (
      arith,
      c.if-area-front.true,
      c.size_long-front.ensures,
      c.entries_size.ensures,
      count_size _ _ c.count_moved-count.ensures,
      parts moves,
    ))

pub write_long-behind-requires : goal.write_long-behind-requires
write_long-behind-requires c =
    let a = c.args in
    let moves = moves_of a.edges (costs_at a.old.now) (costs_at a.new.now) in
    let fits : length (sheet_frame moves) ≤ length a.area.now =
    elim c.if-area-count.branch [
      | then-area-count+else-area-front w ↦
          omega (
            arith,
            w.if-area-front.false,
            w.size_long-front.ensures,
            w.entries_size.ensures,
            count_size _ _ c.count_moved-count.ensures,
            parts moves,
          )
      | else-area-count w ↦
          omega (
            arith,
            w.if-area-count.false,
            c.count_moved-count.ensures,
            sheet_short (costs_at a.old.now) (costs_at a.new.now) a.edges c.requires.edges_bound,
          )
    ] in
    omega (arith, fits, count_size _ _ c.count_moved-count.ensures, parts moves)

pub put_moves-requires-clause-in_bounds : goal.put_moves-requires-clause-in_bounds
put_moves-requires-clause-in_bounds c =
    let a = c.args in
    let moves = moves_of a.edges (costs_at a.old.now) (costs_at a.new.now) in
    let fits : length (sheet_frame moves) ≤ length a.area.now =
    elim c.if-area-count.branch [
      | then-area-count+else-area-front w ↦
          omega (
            arith,
            w.if-area-front.false,
            w.size_long-front.ensures,
            w.entries_size.ensures,
            count_size _ _ c.count_moved-count.ensures,
            parts moves,
          )
      | else-area-count w ↦
          omega (
            arith,
            w.if-area-count.false,
            c.count_moved-count.ensures,
            sheet_short (costs_at a.old.now) (costs_at a.new.now) a.edges c.requires.edges_bound,
          )
    ] in
    let w = c.write_long-behind in
    put_room _ _ _ _ _ _ (count_put _ _ _ _ _ c.count_moved-count.ensures w.ensures.next w.ensures.area)
    (omega (arith, fits, parts moves))

pub returns : goal.returns
returns c =
    let a = c.args in
    let moves = moves_of a.edges (costs_at a.old.now) (costs_at a.new.now) in
    let fits : length (sheet_frame moves) ≤ length a.area.now =
    elim c.if-area-count.branch [
      | then-area-count+else-area-front w ↦
          omega (
            arith,
            w.if-area-front.false,
            w.size_long-front.ensures,
            w.entries_size.ensures,
            count_size _ _ c.count_moved-count.ensures,
            parts moves,
          )
      | else-area-count w ↦
          omega (
            arith,
            w.if-area-count.false,
            c.count_moved-count.ensures,
            sheet_short (costs_at a.old.now) (costs_at a.new.now) a.edges c.requires.edges_bound,
          )
    ] in
    let w = c.write_long-behind in
    let z = c.put_moves in
    let done = subst (λ (bytes : List ℕ). Put a.area.now 0 bytes z.result z.new.area) (sym (sheet_parts moves))
    (put_more _ _ _ _ _ _ _ _ (count_put _ _ _ _ _ c.count_moved-count.ensures w.ensures.next w.ensures.area) z.ensures.next z.ensures.area) in
    put_whole 0 (sheet_frame moves) 0 a.area.now _ _ refl (omega (arith, fits)) (omega (arith, done.next)) done.area
