-- The readers of sheets and costs, by the steps of the code: what is known after each, and what the model then gives. Assumes nothing.
use Prim.Native.Nat.{ℕ, zero, suc, ◌+◌, ◌-◌, ◌/◌, ◌%◌, ◌<◌, ◌≤◌}
use Rattle.std.proofs.Math.Decide.{ℕ_discrete}
use Rattle.std.proofs.Math.Numerals.{add-one}
use native.Mathlib.Omega.{arith}
use Rattle.std.specs.Prelude.{◌≡◌, refl, Bool, true, false, List, eqb, ℤ, pos, ◌+ℤ◌, Option, Some, None, set, drop}
use Rattle.std.proofs.Math.Path.{sym, ap}
use Rattle.std.proofs.Common.{◌∙◌, length-drop, drop_of_length-le, drop-cons, take_all, get_or-set_same, get_or-set_other}
use Rattle.std.proofs.Math.Option.{some, none}
use Rattle.std.proofs.Math.Option as maybe
use Rattle.std.proofs.lemmas.Option.{none-some, same_Some}
use Rattle.std.proofs.Math.ListN.{length}
use Rattle.std.proofs.Math.Seq.{drop-drop, sets}
use borrow.Author.Tests.{eq-eqb, ne_eqb, le-leb, lt-leb, lt-ltb, le-ltb}
use Rattle.limits.specs.Limits.{max_number, change_bytes}
use Rattle.loops.specs.Loop.{put}
use Rattle.loops.specs.TestLaws.{clash}
use Rattle.number.specs.Number.{Bytes, decode}
use Rattle.number.specs.Number.Decoded.{number}
use Rattle.number.proofs.Laws.{decode_size}
use Rattle.leb128.specs.Positions.{read_at, located_value, located_refused}
use Rattle.leb128.specs.declared.Number.{Number}
use Rattle.frame.specs.Questions.{numbers}
use Rattle.frame.proofs.Division.{division}
use Rattle.division.specs.Counting.{count_from}
use Rattle.division.specs.CountingLaws.{counted_some, counted_none}
use Rattle.codec.specs.Numbers.{numbers_at, Divided, Loaded, loaded_at, loaded}
use Rattle.codec.specs.ListLaws.{numbers_put, load_numbers}
use Rattle.sheet.specs.Sheet.{InRange}
use Rattle.sheet.specs.Reading as Model
use Rattle.sheet.specs.Reading.{costs_from, read_costs, costs_at, with_code, with_link, entry_of, change_from, cost_from, may_move, move_to, move_by}
use Rattle.sheet.specs.Reading.{apply_from, behind_count, apply_sheet}
use Rattle.sheet.proofs.ChangeLaws.{cost_found}
use Rattle.sheet.proofs.EntryLaws.{entry_size}
use Rattle.sheet_read.specs.declared.Entry.{Entry}
use Rattle.sheet_read.specs.Applying.{entered, entry_at, in_range, given}

-- What was found, by the word of the code.
pub given_some : {A : Type 0} (b : Bool) (x : A) (o : maybe.Option A) → b ≡ true → given b x ≡ o → some x ≡ o
given_some true x o e q = q
given_some false x o e q = clash e refl

pub given_none : {A : Type 0} (b : Bool) (x : A) (o : maybe.Option A) → b ≡ false → given b x ≡ o → none ≡ o
given_none true x o e q = clash refl e
given_none false x o e q = q

-- ---- an entry

module _ (s : List ℕ) (at : ℕ) where
  pub no_link_lem : read_at change_bytes s at ≡ None → None ≡ entry_at s at
  unfolding entered with_link
  no_link_lem q = rw (located_refused at (decode change_bytes (drop at s)) q)

  module _ (link : Number) (q : read_at change_bytes s at ≡ Some link) where
    -- The link in front, and the bytes behind it.
    linked : (n : ℕ) × (link.next ≡ at + n) × (entry_at s at ≡ entered at (with_code link.value n (decode change_bytes (drop link.next s))))
    unfolding with_link
    linked =
        let (n, here, there) = located_value at (decode change_bytes (drop at s)) link q in
        (n, there, behind n here there)
      where
        behind :
            (n : ℕ) → decode change_bytes (drop at s) ≡ number link.value n → link.next ≡ at + n
            → entry_at s at ≡ entered at (with_code link.value n (decode change_bytes (drop link.next s)))
        behind n here there = rw (here, drop-drop n at s, ← there)

    pub no_code : read_at change_bytes s link.next ≡ None → None ≡ entry_at s at
    unfolding entered with_code
    no_code f = sym (linked.2 ∙ rw (located_refused link.next (decode change_bytes (drop link.next s)) f))

    pub entry_whole :
        (code : Number) → read_at change_bytes s link.next ≡ Some code
        → Some (record { edge = link.value; code = code.value; next = code.next }) ≡ entry_at s at
    unfolding entered with_code
    entry_whole code f =
        let (n, there, whole) = linked in
        let (k, here', there') = located_value link.next (decode change_bytes (drop link.next s)) code f in
        let behind : at + (n + k) ≡ code.next = omega (arith, there, there') in
        sym (whole ∙ rw (here', behind))

-- What an entry at a position says of the model's.
entered_moved :
    (at : ℕ) (x : Model.Entry) (m : Entry) → Some m ≡ entered at x → (k : ℕ) × (x ≡ Model.Entry.entry m.edge m.code k) × (m.next ≡ at + k)
unfolding entered
entered_moved at (Model.Entry.entry e z k) m q =
    let same = same_Some m _ q in
    (k, ap (λ (m : Entry). Model.Entry.entry m.edge m.code k) (sym same), ap (λ (m : Entry). m.next) same)
entered_moved at Model.Entry.unread m q = absurd (none-some m (sym q))

entered_refused : (at : ℕ) (x : Model.Entry) → None ≡ entered at x → x ≡ Model.Entry.unread
unfolding entered
entered_refused at (Model.Entry.entry e z k) q = absurd (none-some _ q)
entered_refused at Model.Entry.unread q = refl

-- ---- a new cost

module _ (old code : ℕ) (low : old ≤ max_number) where
  -- A code that is even, and one that is odd.
  rises : code % 2 ≡ 0 → cost_from (pos old +ℤ change_from code) ≡ cost_from (pos (old + code / 2))
  unfolding change_from
  rises e = rw (eq-eqb (code % 2) 0 e)

  pub risen_out : code % 2 ≡ 0 → max_number - old < code / 2 → None ≡ in_range (cost_from (pos old +ℤ change_from code))
  unfolding in_range cost_from
  risen_out e l = sym (ap in_range (rises e) ∙ rw (lt-leb (old + code / 2) max_number (omega arith)))

  pub risen : code % 2 ≡ 0 → code / 2 ≤ max_number - old → Some (old + code / 2) ≡ in_range (cost_from (pos old +ℤ change_from code))
  unfolding in_range cost_from
  risen e l = sym (ap in_range (rises e) ∙ rw (le-leb (old + code / 2) max_number (omega arith)))

  pub fallen_out : (code % 2 ≡ 0 → ⊥) → old ≤ code / 2 → None ≡ in_range (cost_from (pos old +ℤ change_from code))
  unfolding in_range cost_from change_from
  fallen_out n l = rw (ne_eqb (code % 2) 0 n, lt-ltb old (suc (code / 2)) (omega arith))

  pub fallen : (code % 2 ≡ 0 → ⊥) → code / 2 < old → Some (old - code / 2 - 1) ≡ in_range (cost_from (pos old +ℤ change_from code))
  unfolding in_range cost_from change_from
  fallen n l =
      let same : old - suc (code / 2) ≡ old - code / 2 - 1 = omega arith in
      rw (ne_eqb (code % 2) 0 n, le-ltb old (suc (code / 2)) (omega arith), same, le-leb (old - code / 2 - 1) max_number (omega arith))

inside_some : (o : maybe.Option ℕ) (v : ℕ) → Some v ≡ in_range o → o ≡ some v
unfolding in_range
inside_some (some u) v q = ap some (sym (same_Some v u q))
inside_some none v q = absurd (none-some v (sym q))

-- A cost inside the range is at most the largest.
pub inside_small : (z : ℤ) (v : ℕ) → Some v ≡ in_range (cost_from z) → v ≤ max_number
inside_small z v q = (cost_found z v (inside_some (cost_from z) v q)).1

outside_none : (o : maybe.Option ℕ) → None ≡ in_range o → o ≡ none
unfolding in_range
outside_none (some u) q = absurd (none-some u q)
outside_none none q = refl

pub in_range_set : (m : ℕ) (xs : List ℕ) (i v : ℕ) → i < length xs → v ≤ max_number → InRange m (costs_at xs) → InRange m (costs_at (set xs i v))
in_range_set m xs i v l low h e k =
    elim (ℕ_discrete e i) [
      | yes q ↦ rw (q, get_or-set_same xs i v 0 l) low
      | no q ↦ rw (get_or-set_other xs i e v 0 q) (h e k)
    ]

-- ---- the count in front

module _ (m : ℕ) (c : ℕ → ℕ) (s : List ℕ) where
  pub no_count : read_at change_bytes s 0 ≡ None → none ≡ apply_sheet m c s
  unfolding behind_count
  no_count q = rw (located_refused 0 (decode change_bytes s) q)

  pub count_read :
      (count : Number) → read_at change_bytes s 0 ≡ Some count
      → (count.next ≤ length s) × (apply_from m count.value 0 c (drop count.next s) ≡ apply_sheet m c s)
  unfolding behind_count
  count_read count q =
      let (k, here, there) = located_value 0 (decode change_bytes s) count q in
      let same : count.next ≡ k = omega (arith, there) in (
        omega (arith, same, decode_size change_bytes s count.value k here),
        ap (λ (i : ℕ). apply_from m count.value 0 c (drop i s)) same ∙ sym (ap (behind_count m c s) here),
      )

-- ---- a turn

module _ (m left least : ℕ) (c : ℕ → ℕ) (s : List ℕ) (at : ℕ) (whole : maybe.Option (ℕ → ℕ)) (go : 0 < left)
    (rest : apply_from m left least c (drop at s) ≡ whole) where
  -- What the model does next, with the entry at hand.
  next_entry : move_by m least c (entry_of (drop at s)) (λ k least' c'. apply_from m (left - 1) least' c' (drop k (drop at s))) ≡ whole
  unfolding apply_from
  next_entry = of left go rest
    where
      of :
          (n : ℕ) → 0 < n → apply_from m n least c (drop at s) ≡ whole
          → move_by m least c (entry_of (drop at s)) (λ k least' c'. apply_from m (n - 1) least' c' (drop k (drop at s))) ≡ whole
      of zero l q = absurd (omega arith)
      of (suc n) l q = let same : suc n - 1 ≡ n = omega arith in rw same q

  pub apply_unread : None ≡ entry_at s at → none ≡ whole
  unfolding move_by
  apply_unread q = rw (entered_refused at (entry_of (drop at s)) q) at next_entry

  module _ (x : Entry) (q : Some x ≡ entry_at s at) where
    pub apply_barred : may_move m least x.edge x.code ≡ false → none ≡ whole
    unfolding move_by
    apply_barred b =
        let (k, here, there) = entered_moved at (entry_of (drop at s)) x q in
        rw (here, b) at next_entry

    module _ (may : may_move m least x.edge x.code ≡ true) where
      pub apply_out : None ≡ in_range (cost_from (pos (c x.edge) +ℤ change_from x.code)) → none ≡ whole
      unfolding move_by move_to
      apply_out o =
          let (k, here, there) = entered_moved at (entry_of (drop at s)) x q in
          rw (here, may, outside_none (cost_from (pos (c x.edge) +ℤ change_from x.code)) o) at next_entry

      pub apply_turn :
          (v : ℕ) → Some v ≡ in_range (cost_from (pos (c x.edge) +ℤ change_from x.code))
          → apply_from m (left - 1) (x.edge + 1) (put c x.edge v) (drop x.next s) ≡ whole
      unfolding move_by move_to
      apply_turn v o =
          let (k, here, there) = entered_moved at (entry_of (drop at s)) x q in
          let to = inside_some (cost_from (pos (c x.edge) +ℤ change_from x.code)) v o in
          rw (here, may, to, drop-drop k at s, ← there, ← add-one x.edge) at next_entry

-- The position behind an entry is within the sheet.
pub entry_within : (s : List ℕ) (at : ℕ) (x : Entry) → at ≤ length s → Some x ≡ entry_at s at → x.next ≤ length s
entry_within s at x l q =
    let (k, here, there) = entered_moved at (entry_of (drop at s)) x q in
    omega (arith, there, entry_size (drop at s) x.edge x.code k here, length-drop at s)

-- The last turn is done: nothing may follow.
pub apply_end :
    (m left least : ℕ) (c : ℕ → ℕ) (s : List ℕ) (at : ℕ) (whole : maybe.Option (ℕ → ℕ)) → left ≡ 0 → at ≤ length s
    → apply_from m left least c (drop at s) ≡ whole → given (eqb at (length s)) c ≡ whole
unfolding apply_from
apply_end m left least c s at whole z l q =
    elim (ℕ_discrete at (length s)) [
      | yes e ↦ rw (eq-eqb at (length s) e) (rw (z, drop_of_length-le s {i = at} (omega arith)) at q)
      | no n ↦ rw (ne_eqb at (length s) n) (rw (z, drop-cons s at 0 (omega arith)) at q)
    ]

-- ---- costs

module _ (m : ℕ) (s : List ℕ) where
  pub costs_undivided : count_from 0 (numbers s) ≡ None → none ≡ read_costs m s
  unfolding costs_from
  costs_undivided q = rw (counted_none (numbers s) q)

  module _ (total : ℕ) (q : count_from 0 (numbers s) ≡ Some total) where
    pub costs_wrong : (total ≡ m → ⊥) → none ≡ read_costs m s
    unfolding costs_from
    costs_wrong n =
        let (ns, divided, size) = counted_some (numbers s) total q in
        rw (divided, ne_eqb (length ns) m (λ e. n (sym size ∙ e)))

    pub costs_stand : Bytes s → total ≡ m → Divided s 0 m
    costs_stand h e =
        let (ns, divided, size) = counted_some (numbers s) total q in
        record { ns = ns; enough = omega (arith, size, e); within = omega arith; rest = (division s ns h).0 divided }

    pub costs_read :
        Bytes s → total ≡ m → (at : ℕ) (xs xs' : List ℕ) → m ≤ length xs → loaded_at at xs' ≡ loaded s 0 m xs → some (numbers_at m xs') ≡ read_costs m s
    unfolding costs_from
    costs_read h e at xs xs' l r =
        let (ns, divided, size) = counted_some (numbers s) total q in
        let all : length ns ≡ m = size ∙ e in
        let read = r ∙ load_numbers s m 0 0 ns xs (omega arith) ((division s ns h).0 divided) (omega (arith, all)) in
        let stored : xs' ≡ sets xs 0 ns = ap (λ (l : Loaded). l.values) read ∙ ap (sets xs 0) (take_all m ns (omega (arith, all))) in
        let same : numbers_at m xs' ≡ ns = ap (numbers_at m) stored ∙ rw all at (numbers_put ns xs (omega (arith, all))) in
        rw (divided, eq-eqb (length ns) m all) (ap some same)
