-- What the functions that read costs and sheets compute. Definitions only. Assumes nothing.
use Rattle.std.specs.Prelude.{ℕ, ◌+◌, Bool, true, false, List, Option, Some, None, drop}
use Rattle.std.proofs.Math.Option.{some, none}
use Rattle.std.proofs.Math.Option as maybe
use Rattle.sheet.specs.Reading as Model
use Rattle.sheet.specs.Reading.{entry_of}
use Rattle.sheet_read.specs.declared.Entry.{Entry}

-- The model's entry, for what stands at a position.
unfoldable pub entered : ℕ → Model.Entry → Option Entry
entered at (Model.Entry.entry e z k) = Some (record { edge = e; code = z; next = at + k })
entered at Model.Entry.unread = None

abbrev pub entry_at : List ℕ → ℕ → Option Entry
entry_at s at = entered at (entry_of (drop at s))

-- The model's cost, if it is in the range.
unfoldable pub in_range : maybe.Option ℕ → Option ℕ
in_range (some v) = Some v
in_range none = None

-- What was found, if it was.
abbrev pub given : {A : Type 0} → Bool → A → maybe.Option A
given true x = some x
given false x = none
