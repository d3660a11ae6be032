-- How the costs going in and the sheets going in are read, as functions that compute. Definitions only. Assumes nothing.
use Rattle.std.specs.Prelude.{ℕ, zero, suc, ◌+◌, ◌/◌, ◌%◌, Bool, true, false, cond, not, ◌&&◌, List, [], ◌∷◌, leb, ltb, eqb, ℤ}
use Rattle.std.specs.Prelude.{pos, negsuc, ◌+ℤ◌, length, get_or, drop}
use Rattle.std.proofs.Math.Option.{Option, some, none, map}
use Rattle.limits.specs.Limits.{max_number, change_bytes}
use Rattle.loops.specs.Below.{choose}
use Rattle.loops.specs.Loop.{put}
use Rattle.number.specs.Number.{Decoded, decode}
use Rattle.frame.specs.Questions.{numbers}
use Rattle.sheet.specs.Sheet.{sheet_frame, costs_frame, moves_of}

-- Was anything found?
abbrev pub is_some : {A : Type 0} → Option A → Bool
is_some (some x) = true
is_some none = false

-- ---- costs

-- Numbers that are as many as there are links.
unfoldable pub costs_from : ℕ → Option (List ℕ) → Option (List ℕ)
costs_from m (some ns) = choose (eqb (length ns) m) (λ _. some ns) (λ _. none)
costs_from m none = none

abbrev pub read_costs : ℕ → List ℕ → Option (List ℕ)
read_costs m s = costs_from m (numbers s)

-- Numbers of a list as costs by link.
abbrev pub costs_at : List ℕ → ℕ → ℕ
costs_at ns e = get_or ns e 0

-- ---- sheets

-- The change of a code: an even one is positive or 0, an odd one negative.
unfoldable pub change_from : ℕ → ℤ
change_from z = cond (eqb (z % 2) 0) (pos (z / 2)) (negsuc (z / 2))

-- A whole number as a cost, if it is one of 0 to 2,097,151.
unfoldable pub cost_from : ℤ → Option ℕ
cost_from (pos v) = choose (leb v max_number) (λ _. some v) (λ _. none)
cost_from (negsuc v) = none

-- The entry in front of a list of bytes, a link and the code of its change, with how many bytes it takes; or that none can be read.
pub data Entry : Type 0 where
  entry : ℕ → ℕ → ℕ → Entry
  unread : Entry

unfoldable pub with_code : ℕ → ℕ → Decoded → Entry
with_code e n (Decoded.number z k) = Entry.entry e z (n + k)
with_code e n Decoded.none = Entry.unread

unfoldable pub with_link : List ℕ → Decoded → Entry
with_link s (Decoded.number e n) = with_code e n (decode change_bytes (drop n s))
with_link s Decoded.none = Entry.unread

abbrev pub entry_of : List ℕ → Entry
entry_of s = with_link s (decode change_bytes s)

-- Link e is one that may follow on a sheet to a job of m links, if it is not below `least`; its code must not be 0.
abbrev pub may_move : ℕ → ℕ → ℕ → ℕ → Bool
may_move m least e z = leb least e && ltb e m && not (eqb z 0)

-- The costs with a new one for link e, handed on; and so with an entry.
unfoldable pub move_to : ℕ → (ℕ → ℕ) → Option ℕ → ((ℕ → ℕ) → Option (ℕ → ℕ)) → Option (ℕ → ℕ)
move_to e c (some v) rest = rest (put c e v)
move_to e c none rest = none

unfoldable pub move_by : ℕ → ℕ → (ℕ → ℕ) → Entry → (ℕ → ℕ → (ℕ → ℕ) → Option (ℕ → ℕ)) → Option (ℕ → ℕ)
move_by m least c (Entry.entry e z k) rest =
    choose (may_move m least e z) (λ _. move_to e c (cost_from (pos (c e) +ℤ change_from z)) (rest k (suc e))) (λ _. none)
move_by m least c Entry.unread rest = none

-- The costs after n entries, of links from `least` on, which are all that the bytes hold.
unfoldable pub apply_from : ℕ → ℕ → ℕ → (ℕ → ℕ) → List ℕ → Option (ℕ → ℕ)
apply_from m zero least c [] = some c
apply_from m zero least c (b ∷ s) = none
apply_from m (suc n) least c s = move_by m least c (entry_of s) (λ k least' c'. apply_from m n least' c' (drop k s))

-- The costs that a sheet leads to, behind its count.
unfoldable pub behind_count : ℕ → (ℕ → ℕ) → List ℕ → Decoded → Option (ℕ → ℕ)
behind_count m c s (Decoded.number n k) = apply_from m n 0 c (drop k s)
behind_count m c s Decoded.none = none

abbrev pub apply_sheet : ℕ → (ℕ → ℕ) → List ℕ → Option (ℕ → ℕ)
apply_sheet m c s = behind_count m c s (decode change_bytes s)

-- ---- the two services' bytes

-- The sheet that the costs f have, and the costs that the sheet s has, in a job of m links of the costs c; none where what goes in
-- is not in form or leaves the range.
abbrev pub sheet_bytes : ℕ → (ℕ → ℕ) → List ℕ → Option (List ℕ)
sheet_bytes m c f = map (λ ns. sheet_frame (moves_of m c (costs_at ns))) (read_costs m f)

abbrev pub costs_bytes : ℕ → (ℕ → ℕ) → List ℕ → Option (List ℕ)
costs_bytes m c s = map (costs_frame m) (apply_sheet m c s)
