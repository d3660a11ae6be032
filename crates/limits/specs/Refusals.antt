-- The refusals of the format by their numbers, and what a result says of one. Definitions only. Assumes nothing.
use Rattle.std.specs.Prelude.{ℕ, Result, Ok, Err}
use Rattle.limits.specs.declared.Refusal.{Refusal}
use Rattle.limits.specs.declared.Refusal.TheVariants.{Numbers, Counts, Length, Ends, Marks, Tree, Room, Sheet, Log}

-- The number of a refusal is that of the question to which the answer is "no".
abbrev pub number_of : Refusal → ℕ
number_of Numbers = 1
number_of Counts = 2
number_of Length = 3
number_of Ends = 4
number_of Marks = 5
number_of Tree = 6
number_of Room = 7
number_of Sheet = 8
number_of Log = 9

-- The number that a result tells: 0 if there is no refusal.
abbrev pub refusal_in : {A : Type 0} → Result A Refusal → ℕ
refusal_in (Ok x) = 0
refusal_in (Err r) = number_of r

-- How many bytes a result says were written: none if there is a refusal.
abbrev pub size_in : Result ℕ Refusal → ℕ
size_in (Ok n) = n
size_in (Err r) = 0
