-- Links lent as a list of records: the first ones with zeros behind the last, and whether every number is small.
-- Definitions only. Assumes nothing.
use Rattle.std.specs.Prelude.{ℕ, ◌+◌, ◌-◌, min, Bool, ◌&&◌, List, ◌++◌, map, length, get_or, take, drop, replicate, leb}
use Rattle.limits.specs.Limits.{max_number}
use Rattle.loops.specs.Below.{all_below}
use Rattle.records.specs.declared.Link.{Link}
use Rattle.records.specs.declared.ListCopy.{ListCopy}

abbrev pub zero_link : Link
zero_link = record { end1 = 0; end2 = 0; cost = 0; mark = 0 }

-- The first n links of a list, zeros behind the last.
unfoldable pub first_links : ℕ → List Link → List Link
first_links n ys = take n ys ++ replicate (n - length ys) zero_link

-- A list of numbers of which the first i were replaced by one number of each of the first i links.
unfoldable pub column_put : (Link → ℕ) → ℕ → List Link → List ℕ → List ℕ
column_put f i ys old = take i (map f ys) ++ drop i old

-- No number of a link is above 2,097,151 (question 1).
abbrev pub small_link : Link → Bool
small_link l = leb l.end1 max_number && leb l.end2 max_number && leb l.cost max_number && leb l.mark max_number

-- No number of the first n links of a list is.
abbrev pub small_to : ℕ → List Link → Bool
small_to n ys = all_below n λ e. small_link (get_or ys e zero_link)

-- No number of the first 2,097,152 links of a list is, or of all its links if it has fewer: a list longer than 2,097,151 is refused
-- whatever it holds, so its links beyond are not looked at.
abbrev pub all_small : List Link → Bool
all_small ys = small_to (min (length ys) (max_number + 1)) ys

-- What is handed on of a list: its length, whether its numbers are small, and its first 256 links.
abbrev pub list_copy : List Link → ListCopy
list_copy ys = record { count = length ys; small = all_small ys; links = first_links 256 ys }
