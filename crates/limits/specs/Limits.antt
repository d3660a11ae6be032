-- The limits and the marks of the format. Definitions only. Assumes nothing.
use Rattle.std.specs.Prelude.{ℕ, ◌^◌, ◌-◌, Bool, not, ◌&&◌, ltb, eqb}

-- Stations and links of a job.
abbrev pub max_nodes : ℕ
max_nodes = 64

abbrev pub max_edges : ℕ
max_edges = 256

-- The bytes of a number, of the step count, and of a number on a step sheet.
abbrev pub number_bytes : ℕ
number_bytes = 3

abbrev pub step_bytes : ℕ
step_bytes = 4

abbrev pub change_bytes : ℕ
change_bytes = 4

-- The largest number that fits into k bytes; the largest of a job: 2,097,151.
abbrev pub largest : ℕ → ℕ
largest k = 128 ^ k - 1

abbrev pub max_number : ℕ
max_number = largest number_bytes

-- The longest job frame and the longest answer frame, in bytes: laws of crate `frame`. The longest step sheet, and the longest
-- costs in link order: laws of crate `sheet`.
abbrev pub job_most : ℕ
job_most = 1539

abbrev pub answer_most : ℕ
answer_most = 1025

abbrev pub sheet_most : ℕ
sheet_most = 1410

abbrev pub costs_most : ℕ
costs_most = 768

-- The mark of a spare link, of a tree link, and of a link that is laid but not plugged, which is the largest mark.
abbrev pub spare_mark : ℕ
spare_mark = 0

abbrev pub tree_mark : ℕ
tree_mark = 1

abbrev pub unplugged_mark : ℕ
unplugged_mark = 2

-- What a mark says of a link: it is in the marked tree; it is plugged, so that a spanning tree may take it; it is spare, so
-- plugged and not in the tree.
abbrev pub marks_tree : ℕ → Bool
marks_tree m = eqb m tree_mark

abbrev pub marks_plugged : ℕ → Bool
marks_plugged m = ltb m unplugged_mark

abbrev pub marks_spare : ℕ → Bool
marks_spare m = marks_plugged m && not (marks_tree m)
