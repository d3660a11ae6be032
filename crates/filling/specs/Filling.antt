-- What is put into the first places of an array: the numbers of links. Definitions only. Assumes nothing.
use Rattle.std.specs.Prelude.{ℕ}
use mathlib.Core.List.{List, flat_map}
use Rattle.frame.specs.Job.{fields}
use Rattle.records.specs.declared.Link.{Link}
use Rattle.accept.specs.ListJobs.{job_link}

-- Four numbers a link: its ends, its cost, its mark.
abbrev pub link_numbers : List Link → List ℕ
link_numbers ys = flat_map (λ l. fields (job_link l)) ys
