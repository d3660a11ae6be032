-- A job frame in groups of numbers, as it is written: the two counts, and then the four numbers of each link. Definitions only.
-- Assumes nothing.
use Rattle.std.specs.Prelude.{ℕ, zero, suc, List, [], ◌∷◌}
use Rattle.loops.specs.Loop.{gather}
use Rattle.frame.specs.Job.{fields, bytes_of}
use Rattle.frame.specs.Arrays.{Columns, link_at}

unfoldable pub group : ℕ → ℕ → Columns → ℕ → List ℕ
group nodes edges c zero = nodes ∷ edges ∷ []
group nodes edges c (suc e) = fields (link_at c e)

-- The bytes of the first n groups.
abbrev pub groups_bytes : (ℕ → List ℕ) → ℕ → List ℕ
groups_bytes f n = bytes_of (gather n f)
