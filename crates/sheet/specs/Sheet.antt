-- Step sheets: which links move and by how much; their layout, the costs that they lead to, and the sheet of new costs.
-- Costs are functions of the link: c the old ones, d the new ones. Definitions only. Assumes nothing.
use Rattle.std.specs.Prelude.{ℕ, ◌+◌, ◌*◌, ◌^◌, ◌<◌, ◌≤◌, ◌≡◌, ◌≢◌, cond, eqb, ℤ, pos, negsuc, nat_abs, ◌+ℤ◌, ◌-ℤ◌, length}
use mathlib.Core.List.{List, [], ◌∷◌, flat_map, Memᴰ}
use Rattle.limits.specs.Limits.{max_number, change_bytes}
use Rattle.loops.specs.Loop.{gather, tabulate}
use Rattle.loops.specs.Ordered.{Ordered}
use Rattle.loops.specs.SumLaws.{sum_over}
use Rattle.frame.specs.Job.{bytes_by, bytes_of}

-- A moved link and its signed change.
pub record Move : Type 0 where
  pub edge : ℕ
  pub change : ℤ

-- A change k is written as 2 × k if it is positive, as −2 × k − 1 if it is negative.
abbrev pub coded : ℤ → ℕ
coded (pos k) = 2 * k
coded (negsuc k) = 2 * k + 1

-- The layout: the count of moved links, then of each its number and its change. Four bytes are the limit of a change; counts and
-- link numbers are at most 256 and take two.
abbrev pub move_numbers : Move → List ℕ
move_numbers k = k.edge ∷ coded k.change ∷ []

abbrev pub sheet_frame : List Move → List ℕ
sheet_frame ks = bytes_by change_bytes (length ks ∷ flat_map move_numbers ks)

-- What is asked of an entry of a sheet to a job of m links: its link is in the job, and its change is not 0 and fits.
pub record MoveIn (m : ℕ) (k : Move) : Type 0 where
  pub inside : k.edge < m
  pub moved : k.change ≢ pos 0
  pub limit : coded k.change < 128 ^ change_bytes

-- RisingMoves by link.
abbrev pub RisingMoves : List Move → Type 0
RisingMoves ks = Ordered (λ k k'. k.edge < k'.edge) ks

-- The frame s is laid out as the sheet ks to a job of m links, with nothing following.
pub record SheetOf (m : ℕ) (s : List ℕ) (ks : List Move) : Type 0 where
  pub joined : sheet_frame ks ≡ s
  pub rising : RisingMoves ks
  pub each : (k : Move) → Memᴰ k ks → MoveIn m k

-- Costs in range: 0 to 2,097,151 for every link of the job.
abbrev pub InRange : ℕ → (ℕ → ℕ) → Type 0
InRange m d = (e : ℕ) → e < m → d e ≤ max_number

-- Costs in link order, one number a link; the frame s is laid out as the costs d of m links, with nothing following.
abbrev pub costs_frame : ℕ → (ℕ → ℕ) → List ℕ
costs_frame m d = bytes_of (tabulate m d)

pub record CostsOf (m : ℕ) (s : List ℕ) (d : ℕ → ℕ) : Type 0 where
  pub joined : costs_frame m d ≡ s
  pub limit : InRange m d

-- The change of link e on a sheet; 0 if the sheet does not name it.
unfoldable pub change_of : List Move → ℕ → ℤ
change_of [] e = pos 0
change_of (k ∷ ks) e = cond (eqb k.edge e) k.change (change_of ks e)

-- From the costs c the sheet ks leads to the costs d, which are in range.
pub record LeadsTo (m : ℕ) (ks : List Move) (c d : ℕ → ℕ) : Type 0 where
  pub changed : (e : ℕ) → e < m → pos (d e) ≡ pos (c e) +ℤ change_of ks e
  pub limit : InRange m d

-- The sheet s and the new costs f give each other, in a job of m links of the costs c.
pub record Translated (m : ℕ) (c : ℕ → ℕ) (s f : List ℕ) : Type 0 where
  pub moves : List Move
  pub new : ℕ → ℕ
  pub sheet : SheetOf m s moves
  pub costs : CostsOf m f new
  pub leads : LeadsTo m moves c new

-- The sheet of the new costs d: the links that they move, rising.
abbrev pub move_of : ℕ → ℕ → ℕ → List Move
move_of e old new = cond (eqb new old) [] (record { edge = e; change = pos new -ℤ pos old } ∷ [])

abbrev pub moves_of : ℕ → (ℕ → ℕ) → (ℕ → ℕ) → List Move
moves_of m c d = gather m (λ e. move_of e (c e) (d e))

-- The absolute changes of a sheet, added up.
abbrev pub move_sum : List Move → ℕ
move_sum ks = sum_over (λ (k : Move). nat_abs k.change) ks
