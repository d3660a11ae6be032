-- What a service that writes replies and leaves in its area, which lists have no large number, and where a part of a frame stands.
-- Definitions only. Assumes nothing.
use Rattle.std.specs.Prelude.{ℕ, zero, suc, ◌+◌, ◌*◌, ◌<◌, ◌≡◌, ◌≢◌, ◌⊎◌, Bool, ◌&&◌, List, ◌++◌, leb, length, get_or, take, drop}
use Rattle.std.proofs.lemmas.List.Edits.{sets}
use Rattle.loops.specs.Below.{choose, all_below}
use Rattle.number.specs.Number.{encode}
use Rattle.optimum.specs.Optimum.{Answer}
use Rattle.frame.specs.Job.{JobLink, Job, link, bytes_of}
use Rattle.limits.specs.Limits.{max_number, number_bytes, step_bytes}

-- A reply: 0 and the length written, or the number of a refusal and 0; and the area as the service leaves it.
pub record Outcome : Type 0 where
  pub refusal : ℕ
  pub size : ℕ
  pub area : List ℕ

-- Bytes written at a place of an area, unless there was a refusal r before. Question 7: is the area long enough?
abbrev pub written : ℕ → List ℕ → ℕ → List ℕ → Outcome
written zero bytes at area =
    choose (leb (at + length bytes) (length area))
    (λ _. record { refusal = 0; size = length bytes; area = sets area at bytes })
    (λ _. record { refusal = 7; size = 0; area = area })
written (suc r) bytes at area = record { refusal = suc r; size = 0; area = area }

-- The outcome o of a service that puts question 7 last and writes `bytes`; `earlier` is the number that the questions before it give.
pub record Served (earlier : ℕ) (bytes area : List ℕ) (o : Outcome) : Type 0 where
  -- number, length and every byte
  pub said : o ≡ written earlier bytes 0 area
  -- the number: the earlier one; or 7, if there is none and the area is too short; or 0
  pub number : (o.refusal ≡ earlier) ⊎ ((earlier ≡ 0) × (o.refusal ≡ 7) × (length area < length bytes))
  -- a refusal writes nothing
  pub refused : o.refusal ≢ 0 → (o.size ≡ 0) × (o.area ≡ area)
  -- without one the bytes stand in front, and what is behind them is as it was
  pub front : o.refusal ≡ 0 → take o.size o.area ≡ bytes
  pub rest : o.refusal ≡ 0 → drop o.size o.area ≡ drop o.size area

-- A list of links without a number above 2,097,151 (question 1).
abbrev pub small_numbers : JobLink → Bool
small_numbers l = leb l.end₁ max_number && leb l.end₂ max_number && leb l.cost max_number && leb l.mark max_number

unfoldable pub small : Job → Bool
small j =
    leb j.nodes max_number &&
    leb (length j.links) max_number &&
    all_below (length j.links) λ e. small_numbers (link j e)

-- Where a part of a frame stands: from this place on, and so many bytes; nowhere, of no bytes, if it is not shown.
pub record Place : Type 0 where
  pub offset : ℕ
  pub size : ℕ

abbrev pub nowhere : Place
nowhere = record { offset = 0; size = 0 }

abbrev pub part_at : Place → List ℕ → List ℕ
part_at p s = take p.size (drop p.offset s)

-- Where link e's four numbers stand in a frame of the numbers ns.
abbrev pub link_offset : List ℕ → ℕ → ℕ
link_offset ns e = length (bytes_of (take (4 * e + 2) ns))

abbrev pub link_length : List ℕ → ℕ → ℕ
link_length ns e = length (bytes_of (take 4 (drop (4 * e + 2) ns)))

-- Where link e's new cost stands in the frame of an answer.
abbrev pub cost_offset : Answer → ℕ → ℕ
cost_offset a e = length (encode step_bytes a.steps ++ bytes_of (take e a.costs))

abbrev pub cost_length : Answer → ℕ → ℕ
cost_length a e = length (encode number_bytes (get_or a.costs e 0))
