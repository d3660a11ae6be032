-- Numbers in a frame, one behind the other: what the functions that read and write them compute. Definitions only.
-- Assumes nothing.
use Rattle.std.specs.Prelude.{ℕ, ◌+◌, ◌≤◌, ◌≡◌, List, Result, Ok, Err, length, drop, get_or, set}
use Rattle.std.proofs.lemmas.List.Edits.{sets}
use Rattle.loops.specs.Loop.{scan, tabulate}
use Rattle.number.specs.Number.{Decoded, decode}
use Rattle.limits.specs.Limits.{number_bytes}
use Rattle.frame.specs.Meaning.{Divides}
use Rattle.leb128.specs.declared.Number.{Number}
use Rattle.frame.specs.Services.{Place, Outcome}
use Rattle.codec.specs.declared.Part.{Part}
use Rattle.limits.specs.declared.Refusal.{Refusal}
use Rattle.limits.specs.Refusals.{refusal_in, size_in}

-- The number at a position and the position behind it; 0 and the position itself if there is none.
unfoldable pub taken : ℕ → Decoded → Number
taken at (Decoded.number v n) = record { value = v; next = at + n }
taken at Decoded.none = record { value = 0; next = at }

abbrev pub taken_at : List ℕ → ℕ → Number
taken_at s at = taken at (decode number_bytes (drop at s))

-- From a position on a part of a frame divides into numbers, at least n of them.
pub record Divided (s : List ℕ) (at n : ℕ) : Type 0 where
  pub ns : List ℕ
  pub enough : n ≤ length ns
  pub within : at ≤ length s
  pub rest : Divides (drop at s) ns

-- The position behind so many numbers from a position on.
abbrev pub step : List ℕ → ℕ → ℕ → ℕ
step s i at = (taken_at s at).next

abbrev pub skipped : List ℕ → ℕ → ℕ → ℕ
skipped s n at = scan (step s) n 0 at

-- The first n numbers of a list.
abbrev pub numbers_at : ℕ → List ℕ → List ℕ
numbers_at n xs = tabulate n (λ i. get_or xs i 0)

-- Numbers read into a list, and the position behind the last one read.
pub record Loaded : Type 0 where
  pub next : ℕ
  pub values : List ℕ

abbrev pub loaded_at : ℕ → List ℕ → Loaded
loaded_at next values = record { next = next; values = values }

-- The number at the position read into place i; and n numbers, from a position on, into the first places.
unfoldable pub load : List ℕ → ℕ → Loaded → Loaded
load s i l =
    let t : Number = taken_at s l.next in
    loaded_at t.next (set l.values i t.value)

abbrev pub loaded : List ℕ → ℕ → ℕ → List ℕ → Loaded
loaded s at n values = scan (load s) n 0 (loaded_at at values)

-- The code's place of a part, in the words of the definitions.
abbrev pub place_of : Part → Place
place_of p = record { offset = p.offset; size = p.length }

-- Numbers written one behind the other, as the code writes them: where each begins and what the area then holds.
pub record Put (before : List ℕ) (at : ℕ) (bytes : List ℕ) (behind : ℕ) (after : List ℕ) : Type 0 where
  pub next : behind ≡ at + length bytes
  pub area : after ≡ sets before at bytes

-- What a service says, with the area as it then is: the length written, or why it refuses.
abbrev pub outcome : Result ℕ Refusal → List ℕ → Outcome
outcome r area = record { refusal = refusal_in r; size = size_in r; area = area }

-- What is said of a reply, told in a caller's own errors: of an error it is said of a refusal of which the caller makes it.
abbrev pub Told : {E : Type 0} → (Refusal → E → Type 0) → Result ℕ E → (Result ℕ Refusal → Type 0) → Type 0
Told makes (Ok n) Said = Said (Ok n)
Told makes (Err e) Said = (q : Refusal) × makes q e × Said (Err q)
