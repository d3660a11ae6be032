-- What the functions that put question 1 to a frame compute. Definitions only. Assumes nothing.
use Rattle.std.specs.Prelude.{ℕ, ◌+◌, ◌-◌, ◌/◌, ◌≤◌, Bool, not, ◌&&◌, ◌||◌, ◌≡◌, List, Option, Some, None, ltb, eqb, length, get_or, drop}
use Rattle.std.proofs.Math.Option as maybe
use Rattle.frame.specs.Questions.{divide}

-- How many numbers a frame divides into, n of them counted before.
unfoldable pub count_from : ℕ → maybe.Option (List ℕ) → Option ℕ
count_from n (maybe.some ns) = Some (n + length ns)
count_from n maybe.none = None

-- The count at a position of a frame: what is still to be counted, added to n, is the whole.
pub record Counting (s : List ℕ) (at n : ℕ) (whole : Option ℕ) : Type 0 where
  pub fuel : ℕ
  pub enough : length s - at ≤ fuel
  pub few : n ≤ at
  pub within : at ≤ length s
  pub rest : count_from n (divide fuel (drop at s)) ≡ whole

-- May b and c stand behind a where numbers take one to three bytes? A byte from 128 on wants one other than 0 behind it, and of
-- three bytes one is below 128.
abbrev pub may_follow : ℕ → ℕ → ℕ → Bool
may_follow a b c = ltb a 128 || (not (eqb b 0) && (ltb b 128 || ltb c 128))

abbrev pub followed : List ℕ → ℕ → Bool
followed s i = may_follow (get_or s i 0) (get_or s (i + 1) 0) (get_or s (i + 2) 0)

-- 1 for a byte behind which its number goes on, 0 for the last byte of a number.
abbrev pub continued : List ℕ → ℕ → ℕ
continued s i = get_or s i 0 / 128
