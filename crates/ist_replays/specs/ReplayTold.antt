-- What the function for C on packet logs promises: the service's promise, with its reply told in plain numbers. Definitions only.
-- Assumes nothing.
use Rattle.std.specs.Prelude.{ℕ, ◌^◌, ◌-◌, ◌≡◌, Option, Some, None, Result, Ok, Err, ℤ, pos}
use Rattle.limits.specs.declared.Refusal.{Refusal}
use Rattle.limits.specs.Refusals.{refusal_in}
use Rattle.replaying.specs.declared.Replayed.{Replayed}
use Rattle.replaying.specs.Replayed.{length_told}

-- The largest number of C's size_t says "never".
abbrev pub never_code : ℕ
never_code = 2 ^ 64 - 1

abbrev pub first_code : Option ℕ → ℕ
first_code (Some k) = k
first_code None = never_code

-- After how many packets the tree was first cheapest; none of a refusal.
abbrev pub first_said : Result Replayed Refusal → Option ℕ
first_said (Ok r) = r.first
first_said (Err q) = None

-- The numbers are those of a reply which the service may give.
pub record ReplayTold (Told : Result Replayed Refusal → Type 0) (r : ℤ) (written first : ℕ) : Type 0 where
  pub said : Result Replayed Refusal
  pub number : r ≡ pos (refusal_in said)
  pub length : written ≡ length_told said
  pub count : first ≡ first_code (first_said said)
  -- no number of packets is taken for "never"
  pub never : first ≡ never_code → first_said said ≡ None
  pub told : Told said
