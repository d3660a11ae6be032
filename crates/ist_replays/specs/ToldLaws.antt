-- No number of packets is taken for "never". Assumes nothing.
use Rattle.std.specs.Prelude.{ℕ, ◌^◌, ◌<◌, ◌≡◌, refl, List, Option, Some, None, Result, Ok, Err, length}
use Rattle.std.proofs.Common.{arith, sym, ap, ◌∙◌}
use Rattle.std.specs.Option.{unwrap_or}
use Rattle.limits.specs.declared.Refusal.{Refusal}
use Rattle.replaying.specs.declared.Replayed.{Replayed}
use Rattle.replaying.specs.Replayed.{packets_told, LogReplayed}
use Rattle.replaying.specs.ReplayedLaws.{told_few}
use Rattle.ist_replays.specs.ReplayTold.{never_code, first_code, first_said}

pub never_told :
    (s f area : List ℕ) (r : Result Replayed Refusal) (after : List ℕ) → length f < 2 ^ 64 → LogReplayed s f area r after
    → first_code (first_said r) ≡ never_code → first_said r ≡ None
never_told s f area (Err q) after l p e = refl
never_told s f area (Ok x) after l p e = of x.first refl
  where
    of : (when : Option ℕ) → x.first ≡ when → x.first ≡ None
    of None q = q
    of (Some k) q =
        let same : k ≡ never_code = sym (ap first_code q) ∙ e in
        absurd (omega (arith, same, told_few s f area (Ok x) after p k (ap packets_told q)))

pub never_or : (o : Option ℕ) → unwrap_or o never_code ≡ first_code o
never_or (Some k) = refl
never_or None = refl
