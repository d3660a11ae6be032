-- Laws of results and of the numbers that they tell. Assumes nothing.
use Rattle.std.specs.Prelude.{◌≤◌, ◌≡◌, Result, Ok, Err}
use Rattle.std.proofs.Common.{refl, arith}
use Rattle.std.proofs.lemmas.Result.{MatchResult-at_ok, MatchResult-at_err}
use Rattle.limits.specs.declared.Refusal.{Refusal}
use Rattle.limits.specs.declared.Refusal.TheVariants.{Numbers, Counts, Length, Ends, Marks, Tree, Room, Sheet, Log}
use Rattle.limits.specs.Refusals.{number_of}

-- What two equal results hold is equal, and an answer is no error.
pub same_ok : {T E : Type 0} (x y : T) → ◌≡◌ {A = Result T E} (Ok x) (Ok y) → x ≡ y
same_ok x y e = MatchResult-at_ok (λ v. x ≡ v) (λ _. ⊥) y e refl

pub same_err : {T E : Type 0} (x y : E) → ◌≡◌ {A = Result T E} (Err x) (Err y) → x ≡ y
same_err x y e = MatchResult-at_err (λ _. ⊥) (λ v. x ≡ v) y e refl

pub ok-err : {T E : Type 0} (x : T) (y : E) → ◌≡◌ {A = Result T E} (Ok x) (Err y) → ⊥
ok-err x y e = MatchResult-at_err (λ _. Unit {0}) (λ _. ⊥) y e tt

-- No refusal is told by 0.
pub refusal_nonzero : (r : Refusal) → number_of r ≡ 0 → ⊥
refusal_nonzero Numbers e = omega (arith, e)
refusal_nonzero Counts e = omega (arith, e)
refusal_nonzero Length e = omega (arith, e)
refusal_nonzero Ends e = omega (arith, e)
refusal_nonzero Marks e = omega (arith, e)
refusal_nonzero Tree e = omega (arith, e)
refusal_nonzero Room e = omega (arith, e)
refusal_nonzero Sheet e = omega (arith, e)
refusal_nonzero Log e = omega (arith, e)

pub refusal_most : (r : Refusal) → number_of r ≤ 9
refusal_most Numbers = omega arith
refusal_most Counts = omega arith
refusal_most Length = omega arith
refusal_most Ends = omega arith
refusal_most Marks = omega arith
refusal_most Tree = omega arith
refusal_most Room = omega arith
refusal_most Sheet = omega arith
refusal_most Log = omega arith
