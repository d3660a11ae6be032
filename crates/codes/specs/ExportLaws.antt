-- Refusals are small numbers, and fit the results of functions for C. Assumes nothing.
use Rattle.std.specs.Prelude.{ℕ, ◌<◌, ◌≤◌, ◌≡◌, refl, Bool, true, false, Result, Ok, Err, MatchResult, IsErrAnd, ℤ, pos}
use Rattle.std.proofs.Common.{arith, ap, ◌∙◌, ⊎_elim, lt-ltb, to_z, of_z}
use mathlib.Core.List.{List}
use Rattle.std.specs.Int.{w32}
use Rattle.limits.specs.declared.Refusal.{Refusal}
use Rattle.limits.specs.Refusals.{number_of, refusal_in}
use Rattle.limits.specs.ResultLaws.{ok-err, same_err, refusal_most}
use Rattle.frame.specs.Services.{Outcome, Served}
use Rattle.frame.specs.Meaning.{FirstNo, FirstNoWith, no1, no2, no3, no4, no5, no6, none}
use Rattle.codes.specs.Exports.{code_of, code_in, numbered, told, told_verdict}

-- A refusal inside a verdict is a number that a result of C can tell.
abbrev pub Sayable : Result Bool ℕ → Type 0
Sayable v = (refusal : ℕ) → v ≡ Err refusal → refusal ≤ 31

-- Questions 1 to 6 have numbers up to 6.
pub first_most : {s : List ℕ} {n : ℕ} → FirstNo s n → n ≤ 6
first_most (no1 x) = omega arith
first_most (no2 ns d x) = omega arith
first_most (no3 ns d c x) = omega arith
first_most (no4 ns d c f x) = omega arith
first_most (no5 ns d c f e x) = omega arith
first_most (no6 ns f x) = omega arith
first_most (none ns f x) = omega arith

-- And so with a question of a service's own, if its number is one that a result of C can tell.
pub first_with_most : {s : List ℕ} {number n : ℕ} {Holds : Type 0} → FirstNoWith s number Holds n → number ≤ 31 → n ≤ 31
first_with_most (FirstNoWith.earlier r n f) l = omega (arith, first_most f)
first_with_most (FirstNoWith.own f x) l = l
first_with_most (FirstNoWith.passed f x) l = omega arith

pub served_most : {earlier : ℕ} {bytes area : List ℕ} {o : Outcome} → Served earlier bytes area o → earlier ≤ 31 → o.refusal ≤ 31
served_most k l = ⊎_elim (λ q. omega (arith, q, l)) (λ q. omega (arith, q.1)) k.number

-- A number as a result of C: cut off at 31, as it is up to there, and read back from the result's bits.
number_same : (n : ℕ) → n ≤ 31 → to_z w32 n ≡ pos n
number_same n l = let small : n < 2147483648 = omega arith in rw (lt-ltb n 2147483648 small)

pub number_large : (n : ℕ) → 31 < n → pos 31 ≡ pos (told n)
number_large n l = let cut : 31 ≡ told n = omega arith in ap pos cut

pub number_small : (n : ℕ) → n ≤ 31 → to_z w32 n ≡ pos (told n)
number_small n l = let same : n ≡ told n = omega arith in number_same n l ∙ ap pos same

pub number_read : (n : ℕ) (r : ℤ) → r ≡ pos (told n) → to_z w32 (of_z w32 r) ≡ pos (told n)
number_read n r e = ap (λ (z : ℤ). to_z w32 (of_z w32 z)) e ∙ number_same (told n) (omega arith)

pub number_told : (n : ℕ) (r : ℤ) → n ≤ 31 → r ≡ pos (told n) → to_z w32 (of_z w32 r) ≡ pos n
number_told n r l e = let same : told n ≡ n = omega arith in number_read n r e ∙ ap pos same

-- What a reply or a verdict tells is a number that a result of C can tell, and is told as it is.
pub reply_most : {A : Type 0} (r : Result A Refusal) → refusal_in r ≤ 31
reply_most (Ok x) = omega arith
reply_most (Err q) = omega (arith, refusal_most q)

pub told_refusal : (q : Refusal) → told (number_of q) ≡ number_of q
told_refusal q = omega (arith, refusal_most q)

-- Read back from the result's bits.
pub reply_read : {A : Type 0} (p : Result A Refusal) (r : ℤ) → r ≡ pos (refusal_in p) → to_z w32 (of_z w32 r) ≡ pos (refusal_in p)
reply_read p r e = ap (λ (z : ℤ). to_z w32 (of_z w32 z)) e ∙ number_same (refusal_in p) (reply_most p)

pub code_read : (v : Result Bool Refusal) (r : ℤ) → r ≡ code_of v → to_z w32 (of_z w32 r) ≡ code_of v
code_read (Ok true) r e = ap (λ (z : ℤ). to_z w32 (of_z w32 z)) e
code_read (Ok false) r e = ap (λ (z : ℤ). to_z w32 (of_z w32 z)) e
code_read (Err q) r e = ap (λ (z : ℤ). to_z w32 (of_z w32 z)) e ∙ number_same (number_of q) (reply_most {A = Bool} (Err q))

-- The same of a verdict whose refusal is given by its number.
told_same : (v : Result Bool ℕ) → Sayable v → told_verdict v ≡ v
told_same (Ok word) h = refl
told_same (Err n) h = let same : told n ≡ n = omega (arith, h n refl) in ap Err same

code_same : (v : Result Bool ℕ) → Sayable v → to_z w32 (of_z w32 (code_in v)) ≡ code_in v
code_same (Ok true) h = refl
code_same (Ok false) h = refl
code_same (Err n) h = number_same n (h n refl)

pub code_told : (v : Result Bool ℕ) (r : ℤ) → Sayable v → r ≡ code_in (told_verdict v) → to_z w32 (of_z w32 r) ≡ code_in v
code_told v r h e = ap (λ (z : ℤ). to_z w32 (of_z w32 z)) (e ∙ ap code_in (told_same v h)) ∙ code_same v h

-- A refusal's number is such a number: a verdict with its refusal given by its number is told as the verdict is.
pub numbered_sayable : (v : Result Bool Refusal) → Sayable (numbered v)
numbered_sayable (Ok word) refusal e = absurd (ok-err word refusal e)
numbered_sayable (Err q) refusal e = omega (arith, refusal_most q, same_err (number_of q) refusal e)

pub code_numbered : (v : Result Bool Refusal) → code_in (told_verdict (numbered v)) ≡ code_of v
code_numbered (Ok true) = refl
code_numbered (Ok false) = refl
code_numbered (Err q) = ap pos (told_refusal q)

-- What `map_err` gives of it, told and read back.
numbered_is :
    (v : Result Bool Refusal) (n : Result Bool ℕ) → MatchResult v (λ word. n ≡ Ok word) (λ q. IsErrAnd n (λ k. k ≡ number_of q)) → n ≡ numbered v
numbered_is (Ok word) n e = e
numbered_is (Err q) (Ok word) e = absurd e
numbered_is (Err q) (Err k) e = ap Err e

pub code_said :
    (v : Result Bool Refusal) (n : Result Bool ℕ) (r : ℤ) → MatchResult v (λ word. n ≡ Ok word) (λ q. IsErrAnd n (λ k. k ≡ number_of q))
    → r ≡ code_in (told_verdict n) → to_z w32 (of_z w32 r) ≡ code_of v
code_said v n r given e = code_read v r (e ∙ ap (λ (n : Result Bool ℕ). code_in (told_verdict n)) (numbered_is v n given) ∙ code_numbered v)
