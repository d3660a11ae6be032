-- What `all` over the numbers below a bound answers, where its closure is a test. Assumes nothing.
use Rattle.std.specs.Prelude.{ℕ, zero, suc, ◌+◌, ◌≡◌, Bool, true, false, ◌&&◌, List, Option}
use Rattle.std.specs.Option.{MatchOption}
use Rattle.std.specs.Fn.{Called}
use Rattle.std.specs.Iterator.{YieldsThen}
use Rattle.std.specs.List.{FoldsTo, list_all, range_with_len}
use Rattle.std.specs.declared.ops.Range.{Range}
use Rattle.std.proofs.iter.Yields.{nat_range_steps}
use Rattle.std.proofs.Common.{refl, ◌∙◌, ap, arith, add-one, add-zero, zero-add}
use Rattle.std.proofs.Math.Bool.{and-true, and_assoc}
use Rattle.std.proofs.lemmas.Iterator.{YieldsList-from_range}
use Rattle.std.proofs.lemmas.Iterator.Search.{all_from_yields_List}
use denote.Param.Members.{Mut}
use Rattle.loops.specs.Below.{all_below}

-- What was tested below a, and what is tested from a on.
tested : (p : ℕ → Bool) (n a : ℕ) → (all_below a p && list_all p (range_with_len a n)) ≡ all_below (a + n) p
unfolding all_below
tested p zero a = rw (and-true, add-zero)
tested p (suc n) a =
    let next : a + suc n ≡ a + 1 + n = omega arith in
    let one : (all_below a p && p a) ≡ all_below (a + 1) p = rw add-one in
    rw (next, ← and_assoc, one) (tested p n (a + 1))

-- The closure stays what it was, and answers what p does.
pub all_over_range :
    {F : Type 0} {g : Mut F (ℕ × Unit {0}) Bool} {u : Range ℕ} {f : F} {r : Bool} {n : ℕ} {p : ℕ → Bool} →
    (xs : List ℕ) × (o : Option ℕ) × (j : F) × YieldsThen nat_range_steps (record { start = 0; end = n }) xs o u
    × FoldsTo (λ h x q. Called g h (x, tt) true q) f xs j
    × MatchOption o (r ≡ true) (λ x. (r ≡ false) × ((h : F) × Called g j (x, tt) false h)) →
    ((x : ℕ) (b : Bool) (q : F) → Called g f (x, tt) b q → q ≡ f) →
    ((x : ℕ) (b : Bool) (q : F) → Called g f (x, tt) b q → b ≡ p x) →
    r ≡ all_below n p
unfolding all_below
all_over_range {u = u} {f = f} {r = r} {n = n} {p = p} ran stays tells =
    all_from_yields_List p u f r ran (YieldsList-from_range 0 n n refl (omega arith)) (λ x b q k. (stays x b q k, tells x b q k))
    ∙ tested p n 0
    ∙ ap (λ m. all_below m p) (zero-add n)
