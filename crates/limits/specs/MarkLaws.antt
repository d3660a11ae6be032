-- Whatever the number, just one mark says that a link is spare. Assumes nothing.
use Rattle.std.specs.Prelude.{ℕ, zero, suc, ◌≡◌, refl, eqb}
use Rattle.std.proofs.Common.{arith, ne_eqb, le-ltb}
use Rattle.limits.specs.Limits.{spare_mark, unplugged_mark, marks_spare}

pub spare_zero : (m : ℕ) → eqb m spare_mark ≡ marks_spare m
spare_zero zero = refl
spare_zero (suc zero) = refl
spare_zero (suc (suc m)) = rw (le-ltb (suc (suc m)) unplugged_mark (omega arith), ne_eqb (suc (suc m)) spare_mark (λ e. omega arith)) refl
