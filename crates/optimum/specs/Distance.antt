-- The absolute difference of an integer and a natural number, by the sign of the integer, and what it says of the two
-- new costs of a pair. Assumes nothing.
use Rattle.std.specs.Prelude.{ℕ, zero, suc, ◌+◌, ◌-◌, ◌≤◌, ◌<◌, ◌≡◌, ℤ, pos, negsuc, nat_abs, ◌-ℤ◌, ◌≤ℤ◌}
use Rattle.std.proofs.Common.{ap, ◌∙◌, arith, lt-ltb, le-ltb}
use Rattle.std.proofs.Math.Decide.{dec_le}
use Rattle.std.proofs.Math.IntN.{+ℤ_idr}
use Rattle.graph.specs.Integers.{pos_le, le_pos}

abbrev pub distance : ℤ → ℕ → ℕ
distance (pos a) c = (a - c) + (c - a)
distance (negsuc a) c = suc (a + c)

pub distance_is : (d : ℤ) (c : ℕ) → nat_abs (d -ℤ pos c) ≡ distance d c
distance_is (pos a) zero = omega arith
distance_is (pos a) (suc c) = elim (dec_le (suc c) a) [
  | yes h ↦ rw (le-ltb a (suc c) h) (omega arith)
  | no h ↦ rw (lt-ltb a (suc c) (omega arith)) (omega arith)
]
distance_is (negsuc a) zero = ap nat_abs (+ℤ_idr (negsuc a)) ∙ omega arith
distance_is (negsuc a) (suc c) = omega arith

pub distance_zero : (d : ℤ) (c : ℕ) → distance d c ≡ 0 → d ≡ pos c
distance_zero (pos a) c h = ap pos (omega arith)
distance_zero (negsuc a) c h = absurd (omega arith)

pub zero_distance : (d : ℤ) (c : ℕ) → d ≡ pos c → distance d c ≡ 0
zero_distance d c h = rw h (omega arith)

-- New costs of a pair that are in order are together at least as far from the old ones as these are apart.
pub pair_apart : (dt ds : ℤ) (ct cs : ℕ) → dt ≤ℤ ds → ct - cs ≤ distance dt ct + distance ds cs
pair_apart (pos a) (pos b) ct cs h = omega (arith, le_pos h)
pair_apart (pos a) (negsuc b) ct cs h = absurd h.le
pair_apart (negsuc a) (pos b) ct cs h = omega arith
pair_apart (negsuc a) (negsuc b) ct cs h = omega arith

-- They are just as far exactly if they are equal and between the old ones.
pub record Between (dt ds : ℤ) (ct cs : ℕ) : Type 0 where
  pub equal : dt ≡ ds
  pub below : dt ≤ℤ pos ct
  pub above : pos cs ≤ℤ ds

pub between_apart : (dt ds : ℤ) (ct cs : ℕ) → Between dt ds ct cs → distance dt ct + distance ds cs ≡ ct - cs
between_apart dt (pos b) ct cs h =
    let low : pos b ≤ℤ pos ct = rw h.equal at h.below in
    rw h.equal (omega (arith, le_pos h.above, le_pos low))
between_apart dt (negsuc b) ct cs h = absurd h.above.le

pub apart_between :
    (dt ds : ℤ) (ct cs : ℕ) → dt ≤ℤ ds → cs < ct → distance dt ct + distance ds cs ≡ ct - cs → Between dt ds ct cs
apart_between (pos a) (pos b) ct cs h falls q =
    let le : a ≤ b = le_pos h in
    record { equal = ap pos (omega arith); below = pos_le (omega arith); above = pos_le (omega arith) }
apart_between (pos a) (negsuc b) ct cs h falls q = absurd h.le
apart_between (negsuc a) (pos b) ct cs h falls q = absurd (omega arith)
apart_between (negsuc a) (negsuc b) ct cs h falls q = absurd (omega arith)
