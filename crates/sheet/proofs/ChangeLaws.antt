-- Laws of changes: a change and its code give each other; a cost and its change give the new one; what a sheet says of a link.
-- Assumes nothing.
use Rattle.std.specs.Prelude.{ℕ, ◌+◌, ◌*◌, ◌/◌, ◌%◌, ◌≤◌, ◌≡◌, refl, ◌≢◌, ℤ, pos, negsuc, nat_abs, ◌+ℤ◌, ◌-ℤ◌}
use Rattle.std.proofs.Math.Decide.{ℕ_discrete, dec_le}
use Rattle.std.proofs.Common.{arith, sym, ap, ◌∙◌, inl, inr, eq-eqb, ne_eqb, le-leb}
use mathlib.Core.List.Memᴰ
use mathlib.Core.List.{List, [], ◌∷◌, Memᴰ}
use Rattle.std.proofs.Math.Option.{some}
use Rattle.std.proofs.Math.IntN.{+ℤ_comm, +ℤ_invr, +ℤ-neg_ℤ_cancel, -ℤ-+ℤ_cancel}
use Rattle.std.proofs.lemmas.Bool.{lt-leb}
use Rattle.limits.specs.Limits.{max_number}
use Rattle.optimum.specs.Distance.{distance_is}
use Rattle.sheet.specs.Sheet.{Move, coded, RisingMoves, change_of}
use Rattle.sheet.specs.Reading.{change_from, cost_from}

-- ---- codes

pub change_back : (k : ℤ) → change_from (coded k) ≡ k
unfolding change_from
change_back (pos k) =
    let even : 2 * k % 2 ≡ 0 = omega arith in
    let half : 2 * k / 2 ≡ k = omega arith in
    rw (even, half)
change_back (negsuc k) =
    let odd : (2 * k + 1) % 2 ≡ 1 = omega arith in
    let half : (2 * k + 1) / 2 ≡ k = omega arith in
    rw (odd, half)

pub code_back : (z : ℕ) → coded (change_from z) ≡ z
unfolding change_from
code_back z =
    elim (ℕ_discrete (z % 2) 0) [
      | yes e ↦ rw (eq-eqb (z % 2) 0 e) (omega arith)
      | no n ↦ rw (ne_eqb (z % 2) 0 n) (omega arith)
    ]

-- Two changes never have the same code, and only 0 has the code 0.
pub coded_injective : (x y : ℤ) → coded x ≡ coded y → x ≡ y
coded_injective x y e = sym (change_back x) ∙ ap change_from e ∙ change_back y

pub coded_zero : (k : ℤ) → coded k ≡ 0 → k ≡ pos 0
unfolding change_from
coded_zero k e = sym (change_back k) ∙ ap change_from e

-- ---- costs

pub cost_found : (z : ℤ) (v : ℕ) → cost_from z ≡ some v → (z ≡ pos v) × (v ≤ max_number)
unfolding cost_from
cost_found (negsuc u) v e = let z : ◌≡◌ {A = ℕ} 0 1 = cc in absurd (omega arith)
cost_found (pos u) v e =
    elim (dec_le u max_number) [
      | yes l ↦ let same : u ≡ v = cc (le-leb u max_number l) in (ap pos same, omega arith)
      | no l ↦ let z : ◌≡◌ {A = ℕ} 0 1 = cc (lt-leb u max_number (omega arith)) in absurd (omega arith)
    ]

pub found_cost : (v : ℕ) → v ≤ max_number → cost_from (pos v) ≡ some v
unfolding cost_from
found_cost v l = rw (le-leb v max_number l)

pub pos_same : {a b : ℕ} → pos a ≡ pos b → a ≡ b
pos_same e = ap nat_abs e

-- A change is the difference of the costs, and the difference leads from one to the other.
pub change_is : (a b k : ℤ) → a ≡ b +ℤ k → k ≡ a -ℤ b
change_is a b k e = sym (ap (λ (x : ℤ). x -ℤ b) (e ∙ +ℤ_comm b k) ∙ +ℤ-neg_ℤ_cancel k b)

pub change_leads : (a b : ℤ) → a ≡ b +ℤ (a -ℤ b)
change_leads a b = sym (+ℤ_comm b (a -ℤ b) ∙ -ℤ-+ℤ_cancel a b)

-- It is 0 where the two are equal, and there only.
pub no_change : (a b : ℕ) → (pos a -ℤ pos b) ≡ pos 0 → a ≡ b
no_change a b e = omega (arith, sym (distance_is (pos a) b) ∙ ap nat_abs e)

pub same_change : (a b : ℕ) → a ≡ b → (pos a -ℤ pos b) ≡ pos 0
same_change a b e = rw e (+ℤ_invr (pos b))

-- ---- what a sheet says of a link

pub unnamed : (ks : List Move) (e : ℕ) → ((k : Move) → Memᴰ k ks → k.edge ≢ e) → change_of ks e ≡ pos 0
unfolding change_of
unnamed [] e h = refl
unnamed (k ∷ ks) e h = rw (ne_eqb k.edge e (h k (Memᴰ.head refl))) (unnamed ks e (λ k' m. h k' (Memᴰ.tail m)))

-- On a sheet that rises a link has the change of its entry.
pub named : (ks : List Move) → RisingMoves ks → (k : Move) → Memᴰ k ks → change_of ks k.edge ≡ k.change
unfolding change_of
named [] o k m = absurd (Memᴰ.not-nil m)
named (x ∷ ks) o k m =
    elim (Memᴰ.cases_cons m) [
      | inl q ↦ rw (q, eq-eqb x.edge x.edge refl)
      | inr r ↦ rw (ne_eqb x.edge k.edge (λ q. omega (arith, q, o.0 k r))) (named ks o.1 k r)
    ]

-- A change other than 0 is that of an entry.
pub record EntryFor (ks : List Move) (e : ℕ) : Type 0 where
  pub move : Move
  pub member : Memᴰ move ks
  pub edge : move.edge ≡ e
  pub change : move.change ≡ change_of ks e

pub change_named : (ks : List Move) (e : ℕ) → change_of ks e ≢ pos 0 → EntryFor ks e
unfolding change_of
change_named [] e h = absurd (h refl)
change_named (k ∷ ks) e h =
    elim (ℕ_discrete k.edge e) [
      | yes q ↦ record { move = k; member = Memᴰ.head refl; edge = q; change = rw (eq-eqb k.edge e q) }
      | no n ↦
          let r = change_named ks e (rw (ne_eqb k.edge e n) at h) in
          record { move = r.move; member = Memᴰ.tail r.member; edge = r.edge; change = rw (ne_eqb k.edge e n) r.change }
    ]
