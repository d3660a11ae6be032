-- Laws of `scan`: its start, turns and end in the shape of a loop from i up to n; what every turn keeps; and, of a scan
-- that writes into a function, what it leaves and what it writes. Assumes nothing.
use Prim.Native.Nat.{ℕ, zero, suc, ◌+◌, ◌-◌, ◌<◌, ◌≤◌}
use Rattle.std.proofs.Math.Decide.{ℕ_discrete}
use Rattle.std.proofs.Math.Numerals.{add-one}
use native.Mathlib.Omega.{arith}
use Rattle.std.specs.Prelude.{◌≡◌}
use Rattle.std.proofs.Math.Path.{refl}
use Rattle.std.proofs.Common.{◌∙◌}
use Rattle.loops.specs.Loop.{scan}

module _ {A : Type 0} (body : ℕ → A → A) where
  -- The start.
  pub scan_start : (n : ℕ) (st : A) → scan body (n - 0) 0 st ≡ scan body n 0 st
  scan_start n st =
      let whole : n - 0 ≡ n = omega arith in
      rw whole

  -- A turn.
  pub scan_turn : (n i : ℕ) (st : A) → i < n → scan body (n - i) i st ≡ scan body (n - (i + 1)) (i + 1) (body i st)
  unfolding scan
  scan_turn n i st l =
      let left : n - i ≡ suc (n - (i + 1)) = omega arith in
      rw (left, add-one i)

  -- The end.
  pub scan_end : (n i : ℕ) (st : A) → n ≤ i → scan body (n - i) i st ≡ st
  unfolding scan
  scan_end n i st l =
      let left : n - i ≡ 0 = omega arith in
      rw left

  -- What every turn keeps holds at the end.
  pub scan_keeps :
      (P : A → Type 0) (turns i : ℕ) (st : A) → P st
      → ((k : ℕ) (h : A) → i ≤ k → k < i + turns → P h → P (body k h)) → P (scan body turns i st)
  unfolding scan
  scan_keeps P zero i st start keeps = start
  scan_keeps P (suc turns) i st start keeps =
      scan_keeps P turns (suc i) (body i st) (keeps i st (omega arith) (omega arith) start)
      (λ k h l u. keeps k h (omega arith) (omega arith))

module _ {A : Type 0} where
  -- What no turn writes stays.
  pub scan_leaves :
      (body : ℕ → (ℕ → A) → ℕ → A) (e turns i : ℕ) (f : ℕ → A)
      → ((k : ℕ) (h : ℕ → A) → i ≤ k → k < i + turns → body k h e ≡ h e) → scan body turns i f e ≡ f e
  unfolding scan
  scan_leaves body e zero i f kept = refl
  scan_leaves body e (suc turns) i f kept =
      scan_leaves body e turns (suc i) (body i f) (λ k h l u. kept k h (omega arith) (omega arith))
      ∙ kept i f (omega arith) (omega arith)

  -- What one turn writes and no later one changes stays.
  pub scan_writes :
      (body : ℕ → (ℕ → A) → ℕ → A) (e k : ℕ) (x : A) (turns i : ℕ) (f : ℕ → A)
      → i ≤ k → k < i + turns → ((h : ℕ → A) → body k h e ≡ x)
      → ((j : ℕ) (h : ℕ → A) → k < j → j < i + turns → body j h e ≡ h e) → scan body turns i f e ≡ x
  unfolding scan
  scan_writes body e k x zero i f low high writes kept = absurd (omega arith)
  scan_writes body e k x (suc turns) i f low high writes kept = elim (ℕ_discrete i k) [
    | yes q ↦
        scan_leaves body e turns (suc i) (body i f) (λ j h l u. kept j h (omega arith) (omega arith))
        ∙ rw q (writes f)
    | no q ↦
        scan_writes body e k x turns (suc i) (body i f) (omega arith) (omega arith) writes
        (λ j h l u. kept j h l (omega arith))
  ]

module _ {A : Type 0} where
  -- Turns that do the same where P holds, and keep P.
  pub scan_alike :
      (f h : ℕ → A → A) (P : A → Type 0) (turns i : ℕ) (st : A) → P st
      → ((k : ℕ) (s : A) → i ≤ k → k < i + turns → P s → (f k s ≡ h k s) × P (h k s))
      → scan f turns i st ≡ scan h turns i st
  unfolding scan
  scan_alike f h P zero i st start alike = refl
  scan_alike f h P (suc turns) i st start alike =
      let turn : (f i st ≡ h i st) × P (h i st) = alike i st (omega arith) (omega arith) start in
      rw turn.0 (scan_alike f h P turns (suc i) (h i st) turn.1 (λ k s l m. alike k s (omega arith) (omega arith)))

  -- Turns that do the same.
  pub scan_same :
      (f h : ℕ → A → A) (turns i : ℕ) (st : A) → ((k : ℕ) (s : A) → i ≤ k → k < i + turns → f k s ≡ h k s)
      → scan f turns i st ≡ scan h turns i st
  scan_same f h turns i st same = scan_alike f h (λ _. Unit) turns i st tt (λ k s l m _. (same k s l m, tt))
