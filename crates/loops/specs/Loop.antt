-- What loops over the numbers below a bound compute: a state, the first hit, a list; with what stands in Below.
-- Definitions only. Assumes nothing.
use Rattle.std.specs.Prelude.{ℕ, zero, suc, Bool, cond, List, [], ◌∷◌, ◌++◌, ltb, eqb}

-- The state after `turns` turns of a loop that starts at i: body i, then body (suc i), and so on.
unfoldable pub scan : {A : Type 0} → (ℕ → A → A) → ℕ → ℕ → A → A
scan body zero i st = st
scan body (suc turns) i st = scan body turns (suc i) (body i st)

-- The function f with the value x at i.
abbrev pub put : {A : Type 0} → (ℕ → A) → ℕ → A → ℕ → A
put f i x j = cond (eqb i j) x (f j)

-- The lowest number below n of which p holds; n if there is none.
unfoldable pub first : ℕ → (ℕ → Bool) → ℕ
first zero p = zero
first (suc n) p = let r : ℕ = first n p in cond (ltb r n) r (cond (p n) n (suc n))

-- The highest number below n of which p holds; `none` if there is none.
unfoldable pub last : ℕ → (ℕ → Bool) → ℕ → ℕ
last zero p none = none
last (suc n) p none = cond (p n) n (last n p none)

-- f 0, f 1, .. below n, joined.
unfoldable pub gather : {A : Type 0} → ℕ → (ℕ → List A) → List A
gather zero f = []
gather (suc n) f = gather n f ++ f n

-- The list f 0, f 1, .. below n.
abbrev pub tabulate : {A : Type 0} → ℕ → (ℕ → A) → List A
tabulate n f = gather n (λ i. f i ∷ [])
