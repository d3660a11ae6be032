-- A set that differs from another at one number, said point by point as contracts do, is the other with `put`.
-- Assumes nothing.
use Rattle.std.specs.Prelude.{ℕ, ◌≡◌, refl, Bool, true, false, cond, not, ◌&&◌, ◌||◌, eqb}
use Rattle.std.proofs.Math.Decide.{ℕ_discrete}
use Rattle.std.proofs.Common.{sym, ◌∙◌, eq-eqb, ne_eqb}
use Rattle.std.proofs.Math.Path.{fun_ext}
use Rattle.std.proofs.Math.Bool.{xor, and-false, and-true}
use Rattle.loops.specs.Loop.{put}

pub or_test : (b t : Bool) → (b || t) ≡ cond t true b
or_test true true = refl
or_test true false = refl
or_test false true = refl
or_test false false = refl

xor_true : (b : Bool) → xor b true ≡ not b
unfolding xor
xor_true true = refl
xor_true false = refl

xor_false : (b : Bool) → xor b false ≡ b
unfolding xor
xor_false true = refl
xor_false false = refl

module _ (S T : ℕ → Bool) (i : ℕ) where
  pub added : ((j : ℕ) → T j ≡ (S j || eqb i j)) → T ≡ put S i true
  added h = fun_ext (λ j. h j ∙ or_test (S j) (eqb i j))

  pub flipped : ((j : ℕ) → T j ≡ xor (S j) (eqb i j)) → T ≡ put S i (not (S i))
  flipped h =
      fun_ext (λ j. h j ∙ elim (ℕ_discrete i j) [
        | yes e ↦ rw (e, eq-eqb j j refl) (xor_true (S j))
        | no d ↦ rw (ne_eqb i j d) (xor_false (S j))
      ])

  pub removed : ((j : ℕ) → T j ≡ (S j && not (eqb j i))) → T ≡ put S i false
  removed h =
      fun_ext (λ j. h j ∙ elim (ℕ_discrete i j) [
        | yes e ↦ rw (e, eq-eqb j j refl) (and-false (S j))
        | no d ↦ rw (ne_eqb i j d, ne_eqb j i (λ e. d (sym e))) (and-true (S j))
      ])
