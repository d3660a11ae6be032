-- Laws of two pairs, in the shape of the code. Assumes nothing.
use Rattle.std.specs.Prelude.{ℕ, ◌≤◌, ◌<◌, ◌≡◌, true, false, List}
use Rattle.std.proofs.Common.{lt-ltb, le-ltb, eq-eqb, ne_eqb}
use Rattle.frame.specs.Answers.{pair_from}
use Rattle.weighing.specs.Weighing.{pair_later}

module _ (ps : List ℕ) (i k : ℕ) where
  pub later_low : (pair_from ps i).tree ≤ (pair_from ps k).tree → pair_later ps i k ≡ false
  later_low l = rw (le-ltb (pair_from ps k).tree (pair_from ps i).tree l)

  pub later_same : (pair_from ps k).tree < (pair_from ps i).tree → (pair_from ps k).spare ≡ (pair_from ps i).spare → pair_later ps i k ≡ false
  later_same l e = rw (lt-ltb (pair_from ps k).tree (pair_from ps i).tree l, eq-eqb (pair_from ps k).spare (pair_from ps i).spare e)

  pub later_holds : (pair_from ps k).tree < (pair_from ps i).tree → ((pair_from ps k).spare ≡ (pair_from ps i).spare → ⊥) → pair_later ps i k ≡ true
  later_holds l d = rw (lt-ltb (pair_from ps k).tree (pair_from ps i).tree l, ne_eqb (pair_from ps k).spare (pair_from ps i).spare d)
