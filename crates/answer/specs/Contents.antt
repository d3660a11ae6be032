-- The pairs of an array of mates, and their list in an array. Definitions only. Assumes nothing.
use Rattle.std.specs.Prelude.{ℕ, ◌≡◌, List, length, get_or}
use Rattle.loops.specs.Loop.{gather}
use Rattle.optimum.specs.Optimum.{Pair}
use Rattle.optimum.specs.Solve.{pair_at}
use Rattle.codec.specs.Held.{pairs_at}

-- The pairs of an array of mates, rising by tree edge: s + 1 for the spare edge s, 0 for none.
abbrev pub mate_pairs : ℕ → List ℕ → List Pair
mate_pairs n mate = gather n (λ e. pair_at e (get_or mate e 0))

-- The pairs l stand in the first n places for pairs of an array of 64 such places.
pub record PairsListed (l : List Pair) (n : ℕ) (ps : List ℕ) : Type 0 where
  pub count : n ≡ length l
  pub pairs : pairs_at n ps ≡ l
  pub places : length ps ≡ 128
