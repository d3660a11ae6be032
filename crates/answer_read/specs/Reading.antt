-- What the functions that read an answer frame compute. Definitions only. Assumes nothing.
use Rattle.std.specs.Prelude.{ℕ, ◌*◌, ◌≤◌, ◌≡◌, List, Option, Some, None, leb, length, get_or}
use Rattle.std.proofs.Math.Option as maybe
use Rattle.loops.specs.Below.{choose}
use Rattle.optimum.specs.Optimum.{Answer}
use Rattle.codec.specs.Held.{answer_at}
use Rattle.answer_read.specs.declared.Contents.{Contents}

-- What is read: the answer that the arrays hold, or none.
unfoldable pub contents : ℕ → Option Contents → List ℕ → List ℕ → maybe.Option Answer
contents edges (Some k) cs ps = maybe.some (answer_at k.steps edges cs k.count ps)
contents edges None cs ps = maybe.none

-- An answer, if it has at most 64 pairs.
unfoldable pub few : maybe.Option Answer → maybe.Option Answer
few maybe.none = maybe.none
few (maybe.some a) = choose (leb (length a.pairs) 64) (λ _. maybe.some a) (λ _. maybe.none)

-- Arrays of 256 places for costs and of 64 places for pairs.
pub record AnswerPlaces (cs ps : List ℕ) : Type 0 where
  pub costs : length cs ≡ 256
  pub pairs : length ps ≡ 128

-- The arrays after an answer of so many costs and pairs was read: the places behind them are as they were.
pub record Behind (edges count : ℕ) (cs cs' ps ps' : List ℕ) : Type 0 where
  pub places : AnswerPlaces cs' ps'
  pub costs : (e : ℕ) → edges ≤ e → get_or cs' e 0 ≡ get_or cs e 0
  pub pairs : (i : ℕ) → 2 * count ≤ i → get_or ps' i 0 ≡ get_or ps i 0
