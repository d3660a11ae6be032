-- Laws of the answer held in arrays: the numbers of its pairs, and its frame by its parts. Assumes nothing.
use Rattle.std.specs.Prelude.{ℕ, zero, suc, ◌+◌, ◌*◌, ◌-◌, ◌≤◌, ◌≡◌, refl, length, get_or}
use Rattle.std.proofs.Common.{arith, sym, ap, ◌∙◌, length-append}
use mathlib.Core.List.{List, [], ◌∷◌, ◌++◌, flat_map, append_assoc}
use Rattle.loops.specs.Loop.{gather}
use Rattle.loops.specs.GatherLaws.{length_tabulate}
use Rattle.number.specs.Number.{encode}
use Rattle.number.proofs.Laws.{encode_size_last, encode_size_most}
use Rattle.optimum.specs.Optimum.{both}
use Rattle.limits.specs.Limits.{number_bytes, step_bytes}
use Rattle.frame.specs.Job.{bytes_of}
use Rattle.frame.specs.AnswerMeaning.{answer_frame}
use Rattle.frame.specs.Answers.{pair_from}
use Rattle.frame.proofs.RoundTrip.{flat_map_append}
use Rattle.codec.specs.Numbers.{numbers_at}
use Rattle.codec.specs.ListLaws.{size_short}
use Rattle.codec.specs.Held.{pairs_at, answer_front, answer_at}

-- The numbers of the first n pairs are the first 2 n numbers.
pub pair_numbers_lem : (ps : List ℕ) (n : ℕ) → flat_map both (pairs_at n ps) ≡ numbers_at (2 * n) ps
unfolding gather flat_map
pair_numbers_lem ps zero = refl
pair_numbers_lem ps (suc n) =
    let two : 2 * suc n ≡ suc (suc (2 * n)) = omega arith in
    let one : 2 * n + 1 ≡ suc (2 * n) = omega arith in
    rw (two, flat_map_append both (pairs_at n ps) (pair_from ps n ∷ []), pair_numbers_lem ps n, one)
    (sym (append_assoc (numbers_at (2 * n) ps) (get_or ps (2 * n) 0 ∷ []) (get_or ps (suc (2 * n)) 0 ∷ [])))

-- The frame of the answer: the steps, the costs, the count of pairs, the pairs.
module _ (steps edges : ℕ) (cs : List ℕ) (count : ℕ) where
  pub front_length :
      length (encode step_bytes steps) + length (bytes_of (numbers_at edges cs)) + length (encode number_bytes count)
      ≡ length (answer_front steps edges cs count)
  front_length = simp length-append

  -- Steps take at most four bytes, a cost at most three, a count of at most 64 pairs one.
  pub front_short : count ≤ 64 → length (answer_front steps edges cs count) ≤ 5 + 3 * edges
  front_short l = omega (arith, front_length, encode_size_most step_bytes steps, size_short cs edges, one)
    where
      one : length (encode number_bytes count) ≤ 1
      one = omega (arith, encode_size_last (number_bytes - 1) count (omega arith))

  module _ (ps : List ℕ) where
    pub answer_bytes : answer_front steps edges cs count ++ bytes_of (numbers_at (2 * count) ps) ≡ answer_frame (answer_at steps edges cs count ps)
    unfolding flat_map
    answer_bytes =
        let joined = flat_map_append (encode number_bytes) (numbers_at edges cs) (count ∷ numbers_at (2 * count) ps) in
        rw (length_tabulate (pair_from ps) count, pair_numbers_lem ps count, joined)
        (simp append_assoc)

    pub answer_length :
        length (answer_front steps edges cs count) + length (bytes_of (numbers_at (2 * count) ps)) ≡ length (answer_frame (answer_at steps edges cs count ps))
    answer_length = sym (length-append (answer_front steps edges cs count) (bytes_of (numbers_at (2 * count) ps))) ∙ ap length answer_bytes
