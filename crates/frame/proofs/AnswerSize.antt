-- How long an answer frame is at most. Assumes nothing.
use Rattle.std.specs.Prelude.{ℕ, suc, ◌+◌, ◌*◌, ◌-◌, ◌<◌, ◌≤◌, length, get_or}
use Rattle.std.proofs.Common.{mul-suc, arith, ap, length-append}
use mathlib.Core.List.{List, [], ◌∷◌, ◌++◌, flat_map}
use Rattle.number.specs.Number.{encode}
use Rattle.number.proofs.Laws.{encode_size_last, encode_size_most, encode_size_below}
use Rattle.optimum.specs.Optimum.{both, Answer}
use Rattle.frame.specs.Job.{bytes_of}
use Rattle.limits.specs.Limits.{max_edges, number_bytes, step_bytes}
use Rattle.frame.proofs.RoundTrip.{flat_map_append}
use Rattle.frame.specs.AnswerMeaning.{answer_numbers, answer_frame}
use Rattle.frame.proofs.AnswerLayout.{length_both}

-- Numbers of at most n bytes each.
pub bytes_most : (n : ℕ) (ns : List ℕ) → ((i : ℕ) → length (encode number_bytes (get_or ns i 0)) ≤ n) → length (bytes_of ns) ≤ n * length ns
unfolding flat_map
bytes_most n [] h = omega arith
bytes_most n (x ∷ ns) h =
    omega (arith, length-append (encode number_bytes x) (bytes_of ns), h 0, bytes_most n ns (λ i. h (suc i)), mul-suc n (length ns))

-- The count of fewer than 128 pairs takes one byte, and a link's number at most two.
pub answer_most_lem :
    (a : Answer) →
    length a.pairs < 128 →
    ((i : ℕ) → get_or (flat_map both a.pairs) i 0 ≤ max_edges) →
    length (answer_frame a) ≤ step_bytes + number_bytes * length a.costs + 1 + 2 * (2 * length a.pairs)
unfolding flat_map
answer_most_lem a l links =
    let pairs : List ℕ = flat_map both a.pairs in
    omega (
      arith,
      length-append (encode step_bytes a.steps) (bytes_of (answer_numbers a)),
      ap length (flat_map_append (encode number_bytes) a.costs (length a.pairs ∷ pairs)),
      length-append (bytes_of a.costs) (encode number_bytes (length a.pairs) ++ bytes_of pairs),
      length-append (encode number_bytes (length a.pairs)) (bytes_of pairs),
      encode_size_most step_bytes a.steps,
      bytes_most number_bytes a.costs (λ i. encode_size_most number_bytes (get_or a.costs i 0)),
      encode_size_last (number_bytes - 1) (length a.pairs) l,
      bytes_most 2 pairs (λ i. encode_size_below 2 number_bytes (get_or pairs i 0) (omega arith) (omega (arith, links i))),
      length_both a.pairs,
    )
