-- Questions 1 to 3 by the tests of the code. Assumes nothing.
use Rattle.std.specs.Prelude.{ℕ, ◌+◌, ◌*◌, ◌<◌, ◌≤◌, ◌≡◌, Some, None, Result, Ok, Err, length, take, drop}
use Rattle.std.proofs.Common.{arith, sym, ap, ◌∙◌, length-append}
use mathlib.Core.List.{List, [], ◌∷◌, flat_map}
use Rattle.std.proofs.Math.Option.{some}
use Rattle.number.specs.Number.{Bytes}
use Rattle.frame.specs.Job.{bytes_of}
use Rattle.frame.specs.Questions.{numbers}
use Rattle.frame.specs.Meaning.{node_count, edge_count, Divides, Counted}
use Rattle.frame.proofs.Division.{division}
use Rattle.frame.proofs.Form.{question2_means, question3_means, refuted}
use Rattle.leb128.specs.declared.Number.{Number}
use Rattle.job.specs.declared.Counts.{Counts}
use Rattle.limits.specs.declared.Refusal.{Refusal}
use Rattle.limits.specs.declared.Refusal.TheVariants.{Numbers, Counts as OutOfRange, Length}
use Rattle.codec.specs.Numbers.{taken_at}
use Rattle.division.specs.Counting.{count_from}
use Rattle.job.specs.Reading.{counts_of}
use Rattle.codec.specs.NumberLaws.{next_number}
use Rattle.division.specs.CountingLaws.{counted_some, counted_none}

pub counts_undivided : (s : List ℕ) → count_from 0 (numbers s) ≡ None → counts_of (numbers s) ≡ Err Numbers
unfolding counts_of
counts_undivided s e = rw (counted_none (numbers s) e)

-- The two counts stand first: a and b, read one behind the other, are they.
record Head (s ns : List ℕ) (a b : Number) : Type 0 where
  nodes : a.value ≡ node_count ns
  edges : b.value ≡ edge_count ns
  behind : b.next ≡ length (bytes_of (take 2 ns))
  within : b.next ≤ length s
  rest : Divides (drop b.next s) (drop 2 ns)

head_of : (s ns : List ℕ) (a b : Number) → Divides s ns → 2 ≤ length ns → a ≡ taken_at s 0 → b ≡ taken_at s a.next → Head s ns a b
unfolding flat_map
head_of s [] a b d l p q = absurd (omega arith)
head_of s (n ∷ []) a b d l p q = absurd (omega arith)
head_of s (n ∷ m ∷ ns) a b d l p q =
    let first = next_number s (m ∷ ns) n 0 (omega arith) d in
    let second = next_number s ns m first.next first.within first.rest in
    let at_a : a ≡ record { value = n; next = first.next } = p ∙ first.here in
    let at_b : b ≡ record { value = m; next = second.next } = q ∙ ap (λ (t : Number). taken_at s t.next) at_a ∙ second.here in
    let next : b.next ≡ second.next = ap (λ (t : Number). t.next) at_b in
    record {
      nodes = ap (λ (t : Number). t.value) at_a;
      edges = ap (λ (t : Number). t.value) at_b;
      behind = simp length-append (omega (arith, next, first.size, second.size));
      within = omega (arith, next, second.within);
      rest = rw next second.rest;
    }

same_counts :
    {n n' m m' p p' : ℕ} →
    n ≡ n' →
    m ≡ m' →
    p ≡ p' →
    ◌≡◌ {A = Result Counts Refusal} (Ok (record { nodes = n; edges = m; behind = p })) (Ok (record { nodes = n'; edges = m'; behind = p' }))
same_counts e₁ e₂ e₃ i = Ok (record { nodes = e₁ i; edges = e₂ i; behind = e₃ i })

-- What is known once the frame has divided into `count` numbers.
module _ (s : List ℕ) (count : ℕ) (e : count_from 0 (numbers s) ≡ Some count) where
  ns : List ℕ
  ns = (counted_some (numbers s) count e).0

  divided : numbers s ≡ some ns
  unfolding ns
  divided = (counted_some (numbers s) count e).1

  size : length ns ≡ count
  unfolding ns
  size = (counted_some (numbers s) count e).2

  -- Question 2 or 3 has the answer "no".
  no_counts : (Counted ns → ⊥) → counts_of (numbers s) ≡ Err OutOfRange
  unfolding counts_of
  no_counts n = rw (divided, refuted (question2_means ns) n)

  pub counts_few : count < 2 → counts_of (numbers s) ≡ Err OutOfRange
  counts_few l = no_counts λ h. omega (arith, h.two, size)

  -- The two counts, as they were read.
  module _ (h : Bytes s) (two : 2 ≤ count) (a b : Number) (p : a ≡ taken_at s 0) (q : b ≡ taken_at s a.next) where
    head : Head s ns a b
    head = head_of s ns a b ((division s ns h).0 divided) (omega (arith, size)) p q

    pub counts_empty : a.value < 1 → counts_of (numbers s) ≡ Err OutOfRange
    counts_empty l = no_counts λ k. omega (arith, k.some_node, head.nodes)

    pub counts_nodes : 64 < a.value → counts_of (numbers s) ≡ Err OutOfRange
    counts_nodes l = no_counts λ k. omega (arith, k.node_limit, head.nodes)

    pub counts_edges : 256 < b.value → counts_of (numbers s) ≡ Err OutOfRange
    counts_edges l = no_counts λ k. omega (arith, k.edge_limit, head.edges)

    module _ (low : 1 ≤ a.value) (nodes : a.value ≤ 64) (edges : b.value ≤ 256) where
      is_counted : Counted ns
      is_counted =
          record {
            two = omega (arith, size);
            some_node = omega (arith, head.nodes);
            node_limit = omega (arith, head.nodes);
            edge_limit = omega (arith, head.edges);
          }

      pub counts_wrong : (count ≡ 4 * b.value + 2 → ⊥) → counts_of (numbers s) ≡ Err Length
      unfolding counts_of
      counts_wrong n =
          rw (divided, (question2_means ns).1 is_counted, refuted (question3_means ns) (λ k. n (omega (arith, k, size, head.edges))))

      pub counts_right :
          count ≡ 4 * b.value + 2 →
          counts_of (numbers s) ≡ Ok (record { nodes = a.value; edges = b.value; behind = b.next })
      unfolding counts_of
      counts_right e =
          rw (divided, (question2_means ns).1 is_counted, (question3_means ns).1 (omega (arith, e, size, head.edges)))
          (same_counts (sym head.nodes) (sym head.edges) (sym head.behind))
