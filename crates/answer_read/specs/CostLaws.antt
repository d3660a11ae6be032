-- Between the numbers before a link's new cost and those behind it stands that cost. Assumes nothing.
use Rattle.std.specs.Prelude.{ℕ, zero, suc, ◌+◌, ◌-◌, ◌<◌, ◌≤◌, ◌≡◌, refl, Some, None, get_or, take, drop}
use native.Mathlib.Omega.{arith}
use Rattle.std.proofs.Common.{sym, ◌∙◌, length-drop}
use Rattle.std.proofs.Math.Path.{ap, ap₂, subst}
use mathlib.Core.List.{List, [], ◌∷◌, ◌++◌, flat_map, append-nil}
use Rattle.std.proofs.Math.ListN.{length, length-append}
use Rattle.std.proofs.lemmas.List.{take-append-le}
use Rattle.std.proofs.lemmas.Option.{none-some, same_Some}
use Rattle.std.proofs.Math.Seq.{drop-append_seam}
use Rattle.number.specs.Number.{encode}
use Rattle.leb128.specs.Positions.{located, read_at}
use Rattle.leb128.specs.declared.Number.{Number}
use Rattle.number.proofs.Laws.{decode_encode}
use Rattle.optimum.specs.Optimum.{both}
use Rattle.limits.specs.Limits.{number_bytes, step_bytes}
use Rattle.frame.specs.Job.{bytes_of}
use Rattle.frame.specs.AnswerMeaning.{answer_numbers}
use Rattle.frame.specs.Services.{cost_offset, cost_length}
use Rattle.frame.specs.Meaning.{Divides}
use Rattle.codec.specs.Numbers.{skipped}
use Rattle.codec.specs.NumberLaws.{skip_numbers, parts_join, drop_divides}
use Rattle.answer_read.specs.Costs.{CostIn, cost_place_in}

one_number : (xs ys : List ℕ) (e : ℕ) → e < length xs → take 1 (drop e (xs ++ ys)) ≡ get_or xs e 0 ∷ []
one_number [] ys e l = absurd (omega arith)
one_number (x ∷ xs) ys zero l = refl
one_number (x ∷ xs) ys (suc e) l = one_number xs ys e (omega arith)

module _ (s : List ℕ) (e : ℕ) (k : CostIn s e) where
  abbrev ns : List ℕ
  ns = answer_numbers k.answer

  -- The steps are read, and the numbers stand behind them.
  abbrev steps_number : Number
  steps_number = record { value = k.answer.steps; next = length (encode step_bytes k.answer.steps) }

  steps_at : read_at step_bytes s 0 ≡ Some steps_number
  unfolding located
  steps_at =
      subst (λ t. read_at step_bytes t 0 ≡ Some steps_number) k.layout.joined
      (ap (located 0) (decode_encode step_bytes k.answer.steps (bytes_of ns) (omega arith) k.layout.step_limit) ∙
      ap (λ (n : ℕ). Some (record { value = k.answer.steps; next = n })) (omega arith))

  pub steps_found : read_at step_bytes s 0 ≡ None → ⊥
  steps_found r = none-some steps_number (sym r ∙ steps_at)

  module _ (n : Number) (r : read_at step_bytes s 0 ≡ Some n) (part : List ℕ) (behind : part ≡ drop n.next s) where
    behind_is : length (encode step_bytes k.answer.steps) ≡ n.next
    behind_is = ap (λ (n : Number). n.next) (same_Some steps_number n (sym steps_at ∙ r))

    divides : Divides part ns
    divides =
        record {
          small = k.layout.small;
          joined = sym (drop-append_seam (encode step_bytes k.answer.steps) (bytes_of ns)) ∙ ap₂ drop behind_is k.layout.joined ∙ sym behind;
        }

    enough : e + 1 ≤ length ns
    enough = omega (arith, k.inside, length-append k.answer.costs (length k.answer.pairs ∷ flat_map both k.answer.pairs))

    module _ (first end : ℕ) (p : first ≡ skipped part e 0) (q : end ≡ skipped part 1 first) where
      at_first : first ≡ length (bytes_of (take e ns))
      unfolding flat_map
      at_first =
          let whole : 0 + length (bytes_of (take e ns)) ≡ length (bytes_of (take e ns)) = omega arith in
          p ∙ skip_numbers part ns 0 e divides (omega (arith, enough)) ∙ whole

      at_end : end ≡ first + length (bytes_of (take 1 (drop e ns)))
      at_end =
          q ∙ ap (skipped part 1) at_first ∙ skip_numbers part ns e 1 divides enough ∙ ap (λ (o : ℕ). o + length (bytes_of (take 1 (drop e ns)))) (sym at_first)

      pub cost_order : first ≤ end
      cost_order = omega (arith, at_end)

      rest : bytes_of (take 1 (drop e ns)) ++ bytes_of (drop 1 (drop e ns)) ≡ drop first part
      rest = rw at_first (parts_join (drop (length (bytes_of (take e ns))) part) (drop e ns) 1 (drop_divides part ns e divides))

      pub cost_within : end ≤ length part
      cost_within =
          omega (
            arith,
            at_first,
            at_end,
            length-append (bytes_of (take e ns)) (bytes_of (drop e ns)),
            ap length (parts_join part ns e divides),
            length-append (bytes_of (take 1 (drop e ns))) (bytes_of (drop 1 (drop e ns))),
            ap length rest,
            length-drop first part,
          )

      pub cost_place_lem : record { offset = n.next + first; size = end - first } ≡ cost_place_in k.answer e
      unfolding flat_map
      cost_place_lem =
          let here : first ≡ length (bytes_of (take e k.answer.costs)) = at_first ∙
          ap (λ xs. length (bytes_of xs)) (take-append-le e k.answer.costs (length k.answer.pairs ∷ flat_map both k.answer.pairs)
          (omega (arith, k.inside))) in
          let offset : n.next + first ≡ cost_offset k.answer e = omega
          (arith, here, behind_is, length-append (encode step_bytes k.answer.steps) (bytes_of (take e k.answer.costs))) in
          let one : length (bytes_of (take 1 (drop e ns))) ≡ cost_length k.answer e = ap length
          (ap bytes_of (one_number k.answer.costs (length k.answer.pairs ∷ flat_map both k.answer.pairs) e k.inside) ∙
          append-nil (encode number_bytes (get_or k.answer.costs e 0))) in
          let size : end - first ≡ cost_length k.answer e = omega (arith, at_end, one) in
          ap₂ (λ (o n : ℕ). record { offset = o; size = n }) offset size
