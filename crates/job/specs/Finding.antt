-- What the link finder computes, and that it finds a link's numbers. Assumes nothing.
use Rattle.std.specs.Prelude.{ℕ, zero, suc, ◌+◌, ◌-◌, ◌*◌, ◌<◌, ◌≤◌, ◌≡◌, length, take, drop, Result, Ok, Err, OnOk, OnErr}
use native.Mathlib.Omega.{arith}
use Rattle.std.proofs.Common.{sym, ap, ap₂, ◌∙◌, length-append, length-drop, ne_eqb, lt-ltb, le-ltb}
use mathlib.Core.List.{List, flat_map}
use Rattle.std.proofs.Math.Option.{some}
use Rattle.number.specs.Number.{Bytes, Decoded, decode}
use Rattle.frame.specs.Job.{bytes_of}
use Rattle.frame.specs.Questions.{numbers}
use Rattle.frame.specs.Meaning.{edge_count, Divides}
use Rattle.frame.specs.Services.{Place, nowhere, link_offset, link_length}
use Rattle.frame.specs.Replies.{link_place}
use Rattle.frame.proofs.Division.{division}
use Rattle.frame.proofs.RoundTrip.{job_of_lem, length_links}
use Rattle.frame.proofs.Accepted.{laid}
use Rattle.job.specs.declared.Header.{Header}
use Rattle.limits.specs.Limits.{number_bytes}
use Rattle.loops.specs.Loop.{scan}
use Rattle.codec.specs.Numbers.{skipped, step, taken}
use Rattle.limits.specs.declared.Refusal.{Refusal}
use Rattle.limits.specs.Refusals.{number_of, refusal_in}
use Rattle.limits.specs.ResultLaws.{refusal_nonzero}
use Rattle.job.specs.Reading.{Laid}
use Rattle.codec.specs.NumberLaws.{parts_join, drop_divides, skip_numbers}

-- The finder, by the tests of the code.
pub find_refused : (n : ℕ) (s : List ℕ) (e : ℕ) → (n ≡ 0 → ⊥) → link_place n s e ≡ nowhere
find_refused n s e nonzero = rw (ne_eqb n 0 nonzero)

-- What is found for a header or a refusal is what the number told asks for.
pub find_told :
    (r : Result Header Refusal) (s : List ℕ) (e : ℕ) (place : Place) →
    OnErr r (place ≡ nowhere) →
    OnOk r (place ≡ link_place 0 s e) →
    place ≡ link_place (refusal_in r) s e
find_told (Ok h) s e place refused found = found
find_told (Err q) s e place refused found = refused ∙ sym (find_refused (number_of q) s e (refusal_nonzero q))

-- An accepted header's count is the frame's.
pub record Found (s : List ℕ) (h : Header) : Type 0 where
  pub ns : List ℕ
  pub divides : Divides s ns
  pub divided : numbers s ≡ some ns
  pub edges : h.edges ≡ edge_count ns
  pub size : length ns ≡ 4 * h.edges + 2

pub found : (s : List ℕ) → Bytes s → (h : Header) → Laid s h → Found s h
found s b h l =
    let (ns, divides, counted, complete) = laid s b l.passed in
    let four : length (drop 2 ns) ≡ 4 * edge_count ns = omega (arith, length-drop 2 ns, complete, counted.two) in
    let count : h.edges ≡ edge_count ns =
    ap (λ (h : Header). h.edges) l.counts ∙ ap (λ j. length j.links) (job_of_lem s ns b divides) ∙ length_links (edge_count ns) (drop 2 ns) four in
    record { ns = ns; divides = divides; divided = (division s ns b).1 divides; edges = count; size = omega (arith, complete, count) }

taken_on : (at : ℕ) (d : Decoded) → at ≤ (taken at d).next
unfolding taken
taken_on at (Decoded.number v n) = omega arith
taken_on at Decoded.none = omega arith

-- Skipping numbers leads on, whatever the bytes are.
pub skip_on : (s : List ℕ) (n i at : ℕ) → at ≤ scan (step s) n i at
unfolding scan
skip_on s zero i at = omega arith
skip_on s (suc n) i at = omega (arith, taken_on at (decode number_bytes (drop at s)), skip_on s n (suc i) (step s i at))

module _ (s : List ℕ) (h : Header) (f : Found s h) where
  pub find_none : (e : ℕ) → h.edges ≤ e → link_place 0 s e ≡ nowhere
  find_none e l = rw (f.divided, le-ltb e (edge_count f.ns) (omega (arith, f.edges)))

  -- The two ends of the part.
  module _ (e first end : ℕ) (l : e < h.edges) (p : first ≡ skipped s (4 * e + 2) 0) (q : end ≡ skipped s 4 first) where
    at_first : first ≡ link_offset f.ns e
    unfolding flat_map
    at_first =
        let whole : 0 + link_offset f.ns e ≡ link_offset f.ns e = omega arith in
        p ∙ skip_numbers s f.ns 0 (4 * e + 2) f.divides (omega (arith, f.size)) ∙ whole

    at_end : end ≡ first + link_length f.ns e
    at_end =
        q ∙ ap (skipped s 4) at_first ∙ skip_numbers s f.ns (4 * e + 2) 4 f.divides (omega (arith, f.size)) ∙
        ap (λ (o : ℕ). o + link_length f.ns e) (sym at_first)

    pub ends_order : first ≤ end
    ends_order = omega (arith, at_end)

    ends_within : end ≤ length s
    ends_within =
        let i : ℕ = 4 * e + 2 in
        omega (
          arith,
          at_first,
          at_end,
          length-append (bytes_of (take i f.ns)) (bytes_of (drop i f.ns)),
          ap length (parts_join s f.ns i f.divides),
          length-append (bytes_of (take 4 (drop i f.ns))) (bytes_of (drop 4 (drop i f.ns))),
          ap length (parts_join (drop (length (bytes_of (take i f.ns))) s) (drop i f.ns) 4 (drop_divides s f.ns i f.divides)),
          length-drop (length (bytes_of (take i f.ns))) s,
        )

    pub part_within : first + (end - first) ≤ length s
    part_within = omega (arith, ends_order, ends_within)

    pub find_place : record { offset = first; size = end - first } ≡ link_place 0 s e
    find_place =
        let size : end - first ≡ link_length f.ns e = omega (arith, at_end) in
        rw (f.divided, lt-ltb e (edge_count f.ns) (omega (arith, f.edges)))
        (ap₂ (λ (o n : ℕ). record { offset = o; size = n }) at_first size)
