-- What a service that writes leaves: on a refusal length 0 and the area as it was, on success the bytes at their place and all else
-- as it was; which of the two, by the refusals before it and question 7. Assumes nothing.
use Rattle.std.specs.Prelude.{ℕ, zero, suc, ◌+◌, ◌<◌, ◌≤◌, ◌≡◌, refl, ◌≢◌, ◌⊎◌, List, ◌++◌, length, take, drop}
use Rattle.std.proofs.Common.{arith, sym, ap, subst, ◌∙◌, inl, inr, ⊎_elim, le-leb}
use Rattle.std.proofs.Math.Decide.{dec_le}
use Rattle.std.proofs.lemmas.List.Edits.{sets-eq}
use Rattle.std.proofs.Math.Seq.{take-append_seam, drop-append_seam}
use Rattle.std.proofs.lemmas.Bool.{lt-leb}
use Rattle.frame.specs.Services.{Outcome, written, Served}

module _ (bytes : List ℕ) (at : ℕ) (area : List ℕ) where
  -- A refusal by an earlier question.
  pub written_refused : (r : ℕ) → r ≢ 0 → written r bytes at area ≡ record { refusal = r; size = 0; area = area }
  written_refused zero h = absurd (h refl)
  written_refused (suc r) h = refl

  -- Question 7.
  pub written_short : length area < at + length bytes → written 0 bytes at area ≡ record { refusal = 7; size = 0; area = area }
  written_short l = rw (lt-leb (at + length bytes) (length area) l)

  -- Success.
  pub written_done :
      at + length bytes ≤ length area →
      written 0 bytes at area ≡ record { refusal = 0; size = length bytes; area = take at area ++ bytes ++ drop (at + length bytes) area }
  written_done l = rw (le-leb (at + length bytes) (length area) l, sets-eq bytes area at l)

  -- Whatever the refusal, no byte is changed and the length is 0.
  pub refused_untouched : (r : ℕ) → (written r bytes at area).refusal ≢ 0 → ((written r bytes at area).size ≡ 0) × ((written r bytes at area).area ≡ area)
  refused_untouched (suc r) h = (refl, refl)
  refused_untouched zero h = elim (dec_le (at + length bytes) (length area)) [
    | yes l ↦ absurd (h (ap (λ (o : Outcome). o.refusal) (written_done l)))
    | no l ↦
        let short : written 0 bytes at area ≡ record { refusal = 7; size = 0; area = area } = written_short (omega arith) in
        (ap (λ (o : Outcome). o.size) short, ap (λ (o : Outcome). o.area) short)
  ]

  -- Without a refusal the bytes are written.
  pub accepted_written :
      (r : ℕ) →
      (written r bytes at area).refusal ≡ 0 →
      written r bytes at area ≡ record { refusal = 0; size = length bytes; area = take at area ++ bytes ++ drop (at + length bytes) area }
  accepted_written (suc r) h = absurd (omega arith)
  accepted_written zero h = elim (dec_le (at + length bytes) (length area)) [
    | yes l ↦ written_done l
    | no l ↦ absurd (omega (arith, h, ap (λ (o : Outcome). o.refusal) (written_short (omega arith))))
  ]

-- A service whose outcome is `written` keeps what `Served` promises.
module _ (earlier : ℕ) (bytes area : List ℕ) where
  number_of :
      (n : ℕ) → ((written n bytes 0 area).refusal ≡ n) ⊎ ((n ≡ 0) × ((written n bytes 0 area).refusal ≡ 7) × (length area < length bytes))
  number_of zero =
      elim (dec_le (length bytes) (length area)) [
        | yes l ↦ inl (ap (λ (o : Outcome). o.refusal) (written_done bytes 0 area (omega arith)))
        | no l ↦ inr (refl, ap (λ (o : Outcome). o.refusal) (written_short bytes 0 area (omega arith)), omega arith)
      ]
  number_of (suc n) = inl refl

  whole : Served earlier bytes area (written earlier bytes 0 area)
  whole =
      record {
        said = refl;
        number = number_of earlier;
        refused = refused_untouched bytes 0 area earlier;
        front = λ z. ap (λ (o : Outcome). take o.size o.area) (done z) ∙ take-append_seam bytes (drop (0 + length bytes) area);
        rest = λ z.
            ap (λ (o : Outcome). drop o.size o.area) (done z) ∙ drop-append_seam bytes (drop (0 + length bytes) area) ∙
            ap (λ (n : ℕ). drop n area) first ∙ sym (ap (λ (o : Outcome). drop o.size area) (done z));
      }
    where
      first : 0 + length bytes ≡ length bytes
      first = omega arith

      done :
          (written earlier bytes 0 area).refusal ≡ 0 →
          written earlier bytes 0 area ≡ record { refusal = 0; size = length bytes; area = bytes ++ drop (0 + length bytes) area }
      done z = accepted_written bytes 0 area earlier z

  pub served_of : (o : Outcome) → o ≡ written earlier bytes 0 area → Served earlier bytes area o
  served_of o e = subst (Served earlier bytes area) (sym e) whole

-- Where there was no refusal there was none earlier.
pub served_none : {earlier : ℕ} {bytes area : List ℕ} {o : Outcome} → Served earlier bytes area o → o.refusal ≡ 0 → earlier ≡ 0
served_none k z = ⊎_elim (λ q. sym q ∙ z) (λ q. q.0) k.number
