-- Laws of writing: runs of stores join, and what a service writes by the tests of the code. Assumes nothing.
use Rattle.std.specs.Prelude.{ℕ, zero, suc, ◌+◌, ◌<◌, ◌≤◌, ◌≡◌, refl, List, [], ◌∷◌, ◌++◌, Result, Ok, Err, length, set}
use Rattle.std.proofs.Common.{arith, sym, ap, ap₂, subst, ◌∙◌, length-append, le-leb}
use Rattle.std.proofs.lemmas.List.Edits.{sets}
use Rattle.std.proofs.Math.Seq.{length-sets}
use Rattle.std.proofs.lemmas.Bool.{lt-leb}
use Rattle.frame.specs.Services.{Outcome, written}
use Rattle.limits.specs.declared.Refusal.{Refusal}
use Rattle.codec.specs.Numbers.{Put, outcome, Told}

-- A run of stores behind another is one run.
pub sets_append : (l : List ℕ) (i : ℕ) (vs ws : List ℕ) → sets (sets l i vs) (i + length vs) ws ≡ sets l i (vs ++ ws)
sets_append l i [] ws = let here : i + 0 ≡ i = omega arith in rw here
sets_append l i (v ∷ vs) ws =
    let behind : i + suc (length vs) ≡ suc i + length vs = omega arith in
    rw behind (sets_append (set l i v) (suc i) vs ws)

pub put_more :
    (area : List ℕ) (at : ℕ) (vs ws : List ℕ) (next next' : ℕ) (after after' : List ℕ) →
    Put area at vs next after →
    next' ≡ next + length ws →
    after' ≡ sets after next ws →
    Put area at (vs ++ ws) next' after'
put_more area at vs ws next next' after after' p e q =
    record {
      next = omega (arith, p.next, length-append vs ws);
      area = q ∙ ap₂ (λ (l : List ℕ) (i : ℕ). sets l i ws) p.area p.next ∙ sets_append area at vs ws;
    }

-- There is room for the next one.
pub put_room :
    (area : List ℕ) (at : ℕ) (vs : List ℕ) (next n : ℕ) (after : List ℕ) →
    Put area at vs next after →
    at + (length vs + n) ≤ length area →
    next + n ≤ length after
put_room area at vs next n after p h = omega (arith, p.next, ap length p.area, length-sets area at vs)

-- What is written, by the tests of the code.
pub put_refused : (r : ℕ) (bytes : List ℕ) (at : ℕ) (area : List ℕ) → (r ≡ 0 → ⊥) → record { refusal = r; size = 0; area = area } ≡ written r bytes at area
put_refused zero bytes at area n = absurd (n refl)
put_refused (suc r) bytes at area n = refl

pub put_short :
    (r : ℕ) (bytes : List ℕ) (at : ℕ) (area : List ℕ) →
    r ≡ 0 →
    length area < at + length bytes →
    record { refusal = 7; size = 0; area = area } ≡ written r bytes at area
put_short r bytes at area z l = rw (z, lt-leb (at + length bytes) (length area) l)

pub put_whole :
    (r : ℕ) (bytes : List ℕ) (at : ℕ) (area after : List ℕ) (n : ℕ) →
    r ≡ 0 →
    at + length bytes ≤ length area →
    n ≡ length bytes →
    after ≡ sets area at bytes →
    record { refusal = 0; size = n; area = after } ≡ written r bytes at area
put_whole r bytes at area after n z l e q = rw (z, le-leb (at + length bytes) (length area) l) (λ i. record { refusal = 0; size = e i; area = q i })

-- To a caller whose errors are the refusals themselves a reply is told as it is.
pub told_as_is : (r : Result ℕ Refusal) (Said : Result ℕ Refusal → Type 0) → Told (λ q e. e ≡ q) r Said → Said r
told_as_is (Ok n) Said said = said
told_as_is (Err e) Said (q, is, said) = subst (λ q. Said (Err q)) (sym is) said

pub told_outcome :
    (r : Result ℕ Refusal) (area : List ℕ) (o : Outcome) → Told (λ q e. e ≡ q) r (λ r. outcome r area ≡ o) → outcome r area ≡ o
told_outcome r area o = told_as_is r (λ r. outcome r area ≡ o)
