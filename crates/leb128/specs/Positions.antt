-- Numbers at a position of a slice: what the readers give. Assumes nothing.
use Rattle.std.specs.Prelude.{ℕ, ◌+◌, List, Option, Some, None, ◌≡◌, drop}
use Rattle.std.proofs.Common.{refl, sym, ap}
use Rattle.std.proofs.lemmas.Option.{none-some, same_Some}
use Rattle.number.specs.Number.{Decoded, decode}
use Rattle.number.specs.Number.Decoded.{number, none}
use Rattle.leb128.specs.declared.Number.{Number}

-- The reader's answer for what stands at a position: the value and the position behind it.
unfoldable pub located : ℕ → Decoded → Option Number
located at (number v n) = Some (record { value = v; next = at + n })
located at none = None

abbrev pub read_at : ℕ → List ℕ → ℕ → Option Number
read_at k s at = located at (decode k (drop at s))

-- Some number of at most k bytes stands at a position.
abbrev pub Stands : ℕ → List ℕ → ℕ → Type 0
Stands k s at = read_at k s at ≡ None → ⊥

-- What an answer says of what was read.
pub located_value :
    (at : ℕ) (d : Decoded) (k : Number) →
    located at d ≡ Some k →
    (n : ℕ) × (d ≡ number k.value n) × (k.next ≡ at + n)
unfolding located
located_value at (number w m) k e = let r = same_Some _ k e in (m, ap (λ (k : Number). number k.value m) r, sym (ap (λ (k : Number). k.next) r))
located_value at none k e = absurd (none-some k e)

pub located_refused : (at : ℕ) (d : Decoded) → located at d ≡ None → d ≡ none
unfolding located
located_refused at (number w m) e = absurd (none-some _ (sym e))
located_refused at none e = refl
