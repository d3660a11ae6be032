-- The layout of a number: canonical unsigned LEB128. Definitions only. Assumes nothing.
use Rattle.std.specs.Prelude.{ℕ, zero, suc, ◌+◌, ◌*◌, ◌-◌, ◌/◌, ◌%◌, ◌<◌, cond, List, [], ◌∷◌, ltb, eqb, get_or}

-- A list of bytes.
abbrev pub Bytes : List ℕ → Type 0
Bytes s = (i : ℕ) → get_or s i 0 < 256

-- The shortest form of x in at most k bytes, for x below 128 ^ k: groups of seven bits, the lowest group first,
-- the top bit 1 in every byte but the last.
unfoldable pub encode : ℕ → ℕ → List ℕ
encode zero x = []
encode (suc k) x = cond (ltb x 128) (x ∷ []) ((x % 128 + 128) ∷ encode k (x / 128))

-- What a list of bytes begins with: a number and how many bytes it takes, or none.
pub data Decoded : Type 0 where
  number : ℕ → ℕ → Decoded
  none : Decoded

-- A group in front of a number. The number behind it must not be 0: its last byte would be a 00 after another byte,
-- and the form would not be the shortest.
unfoldable pub extend : ℕ → Decoded → Decoded
extend low (number v n) = cond (eqb v 0) none (number (low + 128 * v) (suc n))
extend low none = none

-- Reads a number in shortest form of at most k bytes: none if the bytes end within it, if it is longer than k bytes
-- or if its form is not the shortest.
unfoldable pub decode : ℕ → List ℕ → Decoded
decode zero s = none
decode (suc k) [] = none
decode (suc k) (b ∷ s) = cond (ltb b 128) (number b 1) (extend (b - 128) (decode k s))
