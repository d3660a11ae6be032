-- A rank has a mate or none. Assumes nothing.
use Rattle.std.specs.Prelude.{ℕ, zero, suc, ◌<◌, ◌≡◌, refl, ◌⊎◌, eqb}
use Rattle.std.proofs.Common.{inl, inr, eqb-true}
use Rattle.std.proofs.lemmas.Bool.{eqb-false}
use Rattle.loops.specs.FirstLaws.{member_or_none}
use Rattle.optimum.specs.Search.{Problem, Mates}
use Rattle.optimum.specs.Slackness.{Unmatched}

-- A non-tree rank has a mate or none.
pub data Mate (mates : Mates) (s : ℕ) : Type 0 where
  free : mates s ≡ 0 → Mate mates s
  pair : (t : ℕ) → mates s ≡ suc t → Mate mates s

pub mate : (mates : Mates) (s : ℕ) → Mate mates s
mate mates s = of (mates s) refl
  where
    of : (m : ℕ) → mates s ≡ m → Mate mates s
    of zero q = free q
    of (suc t) q = pair t q

-- So does a tree rank.
abbrev pub Matched : Problem → Mates → ℕ → Type 0
Matched p mates t = (s : ℕ) × (s < p.spares) × (mates s ≡ suc t)

pub matched_view : (p : Problem) (mates : Mates) (t : ℕ) → Matched p mates t ⊎ Unmatched p mates t
matched_view p mates t = elim (member_or_none p.spares (λ s. eqb (mates s) (suc t))) [
  | inl (s, l, h) ↦ inl (s, l, eqb-true (mates s) (suc t) h)
  | inr none ↦ inr (λ s l. eqb-false (mates s) (suc t) (none s l))
]
