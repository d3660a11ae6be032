-- Laws of the loop that puts the ranks of tree edges into the words of their ends. Assumes nothing.
use Rattle.std.specs.Prelude.{ℕ, ◌+◌, ◌<◌, ◌≡◌, refl, Bool, true, false, ◌&&◌, ◌||◌, List, ltb, eqb, length, get_or, set, replicate}
use Rattle.std.proofs.Math.Decide.{dec_lt, ℕ_discrete}
use Rattle.std.proofs.Common.{arith, sym, ◌∙◌, length-set, get_or-set_same, get_or-set_other, eq-eqb, ne_eqb, lt-ltb, le-ltb}
use Rattle.std.proofs.Math.Bool.{or-false, and-true, and-false}
use Rattle.std.proofs.lemmas.List.{length-replicate, get_or-replicate}
use Rattle.std.proofs.Math.ListN.{get_or-eq_default}
use Rattle.bits.specs.Bit.{bit}
use Rattle.bits.specs.BitLaws.{bit_zero}
use Rattle.adjacency.specs.Words.{end_of, RankPut, Adjacency}

-- Rank k put into the word at place u.
pub rank_put :
    (adj : List ℕ) (u k x : ℕ) → u < 64 → length adj ≡ 64 → ((j : ℕ) → bit x j ≡ (bit (get_or adj u 0) j || eqb k j))
    → RankPut k (eqb u) adj (set adj u x)
rank_put adj u k x l s h = record { places = length-set adj u x ∙ s; own = own }
  where
    own : (v j : ℕ) → bit (get_or (set adj u x) v 0) j ≡ (bit (get_or adj v 0) j || (eqb u v && eqb k j))
    own v j =
        elim (ℕ_discrete v u) [
          | yes e ↦ rw (e, get_or-set_same adj u x 0 (omega arith), eq-eqb u u refl) (h j)
          | no d ↦ rw (get_or-set_other adj u v x 0 d, ne_eqb u v (λ e. d (sym e))) (sym (or-false (bit (get_or adj v 0) j)))
        ]

-- And then into other words.
both_put : (c a b k : Bool) → ((c || (a && k)) || (b && k)) ≡ (c || ((a || b) && k))
both_put true a b k = refl
both_put false true b true = refl
both_put false true true false = refl
both_put false true false false = refl
both_put false false b k = refl

pub rank_put_both :
    (k : ℕ) (p q : ℕ → Bool) (adj adj' adj'' : List ℕ) → RankPut k p adj adj' → RankPut k q adj' adj''
    → RankPut k (λ v. p v || q v) adj adj''
rank_put_both k p q adj adj' adj'' f g =
    record {
      places = g.places;
      own = λ v j. g.own v j ∙ rw (f.own v j)
          (both_put (bit (get_or adj v 0) j) (p v) (q v) (eqb k j));
    }

-- Another number is below the next bound if it is below this one.
pub passed : (j k : ℕ) → (j ≡ k → ⊥) → ltb j (k + 1) ≡ ltb j k
passed j k d =
    elim (dec_lt j k) [
      | yes l ↦ lt-ltb j (k + 1) (omega arith) ∙ sym (lt-ltb j k l)
      | no l ↦ le-ltb j (k + 1) (omega arith) ∙ sym (le-ltb j k (omega arith))
    ]

-- Words of zeros hold no rank.
pub none_held : (n i : ℕ) → ◌≡◌ {A = ℕ} (get_or (replicate n 0) i 0) 0
none_held n i =
    elim (dec_lt i n) [
      | yes l ↦ get_or-replicate n i 0 0 l
      | no l ↦ get_or-eq_default (replicate n 0) 0 (omega (arith, length-replicate {A = ℕ} n 0))
    ]

pub adjacency_start : (ranks as₁ as₂ : List ℕ) → Adjacency 0 ranks as₁ as₂ (replicate 64 0)
adjacency_start ranks as₁ as₂ =
    record { places = refl; own = λ v k. rw (none_held 64 v, le-ltb k 0 (omega arith)) (bit_zero k) }

-- The rank of one more tree edge.
pub adjacency_turn :
    (ranks as₁ as₂ : List ℕ) (k : ℕ) (adj adj' : List ℕ) → Adjacency k ranks as₁ as₂ adj
    → RankPut k (end_of as₁ as₂ (get_or ranks k 0)) adj adj' → Adjacency (k + 1) ranks as₁ as₂ adj'
adjacency_turn ranks as₁ as₂ k adj adj' h f =
    record {
      places = f.places;
      own = λ v j. f.own v j ∙ rw (h.own v j) (elim (ℕ_discrete j k) [
        | yes e ↦ rw (e, le-ltb k k (omega arith), lt-ltb k (k + 1) (omega arith), eq-eqb k k refl)
            (and-true (end_of as₁ as₂ (get_or ranks k 0) v))
        | no d ↦
            rw (ne_eqb k j (λ e. d (sym e)), passed j k d, and-false (end_of as₁ as₂ (get_or ranks k 0) v))
            (or-false (ltb j k && end_of as₁ as₂ (get_or ranks j 0) v))
      ]);
    }
