-- Laws of one tree edge tried, in the shape of the code: a node reached, each of the four cases, and how far the number of
-- found nodes grows. Assumes nothing.
use Rattle.std.specs.Prelude.{ℕ, ◌+◌, ◌≤◌, ◌<◌, ◌≡◌, true, false, ◌||◌, List, eqb, length, get_or, set}
use Rattle.std.proofs.Math.Decide.{ℕ_discrete}
use Rattle.std.proofs.Common.{add-one, arith, sym, ap, ◌∙◌, get_or-set_same, get_or-set_other}
use Rattle.std.proofs.Math.Path.{fun_ext}
use Rattle.std.specs.Bool.{xor}
use Rattle.loops.specs.Loop.{put}
use Rattle.loops.specs.PutLaws.{put_same, put_other}
use Rattle.loops.specs.TestLaws.{cond_both}
use Rattle.bits.specs.Bit.{bit}
use Rattle.bits.specs.ChangeLaws.{added, flipped}
use Rattle.graph.specs.Paths.{Rooted, attach}
use Rattle.paths.specs.declared.Front.{Front}
use Rattle.paths.specs.Arrays.{paths, held, tried}

-- A mask stored at place v.
paths_stored : (mask : List ℕ) (v x : ℕ) → v < length mask → paths (set mask v x) ≡ put (paths mask) v (bit x)
paths_stored mask v x l =
    fun_ext (λ j. elim (ℕ_discrete j v) [
      | yes e ↦ rw (e, get_or-set_same mask v x 0 l) (sym (put_same (paths mask) v (bit x)))
      | no d ↦ ap bit (get_or-set_other mask v j x 0 d) ∙ sym (put_other (paths mask) v (bit x) j d)
    ])

pub reach_held :
    (front : Front) (mask : List ℕ) (u v k w x : ℕ) → v < length mask
    → ((j : ℕ) → bit w j ≡ (bit front.reached j || eqb v j))
    → ((j : ℕ) → bit x j ≡ xor (bit (get_or mask u 0) j) (eqb k j))
    → held (record { found = front.found + 1; reached = w }) (set mask v x) ≡ attach u v k (held front mask)
reach_held front mask u v k w x l hw hx =
    rw (
      add-one front.found,
      added (bit front.reached) (bit w) v hw,
      paths_stored mask v x l,
      flipped (paths mask u) (bit x) k hx,
    )

-- The four cases.
module _ (u v k : ℕ) (st : Rooted) where
  pub tried_both : st.reached u ≡ true → st.reached v ≡ true → tried u v k st ≡ st
  tried_both p q = rw (p, q)

  pub tried_forth : st.reached u ≡ true → st.reached v ≡ false → tried u v k st ≡ attach u v k st
  tried_forth p q = rw (p, q)

  pub tried_back : st.reached u ≡ false → st.reached v ≡ true → tried u v k st ≡ attach v u k st
  tried_back p q = rw (p, q)

  pub tried_neither : st.reached u ≡ false → st.reached v ≡ false → tried u v k st ≡ st
  tried_neither p q = rw (p, q)

  -- What a tried edge keeps; it leads on from a node that has been reached.
  pub tried_keeps :
      (P : Rooted → Type 0) → P st → (st.reached u ≡ true → P (attach u v k st)) → (st.reached v ≡ true → P (attach v u k st))
      → P (tried u v k st)
  tried_keeps P still forth back =
      cond_both P (st.reached u) _ _
      (λ p. cond_both P (st.reached v) _ _ (λ _. still) (λ _. forth p))
      (λ _. cond_both P (st.reached v) _ _ back (λ _. still))

  pub tried_few : (tried u v k st).found ≤ st.found + 1
  tried_few = tried_keeps (λ (r : Rooted). r.found ≤ st.found + 1) (omega arith) (λ _. omega arith) (λ _. omega arith)
