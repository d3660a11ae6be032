-- Links side by side in memory, for the proofs that walk code over a lent list of links.
--     R, word, slice   the type of a link, and the MIR types of a count and of a lent list
--     fits16, less     the place of a link fits a usize; a turn of a loop leaves less to do
--     zero_is          the link of zeros has its machine value
--     as-field         an array of links is one as a field of a struct
--     zeros-typed, zeros-apart     n times that link is an array of n links, and lies in memory link by link
--     whole            n links that lie in memory link by link are an array, which owns what an array owns
--     AtMost, counts   the contract of `at_most`, and its call as a step: the counted number r is the smaller one, and lands where
--                      the code says. The operands are read with what `at_most` asks in front of the context
--     big-lit          an operand that is a number above 1,023 (`int_big`), beside `Types/Run.antt`'s `lit`
--     gone, gone-room  at a return: a local is freed where it stands in the context, one that holds a value and one that is room
-- Assumes `Logic`.
use mathlib.Core.Path.{◌≡◌, refl, sym, ap, subst, ◌∙◌}
use Prim.Native.Nat.{ℕ, zero, suc, ◌+◌, ◌*◌, ◌-◌, ◌<◌, ◌^◌, min}
use native.Mathlib.Omega.{arith}
use mathlib.Core.List.{List, [], ◌∷◌, map}
use lib.ListN.{length, replicate, length-replicate, length-map}
use lib.Dec.{T as Holds, lit<}
use seplogic.Ra.Ura.{Ura}
use base.Fraction.{full_share}
use mir.Syntax.{Ty, Width, Place, Opd as Operand, int_big, Body, seq, call, named, imm, w64, ty_int, ty_ref, ty_array}
use mir.Val.{Val, vint, Fits, WT, has_ty, bits}
use base.Logic.{SProp, ent, emp, sep, id⊢, via, assoc', mono∗, mono_r, guard_i}
use base.Fml.{fsep, fat, froom, fdies}
use prog.Memory.{Memory}
use prog.Routine.{Routine}
use prog.Wp.{Env, Tables}
use types.Logic.{Logic, sem}
use contract.Monad.{Fun}
use types.Kit.{Go, Item, Post, Goal, Sq, raw, runs, lands, Step, step, mean, ⋆, nth, del, pull, frees, ‵}
use types.Kit.{◌$◌, ◌∵◌, !, qed, move, drop, use0, use1, join, rewrite, fsplit, fjoin, fpick, fpack, feq_i, frame, done}
use types.Run.{Opd, Opds}
use types.Share.{arr_parts}
use sound.WpLaws.{fm_of}
use denote.RattleType.{RattleType}
use denote.Shadow.{shadow}
use denote.Laws.{Is, shows}
use denote.Plain.{uint_Tells, uint_Makes}
use denote.Builtin.{usize}
use denote.Memory.{cell_at, part_at, part_of, pointee, shares}
use denote.Array.{Array, each, array_val, array_vals, Array-Tells, Array-Lawful, Array-Makes}
use denote.ArrayMemory.{Array-apart, Array-whole}
use denote.Index.{row}
use denote.Slice.{slice_ty}
use denote.Steps.{only, owned, peeks, nothing}
use denote.Struct.Field.{array_field}
use denote.Struct.Laws as LL
use denote.Triple.Statement.{Contract, Triple}
use denote.Triple.Spec.{triple_of}
use Rattle.records.specs.declared.Link.{Link}
use Rattle.records.specs.Records.{zero_link}
use Rattle.records.proofs.Told.{calls_told}
use Rattle.records.specs.contracts.Link as T
use Rattle.records.proofs.Link.TheLaws as T'
use Rattle.records.specs.contracts.at_most as at_most
use Rattle.records.proofs.at_most.Symbol.{name as #records·at-most}

abbrev pub R : RattleType
R = T.the_row

abbrev pub word : Ty
word = ty_int w64

abbrev pub slice : Ty
slice = slice_ty (ty_ref (named 0) imm (pointee R.written))

pub fits16 : (i m : ℕ) → m * 16 < 2 ^ 63 → i < m → i * 16 < 2 ^ 64
fits16 i m h l = omega arith

pub less : (i m : ℕ) → i < m → m - (i + 1) < m - i
less i m l = omega arith

pub zero_is : Is R zero_link (T'.lowered zero_link ∷ [])
zero_is = LL.owes T.the_type T'.the_laws zero_link ((refl, lit< tt), ((refl, lit< tt), ((refl, lit< tt), ((refl, lit< tt), tt))))

-- an array of links is one as a field of a struct
each_field : (xs : List Link) (us : List Val) → shadow (each Link R.own_val xs us)
    → shadow (each (T.the_field).row.Denot (T.the_field).row.own_val (map (T.the_field).into xs) us)
each_field [] [] h = h
each_field [] (u ∷ us) h = h
each_field (x ∷ xs) [] h = h
each_field (x ∷ xs) (u ∷ us) h = (h.0, each_field xs us h.1)

pub as_field : (n : ℕ) (xs : List Link) (vs : List Val) → Is (Array R n) xs vs → Is (array_field T.the_field n).row (map (T.the_field).into xs) vs
as_field n xs vs is = (is.0, ((is.1.0.0, length-map xs (T.the_field).into ∙ is.1.0.1), each_field xs is.0 is.1.1))

-- the machine value of n links of zeros
abbrev pub zeros : ℕ → Val
zeros n = array_val (replicate n (T'.lowered zero_link))

each_zero : (n : ℕ) → shadow (each Link R.own_val (replicate n zero_link) (replicate n (T'.lowered zero_link)))
each_zero zero = tt
each_zero (suc n) = (zero_is, each_zero n)

pub zeros_is : (n : ℕ) → Is (Array R n) (replicate n zero_link) (zeros n ∷ [])
zeros_is n = (replicate n (T'.lowered zero_link), ((refl, length-replicate n zero_link), each_zero n))

module _ {M : Type 1} {𝓤 : Ura M} (𝓛 : Logic 𝓤) (n : ℕ) where
  open 𝓛 use {H}

  pub zeros_typed : Holds (has_ty (ty_array T'.mir n) (zeros n)) × WT (zeros n)
  zeros_typed = ((Array-Lawful 𝓛 R (LL.lawful T.the_type T'.the_laws 𝓛) n).typed (replicate n zero_link) (zeros n ∷ []) (zeros_is n)).0

  pub zeros_apart : (l o : ℕ) → ent 𝓤 (H.at full_share (ty_array T'.mir n) l o (zeros n)) (sem 𝓛 (row R full_share (replicate n zero_link) l o))
  unfolding part_of
  zeros_apart l o =
      qed 𝓛 (‵ (fat full_share (ty_array T'.mir n) l o (zeros n)) ∷ []) ∵
      use1 𝓛 (‵ (cell_at full_share (Array R n).mir (zeros n ∷ []) l o)) (𝓛.laws.at_raw full_share (ty_array T'.mir n) l o (zeros n)) $
      owned ! (Array R n) (Is (Array R n)) (Array-Makes 𝓛 R (LL.makes T.the_type T'.the_plain 𝓛) n) (replicate n zero_link) _ (zeros_is n) $ move !
      (1 ∷ 0 ∷ []) $ fjoin ! $
      fpack ! (List Val) (λ vs. fsep (cell_at full_share (Array R n).mir vs l o) ((Array R n).own_val (replicate n zero_link) vs)) (zeros n ∷ []) $
      use1 𝓛 (‵ ((arr_parts (shares R) n).part full_share (replicate n zero_link) l o))
      (Array-apart 𝓛 R full_share tt n (replicate n zero_link) l o) $ fsplit ! $ drop ! $ done !

  -- the machine value of the links xs
  abbrev pub held : List Link → Val
  held xs = only (array_vals (LL.vals T.the_type T'.the_laws) xs)

  pub whole :
      (xs : List Link) (l o : ℕ) →
      length xs ≡ n →
      ent 𝓤 (sem 𝓛 (row R full_share xs l o)) (sep 𝓤 (H.at full_share (ty_array T'.mir n) l o (held xs)) (sem 𝓛 ((Array R n).own_val xs (held xs ∷ []))))
  unfolding part_of
  whole xs l o e =
      qed 𝓛 (‵ (row R full_share xs l o) ∷ []) ∵ feq_i ! ℕ (length xs) n e $ fjoin ! $ use1 𝓛 (‵ (part_at (Array R n) full_share xs l o))
      (Array-whole 𝓛 R full_share n xs l o) $ fpick ! (λ vs. fsplit ! $
      move ! (1 ∷ []) $ peeks ! (Array R n) (Is (Array R n)) (shows 𝓛 (Array R n)) xs vs (λ is.
      rewrite ! 0 (λ (us : List Val). ‵ ((Array R n).own_val xs us)) (told vs is) refl $ rewrite ! 1
      (λ (us : List Val). ‵ (cell_at full_share (Array R n).mir us l o)) (told vs is) refl $
      move ! (1 ∷ []) $ use1 𝓛 (‵ (fat full_share (ty_array T'.mir n) l o (held xs)))
      (𝓛.laws.raw_at full_share (ty_array T'.mir n) l o (held xs)) $ frame ! $ done !))
    where
      told : (vs : List Val) → Is (Array R n) xs vs → vs ≡ held xs ∷ []
      told vs is = Array-Tells R (LL.vals T.the_type T'.the_laws) (LL.tells T.the_type T'.the_laws) n xs vs is

module _ {M : Type 1} {𝓤 : Ura M} (𝓛 : Logic 𝓤) (mem : Memory → SProp 𝓤) (run : Routine → Fun 𝓤) where
  abbrev pub AtMost : Contract 𝓤
  AtMost = triple_of 𝓛 at_most.signature (at_most.spec 𝓛 mem run)

-- the call of `at_most`: what it is passed, what it asks, what is known of its result, and the call as a step
module _ {M : Type 1} {𝓤 : Ura M} (𝓛 : Logic 𝓤) (mem : Memory → SProp 𝓤) (run : Routine → Fun 𝓤) (n most : ℕ) where
  open 𝓛 use {H}

  abbrev to : (AtMost 𝓛 mem run).Ghost
  to = ((tt, tt, tt, (n, (most, tt)), (vint w64 n ∷ [], (vint w64 most ∷ [], tt))), tt)

  asks : n < 2 ^ 64 → most < 2 ^ 64 → ent 𝓤 (emp 𝓤) ((AtMost 𝓛 mem run).pre to)
  asks g h =
      qed 𝓛 [] ∵ nothing ! $ nothing ! $ owned ! usize (Is usize) (uint_Makes 𝓛 w64) most _ (refl, h) $ fjoin ! $ owned ! usize (Is usize)
      (uint_Makes 𝓛 w64) n _ (refl, g) $ fjoin ! $ nothing ! $ join ! $ done !

  pub counts : (𝓣 : Tables 𝓤 H) → Triple 𝓤 (𝓣.C #records·at-most) (AtMost 𝓛 mem run) → n < 2 ^ 64 → most < 2 ^ 64
      → {Γ : List (Item 𝓤)} {E : Env 𝓤 H} {xs : List Operand} {d : Place} {rest : Body} {q : Post 𝓤 H}
      → Opds (Go {0}) 𝓛 (raw ((AtMost 𝓛 mem run).pre to) ∷ Γ) E xs (vint w64 n ∷ vint w64 most ∷ [])
      → ((r : ℕ) → r ≡ min n most → r < 2 ^ 64 → Sq 𝓛 Γ (lands 𝓣.C 𝓣.Λ E d (vint w64 r) rest q))
      → Sq 𝓛 Γ (runs 𝓣.C 𝓣.Λ E (seq (call #records·at-most xs d) rest) q)
  counts 𝓣 known g h {Γ} {E} {xs} {d} {rest} {q} os k =
      use0 𝓛 (raw ((AtMost 𝓛 mem run).pre to)) (asks g h) $
      calls_told ! at_most.ended (at_most.clauses 𝓛 mem run) to.0 tt (λ r _. r ≡ min n most) (λ r _. id⊢ 𝓤 _) (fm_of 𝓤 H 𝓛.laws 𝓣) known os
      (λ u r _ which told. drop ! $ drop ! $ drop ! $
      subst (λ (w : Val). Sq 𝓛 Γ (lands 𝓣.C 𝓣.Λ E d w rest q)) (sym (ap only (uint_Tells w64 r _ told))) (k r which told.1))

module _ {M : Type 1} {𝓤 : Ura M} {𝓛 : Logic 𝓤} {K : Type 0} {Γ : List (Item 𝓤)} {E : Env 𝓤 𝓛.H} where
  pub big_lit : K → {w : Width} {n : ℕ} → n < 2 ^ bits w → Opd K 𝓛 Γ E (int_big w n) (vint w n)
  big_lit t {w} {n} z = record { go = λ Kt h. via 𝓤 (Kt (vint w n)) h (guard_i 𝓤 (Fits w n) (Kt (vint w n)) record { fits = z }) }

-- the local at position k, with what frees it behind it
module _ {M : Type 1} {𝓤 : Ura M} {𝓛 : Logic 𝓤} {K : Type 0} {Γ : List (Item 𝓤)} {τ : Ty} {b : ℕ} {E : Env 𝓤 𝓛.H} {g : Goal 𝓤 𝓛.H}
  where
    open 𝓛 use {H}

    freed : (k : ℕ) (i : Item 𝓤) → ent 𝓤 (mean 𝓛 i) (H.room τ b 0) → nth 𝓛 k Γ ≡ i → nth 𝓛 k (del 𝓛 k Γ) ≡ ‵ (fdies τ b)
        → Step K 𝓛 (del 𝓛 k (del 𝓛 k Γ)) (frees E g) Γ (frees ((τ, b) ∷ E) g)
    freed k i room e d = step (λ s. record {
      prf = via 𝓤 (sep 𝓤 (mean 𝓛 i) (⋆ 𝓛 rest)) (subst (λ (j : Item 𝓤). ent 𝓤 (⋆ 𝓛 Γ) (sep 𝓤 (mean 𝓛 j) (⋆ 𝓛 rest))) e (pull 𝓛 k Γ))
          (via 𝓤 (sep 𝓤 (H.room τ b 0) (sep 𝓤 (H.dies τ b) (⋆ 𝓛 (del 𝓛 k rest))))
          (mono∗ 𝓤 room (subst (λ (j : Item 𝓤). ent 𝓤 (⋆ 𝓛 rest) (sep 𝓤 (mean 𝓛 j) (⋆ 𝓛 (del 𝓛 k rest)))) d (pull 𝓛 k rest)))
          (via 𝓤 (sep 𝓤 (sep 𝓤 (H.room τ b 0) (H.dies τ b)) (⋆ 𝓛 (del 𝓛 k rest)))
          (assoc' 𝓤 (H.room τ b 0) (H.dies τ b) (⋆ 𝓛 (del 𝓛 k rest)))
          (mono_r 𝓤 (sep 𝓤 (H.room τ b 0) (H.dies τ b)) s.prf)));
    })
      where
        rest : List (Item 𝓤)
        rest = del 𝓛 k Γ

    pub gone : K → (k : ℕ) {v : Val} → nth 𝓛 k Γ ≡ ‵ (fat full_share τ b 0 v) → nth 𝓛 k (del 𝓛 k Γ) ≡ ‵ (fdies τ b)
        → Step K 𝓛 (del 𝓛 k (del 𝓛 k Γ)) (frees E g) Γ (frees ((τ, b) ∷ E) g)
    gone t k {v} e d = freed k (‵ (fat full_share τ b 0 v)) (𝓛.laws.at_room τ b 0 v) e d

    pub gone_room : K → (k : ℕ) → nth 𝓛 k Γ ≡ ‵ (froom τ b 0) → nth 𝓛 k (del 𝓛 k Γ) ≡ ‵ (fdies τ b)
        → Step K 𝓛 (del 𝓛 k (del 𝓛 k Γ)) (frees E g) Γ (frees ((τ, b) ∷ E) g)
    gone_room t k e d = freed k (‵ (froom τ b 0)) (id⊢ 𝓤 (H.room τ b 0)) e d
