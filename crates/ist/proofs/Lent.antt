-- Steps for a proof that walks an entry over a lent list of links: the call of `copy_list`. It takes the list's token and what
-- the list owns and leaves both, and gives the copy's machine value with the relation to what it is.
--     Copy             the contract of `copy_list`
--     S, Own           the type of the copy; what the list owns
--     calls_copy       the call, whose result is the copy of the list
--     copy_typed, copy_makes       a copy's machine value has its type; what a copy owns is had for nothing
-- Assumes `Logic`.
use mathlib.Core.Path.{◌≡◌, subst}
use mathlib.Core.List.{List, [], ◌∷◌}
use lib.Dec.{T as Holds}
use seplogic.Ra.Ura.{Ura}
use mir.Syntax.{Callee, named, Place, Opd as Operand, Body, seq, call}
use mir.Val.{Val, WT, has_ty}
use base.Logic.{SProp, ent, sep, emp, id⊢}
use base.Fml.{Lft, Share, Fml, ftrue, fsep, flft}
use prog.Memory.{Memory}
use prog.Routine.{Routine}
use prog.Wp.{Env, Calls, Loops}
use types.Logic.{Logic, sem}
use contract.Monad.{Fun}
use types.Kit.{Item, ‵, raw, ◌⊛◌, Post, runs, lands, Seq, ◌$◌, ◌∵◌, !, qed, move, drop, use1, use2, split, join, fjoin, done}
use types.Run.{Opds}
use sound.WpLaws.{FmC}
use denote.RattleType.{RattleType}
use denote.Laws.{Is, Makes}
use denote.Ref.{Bor}
use denote.Slice.{shr_slice_vals, ShrSlice, shr_slice_copy}
use denote.Steps.{nothing}
use denote.Struct.Laws as LL
use denote.Triple.Statement.{Contract, Triple}
use denote.Triple.Spec.{triple_of}
use Rattle.records.specs.declared.Link.{Link}
use Rattle.records.specs.declared.ListCopy.{ListCopy}
use Rattle.records.specs.Records.{list_copy}
use Rattle.records.specs.contracts.ListCopy as C
use Rattle.records.proofs.Link.TheLaws as L'
use Rattle.records.proofs.ListCopy.TheLaws as C'
use Rattle.records.proofs.LinkRows.{R}
use Rattle.records.proofs.Told.{calls_told}
use Rattle.records.specs.contracts.copy_list as copy_list

abbrev pub S : RattleType
S = C.the_row

abbrev pub Own : Lft → Bor (List Link) → Fml
Own κ s = (ShrSlice (named 0) κ R).own_val s (shr_slice_vals s)

pub copy_makes : {M : Type 1} {𝓤 : Ura M} (𝓛 : Logic 𝓤) → Makes 𝓛 S (Is S)
copy_makes 𝓛 = LL.makes C.the_type C'.the_plain 𝓛

module _ {M : Type 1} {𝓤 : Ura M} (𝓛 : Logic 𝓤) (c : ListCopy) (u : Val) (is : Is S c (u ∷ [])) where
  pub copy_typed : Holds (has_ty C'.mir u) × WT u
  copy_typed = ((LL.lawful C.the_type C'.the_laws 𝓛).typed c (u ∷ []) is).0

module _ {M : Type 1} {𝓤 : Ura M} (𝓛 : Logic 𝓤) (mem : Memory → SProp 𝓤) (run : Routine → Fun 𝓤) where
  open 𝓛 use {A}

  abbrev pub Copy : Contract 𝓤
  Copy = triple_of 𝓛 copy_list.signature (copy_list.spec 𝓛 mem run)

  module _ (κ : Lft) (q : Share) (s : Bor (List Link)) where
    -- what the call binds outside
    abbrev pub to_copy : Copy.Ghost
    to_copy = (((κ, tt), (q, tt), tt, (s, tt), (shr_slice_vals s, tt)), tt)

    -- what the call asks: the list is Copy, so what it owns is kept
    asks :
        ent 𝓤 (sep 𝓤 (A.lft κ q) (sem 𝓛 (Own κ s)))
        (sep 𝓤 (sep 𝓤 (sep 𝓤 (sep 𝓤 (A.lft κ q) (emp 𝓤)) (sem 𝓛 (fsep (Own κ s) ftrue))) (emp 𝓤)) (sem 𝓛 (Own κ s)))
    asks =
        qed 𝓛 (‵ (flft κ q) ∷ ‵ (Own κ s) ∷ []) ∵ move ! (1 ∷ []) $ use1 𝓛 (‵ (Own κ s) ⊛ ‵ (Own κ s))
        ((shr_slice_copy 𝓛 (named 0) κ R L'.the_row_laws.shr_laws).twice s (shr_slice_vals s)) $ split ! $
        nothing ! $ move ! (1 ∷ 0 ∷ []) $ fjoin ! $ nothing ! $ move ! (3 ∷ 0 ∷ []) $ join ! $ join ! $ nothing ! $ move ! (1 ∷ 0 ∷ []) $ join ! $ done !

module _ {M : Type 1} {𝓤 : Ura M} {𝓛 : Logic 𝓤} {K : Type 0} {Γ : List (Item 𝓤)} {E : Env 𝓤 𝓛.H} {C : Calls 𝓤 𝓛.H} {Λ : Loops 𝓤 𝓛.H}
    {p : Post 𝓤 𝓛.H} {d : Place} {rest : Body} {f : Callee} {xs : List Operand} where
  open 𝓛 use {H}

  pub calls_copy :
      K →
      (mem : Memory → SProp 𝓤) (run : Routine → Fun 𝓤) {κ : Lft} {q : Share} (s : Bor (List Link)) →
      FmC 𝓤 H 𝓛.laws C →
      Triple 𝓤 (C f) (Copy 𝓛 mem run) →
      Opds K 𝓛 (raw ((Copy 𝓛 mem run).pre (to_copy 𝓛 mem run κ q s)) ∷ ‵ (Own κ s) ∷ Γ) E xs (shr_slice_vals s)
      → ((u : Val) → Is S (list_copy s.now) (u ∷ []) → Seq K 𝓛 (‵ (flft κ q) ∷ ‵ (Own κ s) ∷ Γ) (lands C Λ E d u rest p))
      → Seq K 𝓛 (‵ (flft κ q) ∷ ‵ (Own κ s) ∷ Γ) (runs C Λ E (seq (call f xs d) rest) p)
  calls_copy t mem run {κ} {q} s fm known os k =
      use2 𝓛 (raw ((Copy 𝓛 mem run).pre (to_copy 𝓛 mem run κ q s)) ⊛ ‵ (Own κ s)) (asks 𝓛 mem run κ q s) $ split t $
      calls_told t copy_list.ended (copy_list.clauses 𝓛 mem run) (to_copy 𝓛 mem run κ q s).0 tt (λ r _. r ≡ list_copy s.now) (λ r _. id⊢ 𝓤 _) fm
      known os (λ u r _ e told. drop t $ use1 𝓛 (‵ (flft κ q) ⊛ ‵ ftrue) (id⊢ 𝓤 _) $ split t $ move t (1 ∷ 2 ∷ []) $ drop t $ drop t $
      k u (subst (λ (c : ListCopy). Is S c (u ∷ [])) e told))
