-- The call of a function by its contract, for a proof that walks code by hand.
--     ContractOf       the contract of a function whose clauses read the last values of what it was lent
--     calls_told       what the function asks is the head of the context, at what it is passed; its `ensures` gives the fact Ψ of the
--                      result and of the last values of what was lent. After the call the result is the head, as a machine value
--                      with its relation; the tokens are behind it, then the last values
-- Assumes `Logic`.
use mathlib.Core.List.{List, [], ◌∷◌}
use seplogic.Ra.Ura.{Ura}
use mir.Syntax.{Callee, Place, Opd as Operand, Body, seq, call}
use mir.Val.{Val}
use base.Logic.{ent, id⊢}
use prog.Wp.{Env, Calls, Loops}
use types.Logic.{Logic}
use types.Kit.{Item, ‵, raw, ◌⊛◌, Post, runs, lands, Seq, some, later, ◌$◌, move, use1, split, pick, await}
use types.Run.{Opds}
use sound.WpLaws.{FmC}
use contract.Monad.{fact}
use denote.Laws.{Is, shows}
use denote.Signature.{type_at}
use denote.Steps.{peeks, heard}
use denote.Triple.Bound.{Bound, passed}
use denote.Triple.Call.{calls_at}
use denote.Triple.Clauses.{Ended, Clauses, Lasts, at_exit, lasts, closing}
use denote.Triple.Entry.{Res, alive}
use denote.Triple.Spec.{triple_of}
use denote.Triple.Statement.{Contract, Triple}

module _ {M : Type 1} {𝓤 : Ura M} (𝓛 : Logic 𝓤) (T : Ended) (c : Clauses 𝓤 T) where
  abbrev pub ContractOf : Contract 𝓤
  ContractOf = triple_of 𝓛 T.signature (closing 𝓛 T c)

module _ {M : Type 1} {𝓤 : Ura M} {𝓛 : Logic 𝓤} {K : Type 0} {Γ : List (Item 𝓤)} {E : Env 𝓤 𝓛.H} {C : Calls 𝓤 𝓛.H} {Λ : Loops 𝓤 𝓛.H}
    {p : Post 𝓤 𝓛.H} {d : Place} {rest : Body} {f : Callee} {xs : List Operand} where
  pub calls_told :
      K →
      (T : Ended) (c : Clauses 𝓤 T) (x : Bound 𝓛 T.signature) (g : (c x.0 x.3).ghost)
      (Ψ : Res T.signature x.0 → Lasts T x.0 x.3 → Type 0) →
      ((r : Res T.signature x.0) (ws : Lasts T x.0 x.3) → ent 𝓤 ((c x.0 x.3).ensures g r (at_exit T x.0 x.3 ws)) (fact 𝓤 (Ψ r ws))) →
      FmC 𝓤 𝓛.H 𝓛.laws C →
      Triple 𝓤 (C f) (ContractOf 𝓛 T c) →
      Opds K 𝓛 (raw ((ContractOf 𝓛 T c).pre (x, g)) ∷ Γ) E xs (passed 𝓛 T.signature x)
      → ((z : Val) (r : Res T.signature x.0) (ws : Lasts T x.0 x.3) → Ψ r ws → Is (type_at T.signature.result x.0) r (z ∷ [])
      → Seq K 𝓛 (‵ ((type_at T.signature.result x.0).own_val r (z ∷ [])) ∷ raw (alive 𝓛 T.signature x.0 x.1) ∷ ‵ (lasts T x.0 x.3 ws) ∷ Γ)
      (lands C Λ E d z rest p))
      → Seq K 𝓛 (raw ((ContractOf 𝓛 T c).pre (x, g)) ∷ Γ) (runs C Λ E (seq (call f xs d) rest) p)
  calls_told t T c x g Ψ says fm known os k =
      let R = type_at T.signature.result x.0 in
      calls_at t fm (ContractOf 𝓛 T c) known (x, g) os (λ z.
      use1 𝓛 (later (some (λ (r : Res T.signature x.0). (raw (alive 𝓛 T.signature x.0 x.1) ⊛ ‵ (R.own_val r (z ∷ []))) ⊛ some
      (λ (ws : Lasts T x.0 x.3). ‵ (lasts T x.0 x.3 ws) ⊛ raw ((c x.0 x.3).ensures g r (at_exit T x.0 x.3 ws)))))) (id⊢ 𝓤 _) $
      await t tt $ pick t (λ r. split t $ move t (1 ∷ []) $ pick t (λ ws. split t $ move t (1 ∷ []) $
      use1 𝓛 (raw (fact 𝓤 (Ψ r ws))) (says r ws) $ heard t (Ψ r ws) (λ e. move t (1 ∷ []) $ split t $ move t (1 ∷ []) $
      peeks t R (Is R) (shows 𝓛 R) r (z ∷ []) (λ told. k z r ws e told)))))
