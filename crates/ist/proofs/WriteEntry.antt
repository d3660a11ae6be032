-- The entry that answers a lent list of links, with an area and a length to write: for every `core`, and whatever it says.
--     f(stations, list, area, written) {
--         let copy = copy_list(list);
--         core(stations, copy, area, written) }
--     Says             what is said of the station count, the list, the area before, the result, the length and the area after
--     entry, says      the entry's signature, and its clauses.        core, says_core      those of `core`
--     function g       the entry's MIR, where `core` has the name g
--     meets            the entry meets its contract if `core` meets its own
-- Assumes `Logic`.
use mathlib.Core.Path.{◌≡◌, refl}
use Prim.Native.Nat.{ℕ, ◌<◌, ◌^◌}
use mathlib.Core.List.{List, [], ◌∷◌}
use lib.ListN.{length}
use seplogic.Ra.Ura.{Ura}
use mir.Syntax.{Ty, Fn, Callee, named, erased, mut, w8, w32, ty_int, ty_ref}
use mir.Syntax.{place, field, deref, local, value_local, copy, addr_of, aggregate, seq, assign, call, return}
use mir.Val.{Val, vint, vptr}
use base.Logic.{SProp, ent, emp, via, fst∗, id⊢}
use base.Fml.{Lft, Share, Fml, ftrue, fsep, flft, fres, fbor}
use types.SemTy.{Body, Arr}
use types.Hole.{Holey}
use denote.Memory.{mem as in_memory}
use prog.Memory.{Memory}
use prog.Routine.{Routine}
use prog.Wp.{WpFn, Tables}
use types.Logic.{Logic}
use contract.Monad.{Fun, fact}
use types.Kit.{Item, ‵, raw, ◌⊛◌, ⋆, ◌$◌, ◌∵◌, !, qed, by, move}
use types.Kit.{keep, drop, use1, use2, split, join, fsplit, fjoin, feq_l, suffices, frame, done}
use types.Part.{whole, sub, look_in, agg}
use types.Run.{look, init, stop, hop, fld, from, load, addr, and_then, no_more}
use types.Run.{assigns, land, returns, enter, alloc1, alloc0, params1, pass1, pass0, free0}
use sound.WpLaws.{fm_of, WpFn-mono}
use denote.RattleType.{owns}
use denote.Laws.{Is}
use denote.Plain.{uint_vals, uint_Tells, uint_Makes}
use denote.Signed.{sint_Lawful}
use denote.Builtin.{u8, u32, usize, i32}
use denote.Ref.{Bor, MutBor, MutRef, mut_vals, mut_Tells}
use denote.Signature.{plain, shr_slice, mut_slice, mut_ref}
use denote.Slice.{slice_val, slice_ty, shr_slice_vals, mut_slice_vals, ShrSlice, MutSlice, finally, shr_slice_Tells}
use denote.Slice.{mut_slice_Tells, shr_slice_Lawful, mut_slice_Lawful}
use denote.Steps.{owned, nothing}
use denote.Triple.Statement.{Contract, Triple}
use denote.Triple.Entry.{on_entry, Args, Vals}
use denote.Triple.Spec.{Meets}
use denote.Triple.Walked.{says, Stays, stay_none, stay_none_slice, gave_slice, gave_ref, walk_of, Goes-none}
use denote.Triple.Walked.{Goes-none_slice, Goes-gave_slice, Goes-gave_ref, Walks, ends_at, walked, walk_Meets}
use denote.Exit.{yes}
use denote.Triple.Clauses.{Ended, Clauses, closing}
use Rattle.records.specs.declared.Link.{Link}
use Rattle.records.specs.Records.{list_copy}
use Rattle.records.proofs.ListCopy.TheLaws as C'
use Rattle.records.proofs.LinkRows.{R, word, slice, gone}
use Rattle.records.proofs.Told.{ContractOf, calls_told}
use Rattle.codes.specs.Exports.{Of}
use Rattle.ist.proofs.Lent.{Copy, S, Own, calls_copy, copy_typed, copy_makes}
use Rattle.records.proofs.copy_list.Symbol.{name as #records·copy-list}

abbrev pub Says : Type 1
Says = ℕ → List Link → List ℕ → i32.Denot → ℕ → List ℕ → Type 0

abbrev pub entry : Ended
entry = record {
  signature =
      record {
        lifetimes = 3;
        outlives = [];
        params = plain (λ _. u32) ∷ shr_slice 0 tt (λ _. R) ∷ mut_slice 1 tt (λ _. u8) ∷ mut_ref 2 tt (λ _. usize) ∷ [];
        result = plain (λ _. i32);
      };
  kept = (yes, (yes, (yes, (yes, tt))));
}

abbrev pub core : Ended
core = record {
  signature =
      record {
        lifetimes = 2;
        outlives = [];
        params = plain (λ _. u32) ∷ plain (λ _. S) ∷ mut_slice 0 tt (λ _. u8) ∷ mut_ref 1 tt (λ _. usize) ∷ [];
        result = plain (λ _. i32);
      };
  kept = (yes, (yes, (yes, (yes, tt))));
}

module _ {M : Type 1} (𝓤 : Ura M) (Φ : Says) where
  abbrev pub says_entry : Clauses 𝓤 entry
  says_entry κs a =
      record {
        ghost = Unit {0};
        requires = λ _. emp 𝓤;
        ensures = λ _ r e. fact 𝓤 (Φ a.0 a.1.0.now a.1.1.0.now r e.1.1.1.0.now e.1.1.0.now);
      }

  abbrev pub says_core : Clauses 𝓤 core
  says_core κs a = record {
    ghost = Unit {0};
    requires = λ _. emp 𝓤;
    ensures =
        λ _ r e. fact 𝓤 (Of a.1.0 (λ ys. Φ a.0 ys a.1.1.0.now r e.1.1.1.0.now e.1.1.0.now));
  }

abbrev bytes : Ty
bytes = ty_ref erased mut (ty_int w8)

-- the locals: the result, the four parameters, the copy, and what is lent on
abbrev pub function : Callee → Fn
function g = record {
  lifetimes = 3;
  outlives = [];
  ty_params = [];
  givens = 0;
  params = 4;
  locals =
      local (ty_int w32) value_local ∷ local (ty_int w32) value_local ∷ local slice value_local ∷ local
      (slice_ty (ty_ref (named 1) mut (ty_int w8))) value_local ∷ local (ty_ref (named 2) mut word) value_local
      ∷ local C'.mir value_local ∷ local bytes value_local ∷ local (slice_ty bytes) value_local ∷ local (ty_ref erased mut word) value_local ∷ [];
  body = seq (call #records·copy-list (copy (place 2 []) ∷ []) (place 5 []))
      (seq (assign (place 6 []) (addr_of (place 3 (field 0 ∷ deref (ty_int w8) ∷ []))))
      (seq (assign (place 7 []) (aggregate (copy (place 6 []) ∷ copy (place 3 (field 1 ∷ [])) ∷ [])))
      (seq (assign (place 8 []) (addr_of (place 4 (deref word ∷ []))))
      (seq (call g (copy (place 1 []) ∷ copy (place 5 []) ∷ copy (place 7 []) ∷ copy (place 8 []) ∷ []) (place 0 [])) return))));
}

abbrev stayed : Stays entry.signature.params entry.kept
stayed = (
  stay_none (λ _. u32) yes,
  (
    stay_none_slice (0 ∷ []) tt (plain (λ _. R)) yes,
    (gave_slice (1 ∷ []) tt (plain (λ _. u8)), (gave_ref (2 ∷ []) tt (plain (λ _. usize)), tt)),
  ),
)

module _ {M : Type 1} {𝓤 : Ura M} (𝓛 : Logic 𝓤) (Φ : Says) where
  -- the contract of `core`
  abbrev pub Core : Contract 𝓤
  Core = ContractOf 𝓛 core (says_core 𝓤 Φ)

module _ {M : Type 1} {𝓤 : Ura M} (𝓛 : Logic 𝓤) (Φ : Says) (mem : Memory → SProp 𝓤) (run : Routine → Fun 𝓤) (κ κ₁ κ₂ : Lft)
    (q q₁ q₂ : Share) (n : ℕ) (s : Bor (List Link)) (x : MutBor (List ℕ)) (w : MutBor ℕ) where
  open 𝓛 use {H}

  abbrev a : Args entry.signature (κ, (κ₁, (κ₂, tt)))
  a = (n, (s, (x, (w, tt))))

  abbrev vals : Vals entry.signature (κ, (κ₁, (κ₂, tt)))
  vals = (vint w32 n ∷ [], (shr_slice_vals s, (mut_slice_vals x, (mut_vals w, tt))))

  abbrev bound : (walk_of 𝓛 entry stayed (says_entry 𝓤 Φ)).Ghost
  bound = (((κ, (κ₁, (κ₂, tt))), (q, (q₁, (q₂, tt))), tt, a, vals), tt)

  abbrev Post : Val → SProp 𝓤
  Post = (walk_of 𝓛 entry stayed (says_entry 𝓤 Φ)).post bound

  -- the tokens of what is passed on, and what it owns
  abbrev Toks : Item 𝓤
  Toks = ‵ (flft κ₁ q₁) ⊛ ‵ (flft κ₂ q₂) ⊛ ‵ ftrue

  abbrev Lent : Fml
  Lent = fsep ((MutSlice (named 1) κ₁ u8).own_val x (mut_slice_vals x)) (fsep ((MutRef (named 2) κ₂ usize).own_val w (mut_vals w)) ftrue)

  -- the call of `core`, at the copy u
  module _ (u : Val) where
    abbrev given_core : Args core.signature (κ₁, (κ₂, tt))
    given_core = (n, (list_copy s.now, (x, (w, tt))))

    abbrev to : (Core 𝓛 Φ).Ghost
    to = (((κ₁, (κ₂, tt)), (q₁, (q₂, tt)), tt, given_core, (vint w32 n ∷ [], (u ∷ [], (mut_slice_vals x, (mut_vals w, tt))))), tt)

    goes : n < 2 ^ 32 → Is S (list_copy s.now) (u ∷ []) → ent 𝓤 (⋆ 𝓛 (Toks ∷ ‵ Lent ∷ [])) ((Core 𝓛 Φ).pre to)
    goes gn is =
        qed 𝓛 (Toks ∷ ‵ Lent ∷ []) ∵ move ! (1 ∷ []) $ owned ! S (Is S) (copy_makes 𝓛) (list_copy s.now) _ is $ fjoin ! $
        owned ! u32 (Is u32) (uint_Makes 𝓛 w32) n _ (refl, gn) $ fjoin ! $ move ! (1 ∷ 0 ∷ []) $ join ! $ nothing ! $ move ! (1 ∷ 0 ∷ []) $ done !

  -- what is had of the area and of the length once `core` has them: the last value and the borrow
  abbrev LastArea : List ℕ → Fml
  LastArea zs = fsep (finally u8 x.ghost_name zs) (fbor κ₁ (Body (Arr (Holey (in_memory u8)) (length x.now)) x.ref_ptr.0 x.ref_ptr.1 x.ghost_name))

  abbrev LastLength : ℕ → Fml
  LastLength m = fsep (fres w.ghost_name (usize.coded.code m)) (fbor κ₂ (Body (in_memory usize) w.ref_ptr.0 w.ref_ptr.1 w.ghost_name))

  exits : (r : i32.Denot) (z : Val) (zs : List ℕ) (m : ℕ) → n < 2 ^ 32 → length zs ≡ length x.now → Φ n s.now x.now r m zs
      → ent 𝓤 (⋆ 𝓛 (‵ (flft κ q) ∷ Toks ∷ ‵ (Own κ s) ∷ ‵ (LastArea zs) ∷ ‵ (LastLength m) ∷ ‵
      (i32.own_val r (z ∷ [])) ∷ [])) (Post z)
  exits r z zs m gn l e =
      qed 𝓛 (‵ (flft κ q) ∷ Toks ∷ ‵ (Own κ s) ∷ ‵ (LastArea zs) ∷ ‵ (LastLength m) ∷ ‵ (i32.own_val r (z ∷ [])) ∷ []) ∵
      suffices ! _ (ends_at 𝓛 entry stayed (says_entry 𝓤 Φ) bound z r (tt, (tt, (zs, (m, tt)))) (tt, (tt, (l, (tt, tt))))) $ says ! e $
      join ! $ frame ! $ nothing ! $ move ! (3 ∷ 0 ∷ []) $ fjoin ! $ move ! (2 ∷ 0 ∷ []) $ fjoin ! $ move ! (1 ∷ 0 ∷ []) $ fjoin ! $
      owned ! u32 (Is u32) (uint_Makes 𝓛 w32) n _ (refl, gn) $ fjoin ! $ done !

  module _ (𝓣 : Tables 𝓤 H) (g : Callee) (copied : Triple 𝓤 (𝓣.C #records·copy-list) (Copy 𝓛 mem run)) (known : Triple 𝓤 (𝓣.C g) (Core 𝓛 Φ)) where
    walk :
        n < 2 ^ 32 →
        Is (ShrSlice (named 0) κ R) s (shr_slice_vals s) →
        Is (MutSlice (named 1) κ₁ u8) x (mut_slice_vals x) →
        ent 𝓤 (on_entry 𝓛 entry.signature (κ, (κ₁, (κ₂, tt))) (q, (q₁, (q₂, tt))) a vals)
        (WpFn 𝓤 H 𝓣.C 𝓣.Λ (function g) (vint w32 n ∷ slice_val s.ref_ptr (length s.now) ∷ slice_val x.ref_ptr (length x.now) ∷ vptr w.ref_ptr.0
        w.ref_ptr.1 ∷ []) Post)
    walk gn gs gx =
        qed 𝓛 ((‵ (flft κ q) ⊛ Toks) ∷ ‵ (owns (u32 ∷ ShrSlice (named 0) κ R ∷ MutSlice (named 1) κ₁ u8 ∷ MutRef (named 2) κ₂ usize ∷ []) a vals) ∷ []) ∵ enter
        ! 𝓣.C 𝓣.Λ (function g) _ _ $
        alloc1 ! (λ l₀. alloc1 ! (λ l₁. alloc1 ! (λ l₂. alloc1 ! (λ l₃. alloc1 ! (λ l₄. alloc1 ! (λ l₅. alloc1 ! (λ l₆. alloc1 ! (λ l₇. alloc1 ! (λ l₈.
        alloc0 ! $ params1 ! $
        pass1 ! (init ! 14 refl (tt, record { fits = gn })) $ pass1 ! (init ! 12 refl ((shr_slice_Lawful 𝓛 (named 0) κ R).typed s _ gs).0) $
        pass1 ! (init ! 10 refl ((mut_slice_Lawful 𝓛 (named 1) κ₁ u8).typed x _ gx).0) $ pass1 ! (init ! 8 refl (tt, tt)) $ pass0 ! $
        -- [the list's token; what it owns; what is passed on; its tokens; _8; …]
        move ! (18 ∷ []) $ split ! $ move ! (20 ∷ []) $ fsplit ! $ drop ! $ fsplit ! $ move ! (2 ∷ 0 ∷ 1 ∷ 3 ∷ []) $
        calls_copy ! mem run s (fm_of 𝓤 H 𝓛.laws 𝓣) copied (and_then ! (load ! (from ! (stop !)) (look ! 16 refl)) (no_more !)) (λ u is.
        land ! (from ! (stop !)) (init ! 10 refl (copy_typed 𝓛 (list_copy s.now) u is)) $
        assigns ! (addr ! (from ! (fld ! refl (hop ! (look_in ! 14 (sub ! 0 refl (whole !))) (stop !))))) (from ! (stop !)) (init ! 8 refl (tt, tt)) $
        assigns ! (agg ! (and_then ! (load ! (from ! (stop !)) (look ! 8 refl))
        (and_then ! (load ! (from ! (fld ! refl (stop !))) (look_in ! 14 (sub ! 1 refl (whole !)))) (no_more !)))) (from ! (stop !)) (init ! 6 refl (
          tt,
          (tt, (record { fits = gx.0.1.0 }, tt)),
        )) $
        assigns ! (addr ! (from ! (hop ! (look ! 12 refl) (stop !)))) (from ! (stop !)) (init ! 4 refl (tt, tt)) $
        move ! (3 ∷ 2 ∷ []) $ use2 𝓛 (raw ((Core 𝓛 Φ).pre (to u))) (goes u gn is) $
        -- [what `core` asks; the list's token; what it owns; _8; …]
        calls_told ! core (says_core 𝓤 Φ) (to u).0 tt (λ r ws. Of (list_copy s.now) (λ ys. Φ n ys x.now r ws.1.1.1.0 ws.1.1.0)) (λ _ _. id⊢ 𝓤 _)
        (fm_of 𝓤 H 𝓛.laws 𝓣) known
        (and_then ! (load ! (from ! (stop !)) (look ! 17 refl))
        (and_then ! (load ! (from ! (stop !)) (look ! 9 refl))
        (and_then ! (load ! (from ! (stop !)) (look ! 5 refl)) (and_then ! (load ! (from ! (stop !)) (look ! 3 refl)) (no_more !))))) (λ z r ws e told.
        move ! (2 ∷ []) $ fsplit ! $ drop ! $ fsplit ! $ drop ! $ fsplit ! $ fsplit ! $ fsplit ! $ move ! (1 ∷ []) $ feq_l ! (λ l.
        fjoin ! $ move ! (1 ∷ []) $ fsplit ! $ move ! (4 ∷ []) $ use1 𝓛 Toks (id⊢ 𝓤 _) $ move ! (4 ∷ []) $
        -- [the result; the tokens; the last length; true; the last area; the list's token; what it owns; _8; …]
        land ! (from ! (stop !)) (init ! 23 refl ((sint_Lawful 𝓛 w32).typed r _ told).0) $ returns ! (look ! 23 refl) $
        gone ! 23 refl refl $ gone ! 21 refl refl $ gone ! 19 refl refl $ gone ! 17 refl refl $ gone ! 15 refl refl $ gone ! 13 refl refl $
        gone ! 11 refl refl $ gone ! 9 refl refl $ gone ! 7 refl refl $ free0 ! $
        keep ! (5 ∷ 1 ∷ 6 ∷ 4 ∷ 2 ∷ 0 ∷ []) $ by ! (exits r z ws.1.1.0 ws.1.1.1.0 gn l (e s.now refl))))))))))))))

module _ {M : Type 1} {𝓤 : Ura M} (𝓛 : Logic 𝓤) (Φ : Says) (mem : Memory → SProp 𝓤) (run : Routine → Fun 𝓤) (𝓣 : Tables 𝓤 𝓛.H)
    (g : Callee)
    (copied : Triple 𝓤 (𝓣.C #records·copy-list) (Copy 𝓛 mem run))
    (known : Triple 𝓤 (𝓣.C g) (Core 𝓛 Φ)) where
  open 𝓛 use {H}

  walks : Walks 𝓛 entry stayed (WpFn 𝓤 H 𝓣.C 𝓣.Λ (function g)) (says_entry 𝓤 Φ)
  walks = walked 𝓛 entry stayed (says_entry 𝓤 Φ) (WpFn 𝓤 H 𝓣.C 𝓣.Λ (function g)) (λ κs. (uint_vals w32, (shr_slice_vals, (mut_slice_vals, (mut_vals, tt)))))
      (λ κs. (uint_Tells w32, (shr_slice_Tells (named 0) κs.0 R, (mut_slice_Tells (named 1) κs.1.0 u8, (mut_Tells (named 2) κs.1.1.0 usize, tt)))))
      (λ κs qs bounds a _ are. via 𝓤 _ (fst∗ 𝓤 _ (emp 𝓤))
      (walk 𝓛 Φ mem run κs.0 κs.1.0 κs.1.1.0 qs.0 qs.1.0 qs.1.1.0 a.0 a.1.0 a.1.1.0
      a.1.1.1.0 𝓣 g copied known
      are.0.1 are.1.0 are.1.1.0))

  pub meets : Meets 𝓛 entry.signature (WpFn 𝓤 H 𝓣.C 𝓣.Λ (function g)) (closing 𝓛 entry (says_entry 𝓤 Φ))
  meets = walk_Meets 𝓛 entry stayed (
    Goes-none 𝓛 3 (λ _. u32) yes (λ κs x f. refl),
    (
      Goes-none_slice 𝓛 3 (0 ∷ []) tt (plain (λ _. R)) yes,
      (Goes-gave_slice 𝓛 3 1 tt (plain (λ _. u8)), (Goes-gave_ref 𝓛 3 2 tt (plain (λ _. usize)), tt)),
    ),
  )
      (says_entry 𝓤 Φ) (WpFn 𝓤 H 𝓣.C 𝓣.Λ (function g)) (WpFn-mono 𝓤 H 𝓛.laws 𝓣 (function g)) walks
