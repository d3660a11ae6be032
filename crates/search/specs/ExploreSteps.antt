-- The start of an exploration. Assumes nothing.
use Rattle.std.specs.Prelude.{ℕ, ◌≡◌, refl, Bool, true, false, ◌||◌, List, eqb, get_or, set}
use Rattle.std.proofs.Common.{arith, ap, ◌∙◌, length-set, get_or-set_same, get_or-set_other}
use Rattle.std.proofs.Math.Path.{fun_ext}
use Rattle.loops.specs.Loop.{put}
use Rattle.bits.specs.Bit.{bit}
use Rattle.bits.specs.BitLaws.{bit_zero}
use Rattle.bits.specs.ChangeLaws.{added}
use Rattle.optimum.specs.Search.{Search, halt}
use Rattle.search.specs.Board.{from_of, by_of, state_of, board_tree, board_begun, Ready, Kept, TreeTried, Explored}
use Rattle.search.specs.SlotSteps.{board_kept, kept_both}

module _
    (t live ends : ℕ)
    (words links : List ℕ)
    (ready : Ready t words links)
    (seen : ℕ)
    (marked : (j : ℕ) → bit seen j ≡ (bit 0 j || eqb t j))
  where
    abbrev words₁ : List ℕ
    words₁ = set (set words 64 seen) 65 ends

    begin_kept : Kept words links words₁ links
    begin_kept =
        record {
          words_length = length-set (set words 64 seen) 65 ends ∙ length-set words 64 seen ∙ ready.words_length;
          links_length = ready.links_length;
          rows =
              λ i l. get_or-set_other (set words 64 seen) 65 i ends 0 (λ e. omega arith)
              ∙ get_or-set_other words 64 i seen 0 (λ e. omega arith);
          partners = λ i l. refl;
        }

    begin_ends : get_or words₁ 65 0 ≡ ends
    begin_ends = get_or-set_same (set words 64 seen) 65 ends 0 (omega (arith, length-set words 64 seen, ready.words_length))

    pub begin_ready : Ready t words₁ links
    begin_ready =
        record {
          rank = ready.rank;
          words_length = begin_kept.words_length;
          links_length = ready.links_length;
          below = ready.below;
        }

    begin_seen : bit (get_or words₁ 64 0) ≡ put (λ _. false) t true
    begin_seen =
        ap bit (get_or-set_other (set words 64 seen) 65 64 ends 0 (λ e. omega arith)
        ∙ get_or-set_same words 64 seen 0 (omega (arith, ready.words_length)))
        ∙ added (bit 0) (bit seen) t marked
        ∙ ap (λ (S : ℕ → Bool). put S t true) (fun_ext bit_zero)

    -- It ends at its root.
    pub root_ends : bit ends t ≡ true → Explored t live ends words links words₁ links 0
    root_ends e = record { kept = begin_kept; equal = λ n m. rw e halted }
      where
        halted : state_of words₁ links 0 ≡ halt (board_begun t live links)
        halted =
            let none : ◌≡◌ {A = ℕ → Bool} (bit 0) (λ _. false) = fun_ext bit_zero in
            λ i. record { live = none i; seen = begin_seen i; from = from_of links; by = by_of links }

    -- It goes on from there.
    pub root_leads :
        bit ends t ≡ false → (words₂ links₂ : List ℕ) (live₂ : ℕ) → TreeTried t live words₁ links words₂ links₂ live₂
        → Explored t live ends words links words₂ links₂ live₂
    root_leads e words₂ links₂ live₂ r =
        record {
          kept = kept_both words links words₁ links words₂ links₂ begin_kept r.kept;
          equal = λ n m. rw e (r.equal n m ∙ on n);
        }
      where
        begun_state : state_of words₁ links live ≡ board_begun t live links
        begun_state = λ i. record { live = bit live; seen = begin_seen i; from = from_of links; by = by_of links }

        on :
            (n : ℕ)
            → board_tree words₁ links (bit (get_or words₁ 65 0)) n t (state_of words₁ links live)
            ≡ board_tree words links (bit ends) n t (board_begun t live links)
        on n =
            ap (λ (x : ℕ). board_tree words₁ links (bit x) n t (state_of words₁ links live)) begin_ends
            ∙ ap (λ (f : (ℕ → Bool) → ℕ → ℕ → Search → Search). f (bit ends) n t (state_of words₁ links live))
            (board_kept words links words₁ links begin_kept)
            ∙ ap (board_tree words links (bit ends) n t) begun_state
