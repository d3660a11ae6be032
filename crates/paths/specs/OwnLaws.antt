-- Laws of the tree edges on paths: both ends of each have been reached, so that those on a node's own path need not be tried
-- when it is expanded. Assumes nothing.
use Rattle.std.specs.Prelude.{ℕ, ◌≡◌, refl, Bool, true, false, cond, not, ◌&&◌, List, eqb, get_or}
use Rattle.std.proofs.Math.Decide.{ℕ_discrete}
use Rattle.std.proofs.Common.{sym, ◌∙◌}
use Rattle.loops.specs.PutLaws.{put_same, put_other, put_kept}
use Rattle.loops.specs.ScanLaws.{scan_keeps, scan_alike}
use Rattle.loops.specs.TestLaws.{cond_both}
use Rattle.bits.specs.Bit.{bit}
use Rattle.graph.specs.Paths.{Rooted, attach}
use Rattle.paths.specs.Arrays.{tried_rank, only, tried_word}
use Rattle.paths.specs.GrowLaws.{tried_both, tried_keeps}

-- A turn left out that would do nothing.
left_out : {A : Type 0} (a m : Bool) (x y : A) → (m ≡ true → x ≡ y) → cond (a && not m) x y ≡ cond a x y
left_out true true x y idle = sym (idle refl)
left_out true false x y idle = refl
left_out false m x y idle = refl

module _ (ranks as₁ as₂ : List ℕ) where
  -- The ends of the tree edge of rank k.
  abbrev end₁ : ℕ → ℕ
  end₁ k = get_or as₁ (get_or ranks k 0) 0

  abbrev end₂ : ℕ → ℕ
  end₂ k = get_or as₂ (get_or ranks k 0) 0

  -- Both have been reached.
  abbrev Ends : ℕ → Rooted → Type 0
  Ends k st = (st.reached (end₁ k) ≡ true) × (st.reached (end₂ k) ≡ true)

  -- So have those of every tree edge on a path.
  abbrev pub Known : Rooted → Type 0
  Known st = (w k : ℕ) → st.path w k ≡ true → Ends k st

  module _ (u v k : ℕ) (st : Rooted) where
    ends_attach : (j : ℕ) → Ends j st → Ends j (attach u v k st)
    ends_attach j h = (put_kept st.reached v (end₁ j) h.0, put_kept st.reached v (end₂ j) h.1)

    known_attach : Ends k (attach u v k st) → Known st → Known (attach u v k st)
    known_attach ends h w j =
        cond_both (λ (path : ℕ → Bool). path j ≡ true → Ends j (attach u v k st)) (eqb v w) _ (st.path w)
        (λ _ on. elim (ℕ_discrete j k) [
          | yes e ↦ rw e ends
          | no d ↦ ends_attach j (h u j (sym (put_other (st.path u) k (not (st.path u k)) j d) ∙ on))
        ])
        (λ _ on. ends_attach j (h w j on))

  module _ (k : ℕ) (st : Rooted) where
    ends_tried : (j : ℕ) → Ends j st → Ends j (tried_rank ranks as₁ as₂ k st)
    ends_tried j h =
        tried_keeps (end₁ k) (end₂ k) k st (Ends j) h
        (λ _. ends_attach (end₁ k) (end₂ k) k st j h) (λ _. ends_attach (end₂ k) (end₁ k) k st j h)

    known_tried : Known st → Known (tried_rank ranks as₁ as₂ k st)
    known_tried h =
        tried_keeps (end₁ k) (end₂ k) k st Known h
        (λ p. known_attach (end₁ k) (end₂ k) k st (put_kept st.reached (end₂ k) (end₁ k) p, put_same st.reached (end₂ k) true) h)
        (λ q. known_attach (end₂ k) (end₁ k) k st (put_same st.reached (end₁ k) true, put_kept st.reached (end₁ k) (end₂ k) q) h)

  module _ (word : ℕ) (st : Rooted) (h : Known st) where
    pub known_word : Known (tried_word word ranks as₁ as₂ st)
    known_word =
        scan_keeps (only (bit word) (tried_rank ranks as₁ as₂)) Known 64 0 st h
        (λ k s _ _ p. cond_both Known (bit word k) _ s (λ _. known_tried k s p) (λ _. p))

    -- The ranks on a node's own path left out of a word.
    pub own_out :
        (all v : ℕ) → ((j : ℕ) → bit word j ≡ (bit all j && not (st.path v j)))
        → tried_word word ranks as₁ as₂ st ≡ tried_word all ranks as₁ as₂ st
    own_out all v out = scan_alike _ _ Own 64 0 st (h v) (λ k s _ _ p. (turn k s p, kept k s p))
      where
        Own : Rooted → Type 0
        Own s = (k : ℕ) → st.path v k ≡ true → Ends k s

        turn : (k : ℕ) (s : Rooted) → Own s → only (bit word) (tried_rank ranks as₁ as₂) k s
            ≡ only (bit all) (tried_rank ranks as₁ as₂) k s
        turn k s p = rw (out k) (left_out (bit all k) (st.path v k) _ s
            (λ on. tried_both (end₁ k) (end₂ k) k s (p k on).0 (p k on).1))

        kept : (k : ℕ) (s : Rooted) → Own s → Own (only (bit all) (tried_rank ranks as₁ as₂) k s)
        kept k s p j on = cond_both (Ends j) (bit all k) _ s (λ _. ends_tried k s j (p j on)) (λ _. p j on)
