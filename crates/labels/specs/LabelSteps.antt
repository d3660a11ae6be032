-- The steps of the code: what one origin labels, and the loop over spare ranks. Assumes nothing.
use Rattle.std.specs.Prelude.{ℕ, suc, ◌+◌, ◌-◌, ◌≤◌, ◌<◌, ◌≡◌, refl, ◌≢◌, Bool, true, false, cond, not, ◌&&◌, List, leb, ltb, eqb, length, get_or}
use Rattle.std.proofs.Common.{arith, sym, ap, ◌∙◌}
use Rattle.std.proofs.Math.Path.{fun_ext}
use Rattle.std.proofs.Math.Bool.{and-false}
use Rattle.loops.specs.Loop.{put}
use Rattle.loops.specs.PutLaws.{put_less}
use Rattle.bits.specs.Bit.{bit}
use Rattle.graph.specs.Rank.{cost_at}
use Rattle.optimum.specs.Search.{Problem, Slots, spare_slot, never, search}
use Rattle.optimum.proofs.SearchLaws.{search_closed}
use Rattle.optimum.specs.Lowest.{Marks, marked, label_slot, label_from}
use Rattle.search.specs.Board.{Ready, Kept, Explored}
use Rattle.search.specs.SlotSteps.{kept_both}
use Rattle.search.specs.BoardLaws.{Fits, explored_all}
use Rattle.labels.specs.Labels.{marks_of, AreSlots, LabelPut, LabelRoom, LabelledFrom, HoldsSpare, SpareLabelled, SparesLabelled}
use Rattle.labels.specs.TurnLaws.{from_spare, slot_origin, slot_idle}

-- What is kept is still of use.
pub kept_all : (words links label : List ℕ) → LabelRoom words links label → Kept words links words links
kept_all words links label r =
    record { words_length = r.words_length; links_length = r.links_length; rows = λ t l. refl; partners = λ k l. refl }

pub room_ready : (t : ℕ) (words links label : List ℕ) → t < 64 → LabelRoom words links label → Ready t words links
room_ready t words links label l r =
    record { rank = l; words_length = r.words_length; links_length = r.links_length; below = r.partners }

module _ (words links words' links' : List ℕ) (h : Kept words links words' links') where
  pub room_kept : (label label' : List ℕ) → LabelRoom words links label → length label' ≡ 64 → LabelRoom words' links' label'
  room_kept label label' r s =
      record {
        words_length = h.words_length;
        links_length = h.links_length;
        label_length = s;
        partners = λ k l. rw (h.partners k l) (r.partners k l);
      }

  pub fits_kept : (p : Problem) (q : Slots) → Fits p q words links → Fits p q words' links'
  fits_kept p q f =
      record {
        few = f.few;
        ranks = f.ranks;
        covered = λ t k l m. rw (h.rows t (omega (arith, f.ranks))) (f.covered t k l m);
        own = λ k l. f.own k l ∙ sym (h.partners k (omega (arith, f.few)));
        below = f.below;
      }

-- An exploration over, and its slots labelled.
pub labelled_from :
    (t x live left : ℕ) (words links label words' links' : List ℕ) (after : ℕ) → Explored t left 0 words links words' links' after
    → (gone : ℕ) → ((j : ℕ) → bit gone j ≡ (bit live j && not (bit after j))) → (label' : List ℕ) → LabelPut gone x label label'
    → LabelledFrom t x live left words links label words' links' label' after
labelled_from t x live left words links label words' links' after e gone lost label' f =
    record {
      kept = e.kept;
      size = f.size;
      equal = λ p q fits l low.
          let found : bit after ≡ (search p q never (bit left) t).live =
          (explored_all p q words links fits t left l low words' links' after e).live in
          let same : (λ k. get_or label' k 0) ≡ (marked x (search p q never (bit left) t) (marks_of live label)).label =
          fun_ext (λ k. f.at k ∙ ap (λ b. cond b x (get_or label k 0))
          (lost k ∙ ap (λ (S : ℕ → Bool). bit live k && not (S k)) found)) in (
            λ k h. low k ((search_closed p q never (bit left) t).falls k (sym (ap (λ (S : ℕ → Bool). S k) found) ∙ h)),
            λ i. record { live = found i; label = same i },
          );
    }

-- Spare rank s as an origin.
module _ (s live : ℕ) (cost ss cols slot words links label : List ℕ) (room : LabelRoom words links label) where
  stays :
      ((p : Problem) (q : Slots) → HoldsSpare p q s cost ss cols slot
      → (ltb (spare_slot q s) q.slots && bit live (spare_slot q s)) ≡ false)
      → SpareLabelled s live cost ss cols slot words links label words links label live
  stays h =
      record {
        kept = kept_all words links label room;
        size = room.label_length;
        equal = λ p q fits is low. (low, sym (slot_idle p q s (spare_slot q s) (marks_of live label) (h p q is)));
      }

  pub spare_without : get_or cols s 0 ≢ 0 → SpareLabelled s live cost ss cols slot words links label words links label live
  spare_without d = stays (λ p q is. rw (is.without d))

  module _ (z : get_or cols s 0 ≡ 0) where
    abbrev k : ℕ
    k = get_or slot s 0

    pub spare_done : bit live k ≡ false → SpareLabelled s live cost ss cols slot words links label words links label live
    spare_done h = stays (λ p q is. rw ((is.own z).0, h) (and-false (ltb k q.slots)))

    pub spare_labelled :
        bit live k ≡ true → (x : ℕ) → x ≡ cost_at cost ss s → (live₁ : ℕ)
        → ((j : ℕ) → bit live₁ j ≡ (bit live j && not (eqb k j)))
        → (words' links' label' : List ℕ) (live' : ℕ) → LabelledFrom (get_or links k 0) x live live₁ words links label
        words' links' label' live'
        → SpareLabelled s live cost ss cols slot words links label words' links' label' live'
    spare_labelled h x xe live₁ out words' links' label' live' f =
        record {
          kept = f.kept;
          size = f.size;
          equal = λ p q fits is low.
              let m : Marks = marks_of live label in
              let l : k < q.slots = rw (is.own z).0 at (is.own z).1 in
              let low₁ : AreSlots q live₁ = λ j g. low j
              (put_less (bit live) k j (sym (ap (λ (S : ℕ → Bool). S j) less) ∙ g)).1 in
              let r = f.equal p q fits (rw (fits.own k l) at (fits.below k l)) low₁ in (
                r.0,
                r.1
                    ∙ ap (λ (S : ℕ → Bool). marked x (search p q never S (get_or links k 0)) m) less
                    ∙ ap (λ (u : ℕ). marked x (search p q never (put (bit live) k false) u) m) (sym (fits.own k l))
                    ∙ ap (λ (y : ℕ). marked y (search p q never (put (bit live) k false) (q.tree_of k)) m) (xe ∙ sym is.costs)
                    ∙ sym (slot_origin p q s k m l h)
                    ∙ ap (λ (j : ℕ). label_slot p q s j m) (sym (is.own z).0),
              );
        }
      where
        less : bit live₁ ≡ put (bit live) k false
        less = fun_ext (λ j. out j ∙ off (bit live j) (eqb k j))
          where
            off : (b e : Bool) → (b && not e) ≡ cond e false b
            off true true = refl
            off true false = refl
            off false true = refl
            off false false = refl

-- The loop over spare ranks.
module _ (left₀ live₀ least : ℕ) (cost ss cols slot words₀ links₀ label₀ : List ℕ) where
  abbrev Sparing : List ℕ → List ℕ → List ℕ → ℕ → ℕ → Type 0
  Sparing = SparesLabelled left₀ live₀ least cost ss cols slot words₀ links₀ label₀

  pub sparing_start : LabelRoom words₀ links₀ label₀ → Sparing words₀ links₀ label₀ left₀ live₀
  sparing_start room =
      record {
        kept = kept_all words₀ links₀ label₀ room;
        size = room.label_length;
        fewer = omega arith;
        equal = λ p q fits held low. (low, λ n t b. refl);
      }

  pub sparing_turn :
      (words links label : List ℕ) (left live : ℕ) → Sparing words links label left live → 0 < left → least
      ≤ cost_at cost ss (left - 1)
      → (words' links' label' : List ℕ) (live' : ℕ) → SpareLabelled (left - 1) live cost ss cols slot words links label
      words' links' label' live'
      → Sparing words' links' label' (left - 1) live'
  sparing_turn words links label left live h some dear words' links' label' live' f =
      record {
        kept = kept_both words₀ links₀ words links words' links' h.kept f.kept;
        size = f.size;
        fewer = omega (arith, h.fewer);
        equal = λ p q fits held low.
            let (a, b) = h.equal p q fits held low in
            let is : HoldsSpare p q (left - 1) cost ss cols slot = held (left - 1) (omega (arith, h.fewer)) in
            let (c, d) = f.equal p q (fits_kept words₀ links₀ words links h.kept p q fits) is a in
            (c, λ n t before. next p q n t (before (p.spare_cost (left - 1)) (rw is.costs dear)) d ∙ b n t before);
      }
    where
      next :
          (p : Problem) (q : Slots) (n t : ℕ) → (ltb t p.trees && leb (p.spare_cost (left - 1)) (p.tree_cost t)) ≡ false
          → marks_of live' label' ≡ label_slot p q (left - 1) (spare_slot q (left - 1)) (marks_of live label)
          → label_from p q (n + (left - 1)) t (left - 1) (marks_of live' label')
          ≡ label_from p q (n + left) t left (marks_of live label)
      next p q n t first d =
          let one : left ≡ suc (left - 1) = omega arith in
          let more : n + left ≡ suc (n + (left - 1)) = omega arith in
          ap (label_from p q (n + (left - 1)) t (left - 1)) d
          ∙ sym (from_spare p q (n + (left - 1)) t (left - 1) (marks_of live label) first)
          ∙ ap (λ (s : ℕ). label_from p q (suc (n + (left - 1))) t s (marks_of live label)) (sym one)
          ∙ ap (λ (y : ℕ). label_from p q y t left (marks_of live label)) (sym more)
