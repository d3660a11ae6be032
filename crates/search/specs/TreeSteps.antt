-- The loop over the slots of a tree rank: what each turn does in the model, and what the loop comes to. Assumes nothing.
use Prim.Native.Nat.{ℕ, zero, suc, ◌^◌, ◌≤◌, ◌<◌}
use Rattle.std.proofs.Common.{arith, sym, ap, ◌∙◌}
use Rattle.std.specs.Prelude.{◌≡◌, Bool, true, false, ◌&&◌, List, get_or}
use Rattle.std.proofs.Math.Path.{refl}
use borrow.Author.Tests.{lt-ltb, le-ltb}
use Rattle.loops.specs.Loop.{put, last}
use Rattle.loops.specs.TestLaws.{and_second}
use Rattle.loops.specs.PutLaws.{put_other}
use Rattle.loops.specs.FirstLaws.{Last, last_same, last_none}
use Rattle.bits.specs.Bit.{bit}
use Rattle.bits.specs.BitLaws.{bit_zero, last_set}
use Rattle.graph.specs.Graph.{count}
use Rattle.graph.specs.CountLaws.{count_put, count_within}
use Rattle.optimum.specs.Search.{Problem, Slots, Search, reach, enter, next_slot, try_tree}
use Rattle.search.specs.Board.{first_part, board_of, slots_of, state_of, board_tree, Ready, Kept, TreeTried, SlotTried}
use Rattle.search.specs.SlotSteps.{board_kept, kept_both}

-- One turn of the model's loop.
module _ (p : Problem) (q : Slots) (ends : ℕ → Bool) (n t : ℕ) (st : Search) where
  pub turn_none : next_slot p q t st ≡ q.slots → try_tree p q ends (suc n) t st ≡ st
  unfolding try_tree
  turn_none e = rw (e, le-ltb q.slots q.slots (omega arith))

  pub turn_some :
      (k : ℕ) → next_slot p q t st ≡ k → k < q.slots
      → try_tree p q ends (suc n) t st
      ≡ try_tree p q ends n t (enter ends (try_tree p q ends n) (q.tree_of k) (reach t k (q.tree_of k) st))
  unfolding try_tree
  turn_some k e l = rw (e, lt-ltb k q.slots l)

-- The loop over the slots of tree rank t: the model, run on the present state, gives what it gives on the first.
pub record Passing (t live₀ : ℕ) (words₀ links₀ words links : List ℕ) (live : ℕ) : Type 0 where
  pub kept : Kept words₀ links₀ words links
  pub ends : get_or words 65 0 ≡ get_or words₀ 65 0
  pub falls : (j : ℕ) → bit live j ≡ true → bit live₀ j ≡ true
  pub same :
      (n : ℕ) → count 64 (bit live₀) ≤ n
      → (m : ℕ) × (count 64 (bit live) ≤ m)
      × (board_tree words₀ links₀ (bit (get_or words₀ 65 0)) n t (state_of words₀ links₀ live₀)
      ≡ board_tree words₀ links₀ (bit (get_or words₀ 65 0)) m t (state_of words links live))

-- Slot k is the last live slot over tree rank t.
pub record Picked (t : ℕ) (words : List ℕ) (live k : ℕ) : Type 0 where
  pub within : k < 64
  pub on : bit live k ≡ true
  pub top : k ≡ last 64 (λ j. bit (get_or words t 0) j && bit live j) 64

pub picked :
    (t : ℕ) (words : List ℕ) (live over : ℕ) → ((j : ℕ) → bit over j ≡ (bit (get_or words t 0) j && bit live j)) → (over ≡ 0 → ⊥)
    → over < 2 ^ 64 → (k : ℕ) → k ≡ last 64 (bit over) 64 → Picked t words live k
picked t words live over meet some word k is =
    let top : Last 64 (bit over) k = rw is (last_set 64 over (omega arith) word) in
    record {
      within = top.within;
      on = and_second (bit (get_or words t 0) k) (bit live k) (sym (meet k) ∙ top.hit);
      top = is ∙ last_same 64 (bit over) (λ j. bit (get_or words t 0) j && bit live j) 64 (λ j _. meet j);
    }

module _ (t : ℕ) (words₀ links₀ : List ℕ) (ready : Ready t words₀ links₀) where
  abbrev stop : ℕ → Bool
  stop = bit (get_or words₀ 65 0)

  abbrev run : ℕ → Search → Search
  run n = board_tree words₀ links₀ stop n t

  abbrev next : Search → ℕ
  next = next_slot (board_of words₀) (slots_of links₀) t

  pub passing_start : (live : ℕ) → Passing t live words₀ links₀ words₀ links₀ live
  passing_start live =
      record {
        kept =
            record {
              words_length = ready.words_length;
              links_length = ready.links_length;
              rows = λ i l. refl;
              partners = λ i l. refl;
            };
        ends = refl;
        falls = λ j h. h;
        same = λ n m. (n, m, refl);
      }

  none_left : (st : Search) → next st ≡ 64 → (m : ℕ) → run m st ≡ st
  unfolding try_tree
  none_left st e zero = refl
  none_left st e (suc m) = turn_none (board_of words₀) (slots_of links₀) stop m t st e

  some_left :
      (st : Search) (k : ℕ) → next st ≡ k → k < 64 → (m : ℕ)
      → run (suc m) st ≡ run m (enter stop (board_tree words₀ links₀ stop m) (get_or links₀ k 0) (reach t k (get_or links₀ k 0) st))
  some_left st k e l m = rw (lt-ltb k 64 l) at (turn_some (board_of words₀) (slots_of links₀) stop m t st k e l)

  -- The present state.
  module _ (live₀ : ℕ) (words links : List ℕ) (live : ℕ) (i : Passing t live₀ words₀ links₀ words links live) where
    -- What the slot that is tried needs.
    pub passing_ready : Ready t words links
    passing_ready =
        record {
          rank = ready.rank;
          words_length = i.kept.words_length;
          links_length = i.kept.links_length;
          below = λ k l. rw (i.kept.partners k l) (ready.below k l);
        }

    -- The slots over t are those at entry.
    over_kept : (j : ℕ) → (bit (first_part words₀ t) j && bit live j) ≡ (bit (get_or words t 0) j && bit live j)
    over_kept j = rw (lt-ltb t 64 ready.rank, i.kept.rows t ready.rank)

    pub passing_end :
        (over : ℕ) → ((j : ℕ) → bit over j ≡ (bit (get_or words t 0) j && bit live j)) → over ≡ 0
        → TreeTried t live₀ words₀ links₀ words links live
    passing_end over meet z =
        record {
          kept = i.kept;
          ends = i.ends;
          falls = i.falls;
          equal = λ n m. let (a, b, c) = i.same n m in sym (c ∙ none_left (state_of words links live) empty a);
        }
      where
        empty : next (state_of words links live) ≡ 64
        empty =
            last_none 64 (λ j. bit (first_part words₀ t) j && bit live j) 64
            (λ j _. over_kept j ∙ sym (meet j) ∙ rw z (bit_zero j))

    -- A slot is picked and tried.
    module _
        (k : ℕ)
        (pick : Picked t words live k)
        (words₂ links₂ : List ℕ)
        (live₂ : ℕ)
        (r : SlotTried t k live words links words₂ links₂ live₂)
      where
        found : next (state_of words links live) ≡ k
        found =
            last_same 64 (λ j. bit (first_part words₀ t) j && bit live j) (λ j. bit (get_or words t 0) j && bit live j) 64 (λ j _. over_kept j)
            ∙ sym pick.top

        pub passing_less : count 64 (bit live₂) < count 64 (bit live)
        passing_less =
            omega (
              arith,
              rw pick.on at (count_put 64 (bit live) k false pick.within),
              count_within 64 (bit live₂) (put (bit live) k false)
                  (λ j _ h. rw (put_other (bit live) k false j (r.falls j h).0) (r.falls j h).1),
            )

        -- The slot's result, over the arrays at entry.
        slot_result :
            (n : ℕ) → count 64 (bit live) ≤ suc n
            → state_of words₂ links₂ live₂ ≡ enter stop (board_tree words₀ links₀ stop n) (get_or links₀ k 0)
            (reach t k (get_or links₀ k 0) (state_of words links live))
        slot_result n m =
            rw (i.ends, i.kept.partners k pick.within) at (r.equal n m)
            ∙ ap (λ (f : (ℕ → Bool) → ℕ → ℕ → Search → Search). enter stop (f stop n) (get_or links₀ k 0)
            (reach t k (get_or links₀ k 0) (state_of words links live)))
            (board_kept words₀ links₀ words links i.kept)

        pub passing_turn : Passing t live₀ words₀ links₀ words₂ links₂ live₂
        passing_turn =
            record {
              kept = kept_both words₀ links₀ words links words₂ links₂ i.kept r.kept;
              ends = r.ends ∙ i.ends;
              falls = λ j h. i.falls j (r.falls j h).1;
              same = λ n m. let (a, b, c) = i.same n m in on n a b c;
            }
          where
            on :
                (n a : ℕ) → count 64 (bit live) ≤ a → run n (state_of words₀ links₀ live₀) ≡ run a (state_of words links live)
                → (m : ℕ) × (count 64 (bit live₂) ≤ m) × (run n (state_of words₀ links₀ live₀) ≡ run m (state_of words₂ links₂ live₂))
            on n zero b c = absurd (omega (arith, passing_less))
            on n (suc a) b c = (
              a,
              omega (arith, passing_less),
              c ∙ some_left (state_of words links live) k found pick.within a ∙ ap (run a) (sym (slot_result a b)),
            )
