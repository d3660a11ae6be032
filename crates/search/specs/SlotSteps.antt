-- What each change of the arrays is in the model, and each way out of `try_slot` meets the model's. Assumes nothing.
use Rattle.std.specs.Prelude.{ℕ, suc, ◌+◌, ◌*◌, ◌/◌, ◌%◌, ◌<◌, ◌≡◌, refl, ◌≢◌, Bool, true, false, cond, not, ◌&&◌, ◌||◌, List, eqb, length, get_or, set}
use Rattle.std.proofs.Math.Decide.{ℕ_discrete, dec_lt}
use Rattle.std.proofs.Common.{arith, sym, ap, ◌∙◌, length-set, get_or-set_same, get_or-set_other, lt-ltb, le-ltb}
use Rattle.std.proofs.Math.Path.{fun_ext}
use Rattle.loops.specs.Loop.{put}
use Rattle.loops.specs.TestLaws.{clash}
use Rattle.loops.specs.PutLaws.{put_same, put_other, put_less}
use Rattle.bits.specs.Bit.{bit}
use Rattle.bits.specs.BitLaws.{bit_zero}
use Rattle.bits.specs.ChangeLaws.{added}
use Rattle.graph.specs.Graph.{count}
use Rattle.graph.specs.CountLaws.{count_put}
use Rattle.optimum.specs.Search.{Search, reach, halt, try_tree}
use Rattle.search.specs.Board.{first_part, board_over, slots_over, from_of, by_of, state_of, board_tree, Ready, Kept, TreeTried, SlotTried}

-- Arrays with the same first parts are the same board.
part_same : (xs ys : List ℕ) → ((i : ℕ) → i < 64 → get_or ys i 0 ≡ get_or xs i 0) → first_part ys ≡ first_part xs
part_same xs ys h =
    fun_ext (λ i. elim (dec_lt i 64) [ yes l ↦ rw (lt-ltb i 64 l) (h i l) | no l ↦ rw (le-ltb i 64 (omega arith)) ])

pub board_kept : (words links words' links' : List ℕ) → Kept words links words' links' → board_tree words' links' ≡ board_tree words links
board_kept words links words' links' h =
    ap (λ (rows : ℕ → ℕ). try_tree (board_over rows) (slots_over (first_part links'))) (part_same words words' h.rows)
    ∙ ap (λ (tree_of : ℕ → ℕ). try_tree (board_over (first_part words)) (slots_over tree_of)) (part_same links links' h.partners)

pub kept_both :
    (words links words₁ links₁ words₂ links₂ : List ℕ) → Kept words links words₁ links₁ → Kept words₁ links₁ words₂ links₂
    → Kept words links words₂ links₂
kept_both words links words₁ links₁ words₂ links₂ a b =
    record {
      words_length = b.words_length;
      links_length = b.links_length;
      rows = λ t l. b.rows t l ∙ a.rows t l;
      partners = λ k l. b.partners k l ∙ a.partners k l;
    }

-- A way back written.
way_set :
    (f : ℕ → ℕ) (links : List ℕ) (u x : ℕ) → 64 + u < length links
    → ◌≡◌ {A = ℕ → ℕ} (λ j. f (get_or (set links (64 + u) x) (64 + j) 0)) (put (λ j. f (get_or links (64 + j) 0)) u (f x))
way_set f links u x l =
    fun_ext (λ j. elim (ℕ_discrete j u) [
      | yes e ↦ rw e (ap f (get_or-set_same links (64 + u) x 0 l) ∙ sym (put_same (λ j. f (get_or links (64 + j) 0)) u (f x)))
      | no d ↦
          ap f (get_or-set_other links (64 + u) (64 + j) x 0 (λ e. d (omega arith)))
          ∙ sym (put_other (λ j. f (get_or links (64 + j) 0)) u (f x) j d)
    ])

-- A slot taken out.
module _ (S T : ℕ → Bool) (k : ℕ) (out : (j : ℕ) → T j ≡ (S j && not (eqb k j))) where
  taken : T ≡ put S k false
  taken = fun_ext (λ j. out j ∙ off (S j) (eqb k j))
    where
      off : (b e : Bool) → (b && not e) ≡ cond e false b
      off true true = refl
      off true false = refl
      off false true = refl
      off false false = refl

  taken_old : (j : ℕ) → T j ≡ true → (j ≢ k) × (S j ≡ true)
  taken_old j h = put_less S k j (sym (ap (λ (f : ℕ → Bool). f j) taken) ∙ h)

  pub taken_fewer : k < 64 → S k ≡ true → suc (count 64 T) ≡ count 64 S
  taken_fewer l h = rw taken (omega (arith, rw h at (count_put 64 S k false l)))

-- Slot k is live, and its tree rank is marked.
pub record Entered (t k live : ℕ) (words links : List ℕ) (seen₁ : ℕ) : Type 0 where
  pub ready : Ready t words links
  pub slot : k < 64
  pub on : bit live k ≡ true
  pub marked : (j : ℕ) → bit seen₁ j ≡ (bit (get_or words 64 0) j || eqb (get_or links k 0) j)

-- Slot k, tried from tree rank t, leads to its own tree rank.
module _ (t k live : ℕ) (words links : List ℕ) (seen₁ : ℕ) (en : Entered t k live words links seen₁) where
  abbrev u : ℕ
  u = get_or links k 0

  abbrev words₁ : List ℕ
  words₁ = set words 64 seen₁

  abbrev links₁ : List ℕ
  links₁ = set links (64 + u) (64 * k + t)

  abbrev stop : ℕ → Bool
  stop = bit (get_or words 65 0)

  reach_kept : Kept words links words₁ links₁
  reach_kept =
      record {
        words_length = length-set words 64 seen₁ ∙ en.ready.words_length;
        links_length = length-set links (64 + u) (64 * k + t) ∙ en.ready.links_length;
        rows = λ i l. get_or-set_other words 64 i seen₁ 0 (λ e. omega arith);
        partners = λ i l. get_or-set_other links (64 + u) i (64 * k + t) 0 (λ e. omega arith);
      }

  reach_ends : get_or words₁ 65 0 ≡ get_or words 65 0
  reach_ends = get_or-set_other words 64 65 seen₁ 0 (λ e. omega arith)

  pub reach_ready : Ready u words₁ links₁
  reach_ready =
      record {
        rank = en.ready.below k en.slot;
        words_length = reach_kept.words_length;
        links_length = reach_kept.links_length;
        below = λ i l. rw (reach_kept.partners i l) (en.ready.below i l);
      }

  seen_reach : bit (get_or words₁ 64 0) ≡ put (bit (get_or words 64 0)) u true
  seen_reach =
      ap bit (get_or-set_same words 64 seen₁ 0 (omega (arith, en.ready.words_length)))
      ∙ added (bit (get_or words 64 0)) (bit seen₁) u en.marked

  room : 64 + u < length links
  room = omega (arith, en.ready.links_length, en.ready.below k en.slot)

  from_reach : from_of links₁ ≡ put (from_of links) u t
  from_reach =
      let low : (64 * k + t) % 64 ≡ t = omega (arith, en.ready.rank) in
      way_set (λ x. x % 64) links u (64 * k + t) room ∙ ap (put (from_of links) u) low

  by_reach : by_of links₁ ≡ put (by_of links) u k
  by_reach =
      let high : (64 * k + t) / 64 % 64 ≡ k = omega (arith, en.ready.rank, en.slot) in
      way_set (λ x. x / 64 % 64) links u (64 * k + t) room ∙ ap (put (by_of links) u) high

  -- The exploration ends there.
  pub slot_ends : bit (get_or words₁ 65 0) u ≡ true → SlotTried t k live words links words₁ links₁ 0
  slot_ends e =
      record {
        kept = reach_kept;
        ends = reach_ends;
        falls = λ j h. clash h (bit_zero j);
        equal = λ n m. rw (rw reach_ends at e) halted;
      }
    where
      halted : state_of words₁ links₁ 0 ≡ halt (reach t k u (state_of words links live))
      halted =
          let none : ◌≡◌ {A = ℕ → Bool} (bit 0) (λ _. false) = fun_ext bit_zero in
          λ i. record { live = none i; seen = seen_reach i; from = from_reach i; by = by_reach i }

  -- It goes on from there.
  module _ (live₁ : ℕ) (out : (j : ℕ) → bit live₁ j ≡ (bit live j && not (eqb k j))) where
    state_reach : state_of words₁ links₁ live₁ ≡ reach t k u (state_of words links live)
    state_reach =
        let less : bit live₁ ≡ put (bit live) k false = taken (bit live) (bit live₁) k out in
        λ i. record { live = less i; seen = seen_reach i; from = from_reach i; by = by_reach i }

    pub slot_leads :
        bit (get_or words₁ 65 0) u ≡ false → (words₂ links₂ : List ℕ) (live₂ : ℕ)
        → TreeTried u live₁ words₁ links₁ words₂ links₂ live₂ → SlotTried t k live words links words₂ links₂ live₂
    slot_leads e words₂ links₂ live₂ r =
        record {
          kept = kept_both words links words₁ links₁ words₂ links₂ reach_kept r.kept;
          ends = r.ends ∙ reach_ends;
          falls = λ j g. taken_old (bit live) (bit live₁) k out j (r.falls j g);
          equal = λ n m. rw (rw reach_ends at e) (r.equal n (omega (arith, taken_fewer (bit live) (bit live₁) k out en.slot en.on)) ∙ on n);
        }
      where
        on :
            (n : ℕ)
            → board_tree words₁ links₁ (bit (get_or words₁ 65 0)) n u (state_of words₁ links₁ live₁)
            ≡ board_tree words links stop n u (reach t k u (state_of words links live))
        on n =
            ap (λ (x : ℕ). board_tree words₁ links₁ (bit x) n u (state_of words₁ links₁ live₁)) reach_ends
            ∙ ap (λ (f : (ℕ → Bool) → ℕ → ℕ → Search → Search). f stop n u (state_of words₁ links₁ live₁))
            (board_kept words links words₁ links₁ reach_kept)
            ∙ ap (board_tree words links stop n u) state_reach
