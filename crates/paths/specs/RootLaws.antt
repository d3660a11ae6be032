-- Laws of the search from node 0, in the shape of the code: the start, one round, the end; what it comes to does not depend on
-- how many links the arrays hold and how they are marked; and the ranks on the paths are below the number of ranks. Assumes nothing.
use Prim.Native.Nat.{ℕ, zero, suc, ◌+◌, ◌-◌, ◌*◌, ◌^◌, ◌≤◌, ◌<◌}
use Rattle.std.proofs.Math.Decide.{ℕ_discrete}
use native.Mathlib.Omega.{arith}
use Rattle.std.specs.Prelude.{◌≡◌, Bool, true, false, not, cond, ◌&&◌, ◌||◌, List, [], ltb, eqb, length, get_or, take, replicate}
use Rattle.std.proofs.Math.Path.{refl, ap, fun_ext}
use Rattle.std.proofs.Common.{sym, subst, ◌∙◌, inl, inr, length-take-le, get_or-take}
use Rattle.std.specs.Bool.{xor}
use borrow.Author.Tests.{eqb-true, eq-eqb, ne_eqb, lt-ltb, le-ltb}
use Rattle.loops.specs.Loop.{scan, put, first}
use Rattle.loops.specs.Below.{choose}
use Rattle.loops.specs.PutLaws.{put_same, put_other, put_split}
use Rattle.loops.specs.ScanLaws.{scan_keeps}
use Rattle.loops.specs.FirstLaws.{First, first_found}
use Rattle.loops.specs.TestLaws.{clash, cond_both, choose_both, and_first}
use Rattle.bits.specs.Bit.{bit}
use Rattle.bits.specs.BitLaws.{bit_zero, bit_power}
use Rattle.bits.specs.ChangeLaws.{added}
use Rattle.graph.specs.Graph.{Graph}
use Rattle.graph.specs.Paths.{Rooted, root, attach, grow, touches, try_at, expand, waits, expand_all, rooted, is_tree, covers_rank}
use Rattle.paths.specs.declared.Front.{Front}
use Rattle.adjacency.specs.Words.{RankedEnds, Adjacency}
use Rattle.paths.specs.Arrays.{array_graph, paths, across, held, Walked, tried_word}
use Rattle.paths.specs.GrowLaws.{tried_keeps, tried_few}
use Rattle.adjacency.specs.AdjacencyLaws.{none_held}
use Rattle.paths.specs.WordLaws.{lowest_set, lowest_before}
use Rattle.paths.specs.ExpandLaws.{word_expands}
use Rattle.paths.specs.OwnLaws.{Known, known_word, own_out}

-- ---- a round of the model

module _ (g : Graph) (ranks : List ℕ) where
  -- What attaching a node keeps, expanding one keeps.
  expand_keeps :
      (P : Rooted → Type 0) (v : ℕ) (st : Rooted) → P st
      → ((k : ℕ) (s : Rooted) → k < length ranks → P s → P (attach (g.end₁ (get_or ranks k 0)) (g.end₂ (get_or ranks k 0)) k s))
      → ((k : ℕ) (s : Rooted) → k < length ranks → P s → P (attach (g.end₂ (get_or ranks k 0)) (g.end₁ (get_or ranks k 0)) k s))
      → P (expand g ranks v st)
  unfolding grow
  expand_keeps P v st start forth back =
      scan_keeps (try_at g ranks v) P (length ranks) 0 st start
      (λ k s a b p. cond_both P (touches g ranks v k) _ _
      (λ _. tried_keeps (g.end₁ (get_or ranks k 0)) (g.end₂ (get_or ranks k 0)) k s P p (λ _. forth k s (omega arith) p)
      (λ _. back k s (omega arith) p))
      (λ _. p))

  scan_few : (v turns i : ℕ) (st : Rooted) → (scan (try_at g ranks v) turns i st).found ≤ st.found + turns
  unfolding scan grow
  scan_few v zero i st = omega arith
  scan_few v (suc turns) i st =
      omega (
        arith,
        scan_few v turns (suc i) (try_at g ranks v i st),
        cond_both (λ (s : Rooted). s.found ≤ st.found + 1) (touches g ranks v i) (grow g ranks i st) st
            (λ _. tried_few (g.end₁ (get_or ranks i 0)) (g.end₂ (get_or ranks i 0)) i st) (λ _. omega arith),
      )

  round_last :
      (rounds : ℕ) (done : ℕ → Bool) (st : Rooted) → ((v : ℕ) → waits done st v ≡ false) → expand_all g ranks rounds done st ≡ st
  unfolding expand_all
  round_last zero done st none = refl
  round_last (suc rounds) done st none =
      let f : First g.nodes (waits done st) g.nodes = record
      { within = omega arith; before = λ i l. none i; hit = λ l. absurd (omega arith) } in
      rw (first_found f, le-ltb g.nodes g.nodes (omega arith))

  round_more :
      (rounds : ℕ) (done : ℕ → Bool) (st : Rooted) (v : ℕ) → 0 < rounds → v < g.nodes → First g.nodes (waits done st) v
      → expand_all g ranks rounds done st ≡ expand_all g ranks (rounds - 1) (put done v true) (expand g ranks v st)
  unfolding expand_all
  round_more zero done st v some l f = absurd (omega arith)
  round_more (suc rounds) done st v some l f =
      let left : suc rounds - 1 ≡ rounds = omega arith in
      rw (first_found f, lt-ltb v g.nodes l, left)

-- The links of the arrays, as many as there is room for, all of them plugged.
abbrev room_graph : ℕ → List ℕ → List ℕ → Graph
room_graph nodes as₁ as₂ = array_graph nodes 256 as₁ as₂ []

-- How many they are, and how they are marked, is all one.
all_alike :
    (nodes edges : ℕ) (as₁ as₂ as₄ ranks : List ℕ) (rounds : ℕ) (done : ℕ → Bool) (st : Rooted)
    → expand_all (room_graph nodes as₁ as₂) ranks rounds done st
    ≡ expand_all (array_graph nodes edges as₁ as₂ as₄) ranks rounds done st
unfolding expand_all grow
all_alike nodes edges as₁ as₂ as₄ ranks zero done st = refl
all_alike nodes edges as₁ as₂ as₄ ranks (suc rounds) done st =
    let v : ℕ = first nodes (waits done st) in
    ap (λ x. choose (ltb v nodes) (λ _. x) (λ _. st))
    (all_alike nodes edges as₁ as₂ as₄ ranks rounds (put done v true) (expand (room_graph nodes as₁ as₂) ranks v st))

-- ---- the rounds of the code

chosen : (t : Bool) → t ≡ cond t true false
chosen true = refl
chosen false = refl

root_held : (n : ℕ) → held (record { found = 1; reached = 1 }) (replicate n 0) ≡ root
root_held n =
    let nodes : bit 1 ≡ put (λ _. false) 0 true = fun_ext (λ j. bit_power 0 j ∙ chosen (eqb 0 j)) in
    let none : paths (replicate n 0) ≡ (λ _ _. false) = fun_ext
    (λ v. fun_ext (λ k. ap (λ w. bit w k) (none_held n v) ∙ bit_zero k)) in
    rw (nodes, none)

module _ (nodes count : ℕ) (ranks as₁ as₂ : List ℕ) where
  -- The loop has still to do so many rounds.
  pub record Rounds (rounds : ℕ) (front : Front) (done : ℕ) (mask : List ℕ) : Type 0 where
    pub few : front.found + 64 * rounds ≤ 1 + 64 * nodes
    pub places : length mask ≡ 64
    pub inside : 0 < nodes → (v : ℕ) → bit front.reached v ≡ true → v < nodes
    pub known : Known ranks as₁ as₂ (held front mask)
    pub rest :
        expand_all (room_graph nodes as₁ as₂) (take count ranks) rounds (bit done) (held front mask)
        ≡ rooted (room_graph nodes as₁ as₂) (take count ranks)

  pub rounds_start : Rounds nodes (record { found = 1; reached = 1 }) 0 (replicate 64 0)
  rounds_start =
      record {
        few = omega arith;
        places = refl;
        inside = λ some v b. omega (arith, eqb-true 0 v (sym (bit_power 0 v) ∙ b));
        known = λ w k on. clash on (ap (λ (st : Rooted). st.path w k) (root_held 64));
        rest = rw (root_held 64) (ap (λ d. expand_all (room_graph nodes as₁ as₂) (take count ranks) nodes d root)
            (fun_ext bit_zero));
      }

  walked :
      (front : Front) (mask : List ℕ) → length mask ≡ 64
      → held front mask ≡ rooted (room_graph nodes as₁ as₂) (take count ranks)
      → Walked nodes count ranks as₁ as₂ front.found mask
  walked front mask l e =
      let all : (edges : ℕ) (as₄ : List ℕ) → held front mask ≡ rooted (array_graph nodes edges as₁ as₂ as₄) (take count ranks) =
      λ edges as₄. e ∙ all_alike nodes edges as₁ as₂ as₄ (take count ranks) nodes (λ _. false) root in
      record {
        found = λ edges as₄. ap (λ (st : Rooted). st.found) (all edges as₄);
        paths = λ edges as₄. ap (λ (st : Rooted). st.path) (all edges as₄);
        places = l;
      }

  pub rounds_end :
      (rounds : ℕ) (front : Front) (done : ℕ) (mask : List ℕ) → Rounds rounds front done mask → rounds ≤ 0
      → Walked nodes count ranks as₁ as₂ front.found mask
  unfolding expand_all
  rounds_end zero front done mask h l = walked front mask h.places h.rest
  rounds_end (suc rounds) front done mask h l = absurd (omega arith)

  module _ (rounds : ℕ) (front : Front) (done : ℕ) (mask : List ℕ) (h : Rounds rounds front done mask) (l : 0 < rounds)
      (waiting : ℕ)
      (apart : (j : ℕ) → bit waiting j ≡ (bit front.reached j && not (bit done j))) where
    pub rounds_last : waiting ≡ 0 → Walked nodes count ranks as₁ as₂ front.found mask
    rounds_last e =
        walked front mask h.places
        (sym (round_last (room_graph nodes as₁ as₂) (take count ranks) rounds (bit done) (held front mask)
        (λ v. sym (apart v) ∙ rw e (bit_zero v))) ∙ h.rest)

    module _ (some : 0 < waiting) (fits : waiting < 2 ^ 64) (v : ℕ) (low : v ≡ first 64 (bit waiting)) where
      node_below : v < nodes
      node_below = h.inside (omega (arith, h.few)) v (and_first _ _ (sym (apart v) ∙ lowest_set waiting some fits v low))

      node_first : First nodes (waits (bit done) (held front mask)) v
      node_first =
          record {
            within = omega (arith, node_below);
            before = λ i b. sym (apart i) ∙ lowest_before waiting some fits v low i b;
            hit = λ _. sym (apart v) ∙ lowest_set waiting some fits v low;
          }

      module _ (ranked : RankedEnds nodes count ranks as₁ as₂) (adj : List ℕ) (words : Adjacency count ranks as₁ as₂ adj)
          (word : ℕ) (out : (j : ℕ) → bit word j ≡ (bit (get_or adj v 0) j && not (bit (get_or mask v 0) j)))
          (next : Front) (done' : ℕ) (mask' : List ℕ)
          (e : held next mask' ≡ tried_word word ranks as₁ as₂ (held front mask)) where
        expanded : held next mask' ≡ expand (room_graph nodes as₁ as₂) (take count ranks) v (held front mask)
        expanded =
            e ∙ own_out ranks as₁ as₂ word (held front mask) h.known (get_or adj v 0) v out
            ∙ word_expands count ranks as₁ as₂ adj ranked.few ranked.within words nodes 256 v [] (held front mask)

        still_inside : 0 < nodes → (w : ℕ) → bit next.reached w ≡ true → w < nodes
        still_inside some w b =
            expand_keeps (room_graph nodes as₁ as₂) (take count ranks) Inside v (held front mask) (h.inside some)
            (λ k s l. reached_inside s _ (rw (get_or-take count ranks k 0 (place k l)) (ranked.second k (place k l))))
            (λ k s l. reached_inside s _ (rw (get_or-take count ranks k 0 (place k l)) (ranked.first k (place k l))))
            w (sym (ap (λ (st : Rooted). st.reached w) expanded) ∙ b)
          where
            Inside : Rooted → Type 0
            Inside s = (x : ℕ) → s.reached x ≡ true → x < nodes

            reached_inside :
                (s : Rooted) (u : ℕ) → u < nodes → Inside s → (x : ℕ) → put s.reached u true x ≡ true → x < nodes
            reached_inside s u l p x r = elim (put_split s.reached u x r) [ inl q ↦ rw q l | inr o ↦ p x o ]

            place : (k : ℕ) → k < length (take count ranks) → k < count
            place k l = omega (arith, length-take-le count ranks ranked.within)

        pub rounds_more : length mask' ≡ 64 → ((j : ℕ) → bit done' j ≡ (bit done j || eqb v j))
            → Rounds (rounds - 1) next done' mask'
        rounds_more places with =
            record {
              few =
                  omega (
                    arith,
                    h.few,
                    ap (λ (st : Rooted). st.found) expanded,
                    ranked.few,
                    length-take-le count ranks ranked.within,
                    scan_few (room_graph nodes as₁ as₂) (take count ranks) v (length (take count ranks)) 0 (held front mask),
                  );
              places = places;
              inside = still_inside;
              known = subst (Known ranks as₁ as₂) (sym e) (known_word ranks as₁ as₂ word (held front mask) h.known);
              rest =
                  rw (expanded, added (bit done) (bit done') v with)
                  (sym (round_more (room_graph nodes as₁ as₂) (take count ranks) rounds (bit done) (held front mask) v l
                  node_below node_first)
                  ∙ h.rest);
            }

-- Nodes below 64 will do.
pub ranked_most : (nodes count : ℕ) (ranks as₁ as₂ : List ℕ) → RankedEnds nodes count ranks as₁ as₂
    → RankedEnds 64 count ranks as₁ as₂
ranked_most nodes count ranks as₁ as₂ h =
    record {
      small = omega arith;
      few = h.few;
      within = h.within;
      edge = h.edge;
      first = λ k l. omega (arith, h.small, h.first k l);
      second = λ k l. omega (arith, h.small, h.second k l);
    }

-- ---- question 6

module _ (nodes count : ℕ) (ranks as₁ as₂ : List ℕ) (within : count ≤ length ranks) (edges : ℕ) (as₄ : List ℕ) where
  pub tree_missed : (count + 1 ≡ nodes → ⊥) → is_tree (array_graph nodes edges as₁ as₂ as₄) (take count ranks) ≡ false
  tree_missed d = rw (length-take-le count ranks within, ne_eqb (suc count) nodes (λ e. d (omega arith)))

  pub tree_found :
      (r : ℕ) (mask : List ℕ) → count + 1 ≡ nodes → Walked nodes count ranks as₁ as₂ r mask
      → eqb r nodes ≡ is_tree (array_graph nodes edges as₁ as₂ as₄) (take count ranks)
  tree_found r mask e h = rw (length-take-le count ranks within, eq-eqb (suc count) nodes (omega arith), h.found edges as₄)

-- ---- the ranks on the paths

module _ (g : Graph) (ranks : List ℕ) where
  -- No rank past the last stands on a path.
  Below : Rooted → Type 0
  Below st = (v k : ℕ) → length ranks ≤ k → st.path v k ≡ false

  below_attach : (a b i : ℕ) (st : Rooted) → i < length ranks → Below st → Below (attach a b i st)
  unfolding Below
  below_attach a b i st l h v k m =
      elim (ℕ_discrete v b) [
        | yes e ↦
            rw e (ap (λ f. f k) (put_same st.path b (put (st.path a) i (not (st.path a i))))
            ∙ put_other (st.path a) i (not (st.path a i)) k (omega arith) ∙ h a k m)
        | no d ↦ ap (λ f. f k) (put_other st.path b (put (st.path a) i (not (st.path a i))) v d) ∙ h v k m
      ]

  below_expand : (v : ℕ) (st : Rooted) → Below st → Below (expand g ranks v st)
  below_expand v st h =
      expand_keeps g ranks Below v st h (λ k s l p. below_attach _ _ k s l p) (λ k s l p. below_attach _ _ k s l p)

  below_all : (rounds : ℕ) (done : ℕ → Bool) (st : Rooted) → Below st → Below (expand_all g ranks rounds done st)
  unfolding expand_all
  below_all zero done st h = h
  below_all (suc rounds) done st h =
      let v : ℕ = first g.nodes (waits done st) in
      choose_both Below (ltb v g.nodes) _ _
      (λ _. below_all rounds (put done v true) (expand g ranks v st) (below_expand v st h)) (λ _. h)

  pub path_below : (v k : ℕ) → length ranks ≤ k → (rooted g ranks).path v k ≡ false
  unfolding Below
  path_below = below_all g.nodes (λ _. false) root (λ v k l. refl)

-- The ranks between the ends of an edge are those that it covers.
pub across_covers :
    (nodes edges : ℕ) (as₁ as₂ as₄ mask R : List ℕ) → paths mask ≡ (rooted (array_graph nodes edges as₁ as₂ as₄) R).path
    → (s k : ℕ)
    → across mask (get_or as₁ s 0) (get_or as₂ s 0) k
    ≡ covers_rank (array_graph nodes edges as₁ as₂ as₄) (rooted (array_graph nodes edges as₁ as₂ as₄) R) s k
across_covers nodes edges as₁ as₂ as₄ mask R same s k = ap (λ p. xor (p (get_or as₁ s 0) k) (p (get_or as₂ s 0) k)) same
