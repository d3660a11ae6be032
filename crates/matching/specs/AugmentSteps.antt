-- One more tree rank: every way out of the code meets the model's. Assumes nothing.
use Rattle.std.specs.Prelude.{ℕ, suc, ◌+◌, ◌-◌, ◌≤◌, ◌<◌, ◌≡◌, refl, ◌≢◌, Bool, true, false, ◌&&◌, ◌||◌, List, ltb, eqb, get_or}
use Rattle.std.proofs.Math.Decide.{ℕ_discrete}
use Rattle.std.proofs.Common.{arith, sym, ap, subst, ◌∙◌, inl, inr, get_or-set_same, get_or-set_other, eq-eqb, ne_eqb, eqb-true, ltb-true}
use Rattle.loops.specs.Loop.{put}
use Rattle.loops.specs.TestLaws.{clash, and_first, and_second, or_either}
use Rattle.loops.specs.PutLaws.{put_same, put_other}
use Rattle.loops.specs.FirstLaws.{first_is}
use Rattle.bits.specs.Bit.{bit}
use Rattle.bits.specs.ChangeLaws.{added}
use Rattle.goals.specs.Over.{next_over}
use Rattle.goals.specs.OverLaws.{over_is, over_common}
use Rattle.graph.specs.Rank.{cost_at}
use Rattle.optimum.specs.Search.{Problem, Mates, Slots, mates_in, Search, search, turn, Progress, cheapest_of, hit_of, goal_of}
use Rattle.optimum.specs.Search.{worth, turned, given_up, augment_by}
use Rattle.optimum.specs.Search.{augment, built}
use Rattle.optimum.specs.Slackness.{Ranked, Valid}
use Rattle.optimum.proofs.SlotLaws.{HeldSlots, slot_below}
use Rattle.optimum.proofs.SearchLaws.{search_closed}
use Rattle.optimum.proofs.MatchingProof.{built_held, built_valid}
use Rattle.search.specs.Board.{state_of, Ready, Explored}
use Rattle.search.specs.BoardLaws.{Fits, FoundSearch, explored_found}
use Rattle.slots.specs.Paired.{hit_in, ways, Pairing, PairPut}
use Rattle.slots.specs.PairLaws.{turn_same}
use Rattle.matching.specs.Tables.{Holds, Tables, tables, Sized, HoldsPairs, HoldsProgress}
use Rattle.matching.specs.Build.{goal_cost, Clean, Safe, Augmentable, Augmented}
use Rattle.matching.specs.FindLaws.{column_covers, cheapest_is, goal_is, goal_hit_is, goal_within, worth_off, worth_on, gain_is}
use Rattle.matching.specs.PairSteps.{turn_near, mates_kept, pairs_put}

-- The model's ways.
module _ (p : Problem) (t : ℕ) (pr : Progress) where
  augment_none : worth p t (cheapest_of p (mates_in pr.pairs)) ≡ false → augment p t pr ≡ pr
  unfolding augment
  augment_none h = rw h

  augment_tried :
      (c : ℕ) → cheapest_of p (mates_in pr.pairs) ≡ c → worth p t c ≡ true
      → augment p t pr ≡ augment_by p t pr (search p pr.pairs (λ x. p.covers x c) pr.live t)
  unfolding augment
  augment_tried c e h = rw (e, h)

  tried_on :
      (st : Search) (g : ℕ) → goal_of p (mates_in pr.pairs) st.seen ≡ g → worth p t g ≡ true → augment_by p t pr st ≡ turned p t pr g st
  tried_on st g e h = rw (e, h)

  tried_off : (st : Search) (g : ℕ) → goal_of p (mates_in pr.pairs) st.seen ≡ g → worth p t g ≡ false → augment_by p t pr st ≡ given_up pr st
  tried_off st g e h = rw (e, h)

built_next : (p : Problem) (t : ℕ) → built p (suc t) ≡ augment p t (built p t)
unfolding built
built_next p t = refl

-- The pairs, and the mates, before the turn of tree rank t; and the exploration from it that ends under spare rank c.
abbrev pairs_at : Problem → ℕ → Slots
pairs_at p t = (built p t).pairs

abbrev mates_at : Problem → ℕ → Mates
mates_at p t = mates_in (built p t).pairs

abbrev exploration : Problem → ℕ → ℕ → ℕ → Search
exploration p t c live = search p (built p t).pairs (λ x. p.covers x c) (bit live) t

-- What is known before the exploration: the cheapest spare rank in no pair, and what it and tree rank t cost.
pub record Compared (t slots low live weight trees spares : ℕ) (cost ts ss : List ℕ) (b : Tables) (all low' high least : ℕ) : Type 0 where
  pub able : Augmentable t slots low weight trees spares ts ss b
  pub whole : (j : ℕ) → bit all j ≡ ltb j trees
  pub low_is : low' ≡ next_over low spares all b.cols
  pub high_is : high ≡ cost_at cost ts t
  pub high_small : high < 4294967296
  pub least_is : least ≡ goal_cost spares cost ss low'

module _
    {t slots low live weight trees spares : ℕ}
    {cost ts ss : List ℕ}
    {b : Tables}
    {all low' high least : ℕ}
    (known : Compared t slots low live weight trees spares cost ts ss b all low' high least)
  where
    abbrev Out : ℕ → ℕ → ℕ → ℕ → Tables → Type 0
    Out = Augmented t slots low live weight trees spares cost ts ss b

    abbrev safe : Safe t spares slots low weight b
    safe = known.able.safe

    pub low_within : low' ≤ spares
    low_within = rw known.low_is (over_is low spares all b.cols safe.within).within

    -- The tables hold the model's progress.
    module _
        (p : Problem)
        (cols₀ : List ℕ)
        (r : Ranked p)
        (h : Holds p trees spares cost ts ss cols₀)
        (hp : HoldsProgress p (built p t) cols₀ slots low live weight b)
      where
        rank : t < p.trees
        rank = omega (arith, h.trees_are, known.able.rank)

        cheapest : low' ≡ cheapest_of p (mates_at p t)
        cheapest =
            known.low_is
            ∙ cheapest_is h (mates_at p t) b.cols hp.pairs.columns known.able.few_trees all known.whole low safe.within hp.low_paired

        low_paired : (s : ℕ) → s < low' → s < p.spares → mates_at p t s ≢ 0
        low_paired s a _ e = clash (eq-eqb (mates_at p t s) 0 e) ((first_is p.spares (λ s. eqb (mates_at p t s) 0)).before s (omega (arith, cheapest)))

        none_holds : high ≤ least → HoldsProgress p (built p (suc t)) cols₀ slots low' live weight b
        none_holds off =
            subst (λ (pr : Progress). HoldsProgress p pr cols₀ slots low' live weight b)
            (sym (built_next p t ∙ augment_none p t (built p t)
            (rw (← cheapest) (worth_off h known.able.rank known.high_is known.high_small low' known.least_is off))))
            record {
              slots_are = hp.slots_are;
              live_are = hp.live_are;
              live_below = hp.live_below;
              weighs = hp.weighs;
              low_paired = low_paired;
              pairs = hp.pairs;
            }

    -- Even the cheapest costs too much, or there is none.
    pub augmented_none : high ≤ least → Out slots low' live weight b
    augmented_none off =
        record {
          safe =
              record {
                sized = safe.sized;
                few = omega (arith, safe.few);
                within = low_within;
                room = omega (arith, safe.room);
                clean = safe.clean;
                placed = safe.placed;
              };
          holds = λ p cols₀ r h hp. none_holds p cols₀ r h hp off;
        }

    pub explore_ready : Ready t b.words b.links
    explore_ready =
        record {
          rank = omega (arith, known.able.rank, known.able.few_trees);
          words_length = safe.sized.words_length;
          links_length = safe.sized.links_length;
          below = safe.sized.partners;
        }

    module _ (on : least < high) where
      pub low_below : low' < spares
      low_below = goal_within spares cost ss low' high least known.high_small known.least_is on

      module _
          {words₁ links₁ : List ℕ}
          {live₁ : ℕ}
          (explored : Explored t live (get_or b.cols low' 0) b.words b.links words₁ links₁ live₁)
          {goal least₁ : ℕ}
          (found-goal : goal ≡ next_over low' spares (get_or words₁ 64 0) b.cols)
          (least₁-is : least₁ ≡ goal_cost spares cost ss goal)
        where
          abbrev b₁ : Tables
          b₁ = tables b.cols words₁ links₁ b.spare b.slot

          sized₁ : Sized b₁
          sized₁ =
              record {
                cols_length = safe.sized.cols_length;
                words_length = explored.kept.words_length;
                links_length = explored.kept.links_length;
                spare_length = safe.sized.spare_length;
                slot_length = safe.sized.slot_length;
                partners = λ k l. rw (explored.kept.partners k l) (safe.sized.partners k l);
              }

          clean₁ : Clean slots words₁
          clean₁ x k a l = rw (explored.kept.rows x a) (safe.clean x k a l)

          module _
              (p : Problem)
              (cols₀ : List ℕ)
              (r : Ranked p)
              (h : Holds p trees spares cost ts ss cols₀)
              (hp : HoldsProgress p (built p t) cols₀ slots low live weight b)
            where
              low_spare : low' < p.spares
              low_spare = rw h.spares_are low_below

              low_free : mates_at p t low' ≡ 0
              low_free =
                  rw (cheapest p cols₀ r h hp)
                  (eqb-true _ 0 ((first_is p.spares (λ s. eqb (mates_at p t s) 0)).hit (rw (← cheapest p cols₀ r h hp) low_spare)))

              fits : Fits p (pairs_at p t) b.words b.links
              fits =
                  record {
                    few = omega (arith, hp.slots_are, safe.few, known.able.rank, known.able.few_trees);
                    ranks = omega (arith, h.trees_are, known.able.few_trees);
                    covered = hp.pairs.rows;
                    own = λ k l. sym (hp.pairs.own k l);
                    below = hp.pairs.below;
                  }

              found : FoundSearch t words₁ links₁ live₁ (exploration p t low' live)
              found =
                  explored_found p (pairs_at p t) b.words b.links fits t live (rank p cols₀ r h hp)
                  (λ k v. omega (arith, hp.slots_are, hp.live_below k v)) words₁ links₁ live₁ (get_or b.cols low' 0) (λ x. p.covers x low')
                  (λ x a. column_covers h (mates_at p t) b.cols hp.pairs.columns x low' a low_spare low_free)
                  explored

              pairs₁ : HoldsPairs p (pairs_at p t) cols₀ b₁
              pairs₁ =
                  record {
                    few = hp.pairs.few;
                    own = λ k l. explored.kept.partners k (omega (arith, fits.few)) ∙ hp.pairs.own k l;
                    below = hp.pairs.below;
                    spares = hp.pairs.spares;
                    ranks = hp.pairs.ranks;
                    places = hp.pairs.places;
                    rows = λ x k a l. rw (explored.kept.rows x (omega (arith, fits.ranks))) (hp.pairs.rows x k a l);
                    columns = hp.pairs.columns;
                  }

              goal_model : goal_of p (mates_at p t) (exploration p t low' live).seen ≡ goal
              goal_model =
                  sym (found-goal
                  ∙ goal_is h (mates_at p t) b.cols hp.pairs.columns known.able.few_trees (get_or words₁ 64 0) (exploration p t low' live).seen
                  found.seen low' low_within (low_paired p cols₀ r h hp))

              tried : built p (suc t) ≡ augment_by p t (built p t) (exploration p t low' live)
              tried =
                  built_next p t
                  ∙ augment_tried p t (built p t) low' (sym (cheapest p cols₀ r h hp))
                  (worth_on h known.able.rank known.high_is known.high_small low' known.least_is on)
                  ∙ ap (λ (f : ℕ → Bool). augment_by p t (built p t) (search p (pairs_at p t) (λ x. p.covers x low') f t)) (sym hp.live_are)

              off_holds : high ≤ least₁ → HoldsProgress p (built p (suc t)) cols₀ slots low' live₁ weight b₁
              off_holds off =
                  subst (λ (pr : Progress). HoldsProgress p pr cols₀ slots low' live₁ weight b₁)
                  (sym (tried ∙ tried_off p t (built p t) (exploration p t low' live) goal goal_model
                  (worth_off h known.able.rank known.high_is known.high_small goal least₁-is off)))
                  record {
                    slots_are = hp.slots_are;
                    live_are = found.live;
                    live_below = λ k v. hp.live_below k ((search_closed p (pairs_at p t) (λ x. p.covers x low') (bit live) t).falls k (rw found.live at v));
                    weighs = hp.weighs;
                    low_paired = low_paired p cols₀ r h hp;
                    pairs = pairs₁;
                  }

          -- The exploration came to none that gains.
          pub augmented_off : high ≤ least₁ → Out slots low' live₁ weight b₁
          augmented_off off =
              record {
                safe =
                    record {
                      sized = sized₁;
                      few = omega (arith, safe.few);
                      within = low_within;
                      room = omega (arith, safe.room);
                      clean = clean₁;
                      placed = safe.placed;
                    };
                holds = λ p cols₀ r h hp. off_holds p cols₀ r h hp off;
              }

          -- It came to one.
          module _ (gain : least₁ < high) where
            goal_below : goal < spares
            goal_below = goal_within spares cost ss goal high least₁ known.high_small least₁-is gain

            pub pair_able : Pairing t goal slots (get_or words₁ 64 0) b.cols words₁ links₁ b.spare b.slot
            pair_able =
                record {
                  tree = omega (arith, known.able.rank, known.able.few_trees);
                  goal_below = omega (arith, goal_below, known.able.few_spares);
                  slot_below = omega (arith, safe.few, known.able.rank, known.able.few_trees);
                  hit =
                      rw found-goal
                      (over_common low' spares (get_or words₁ 64 0) b.cols low_within (rw (← found-goal) goal_below)).0;
                  cols_length = sized₁.cols_length;
                  words_length = sized₁.words_length;
                  links_length = sized₁.links_length;
                  spare_length = sized₁.spare_length;
                  slot_length = sized₁.slot_length;
                  partners = sized₁.partners;
                }

            module _
                {cols' words' links' spare' slot' : List ℕ}
                (put_in : PairPut t goal slots (get_or words₁ 64 0) b.cols words₁ links₁ b.spare b.slot cols' words' links' spare' slot')
                (live' : ℕ)
                (more : (j : ℕ) → bit live' j ≡ (bit live j || eqb slots j))
              where
                abbrev b' : Tables
                b' = tables cols' words' links' spare' slot'

                safe' : Safe (suc t) spares (slots + 1) low' (weight + (high - least₁)) b'
                safe' =
                    record {
                      sized =
                          record {
                            cols_length = put_in.cols_length;
                            words_length = put_in.words_are.size;
                            links_length = put_in.links_are.size;
                            spare_length = put_in.spare_length;
                            slot_length = put_in.slot_length;
                            partners = put_in.links_are.partners;
                          };
                      few = omega (arith, safe.few);
                      within = low_within;
                      room = omega (arith, safe.room, known.high_small);
                      clean =
                          λ x k a l. put_in.words_are.rows x k a ∙ rw (clean₁ x k a (omega arith), ne_eqb slots k (λ e. omega arith));
                      placed = λ s l e. elim (ℕ_discrete s goal) [
                        | yes d ↦
                            let at : get_or slot' s 0 ≡ slots =
                            rw (put_in.slot_is, d) (get_or-set_same b.slot goal slots 0 (omega (arith, pair_able.goal_below, sized₁.slot_length))) in
                            omega arith
                        | no d ↦
                            let at : get_or slot' s 0 ≡ get_or b.slot s 0 = rw put_in.slot_is (get_or-set_other b.slot goal s slots 0 d) in
                            let column : get_or b.cols s 0 ≡ 0 = sym (get_or-set_other b.cols goal s 0 0 d) ∙ rw put_in.cols_are at e in
                            omega (arith, safe.placed s l column)
                      ];
                    }

                module _
                    (p : Problem)
                    (cols₀ : List ℕ)
                    (r : Ranked p)
                    (h : Holds p trees spares cost ts ss cols₀)
                    (hp : HoldsProgress p (built p t) cols₀ slots low live weight b)
                  where
                    abbrev n : ℕ
                    n = (pairs_at p t).slots

                    goal_spare : goal < p.spares
                    goal_spare = rw h.spares_are goal_below

                    both : (ltb (hit_of p (exploration p t low' live).seen goal) p.trees && eqb (mates_at p t goal) 0) ≡ true
                    both =
                        let is = goal_model p cols₀ r h hp in
                        rw is at
                        ((first_is p.spares (λ s. ltb (hit_of p (exploration p t low' live).seen s) p.trees && eqb (mates_at p t s) 0)).hit
                        (rw is goal_spare))

                    goal_free : mates_at p t goal ≡ 0
                    goal_free = eqb-true _ 0 (and_second (ltb (hit_of p (exploration p t low' live).seen goal) p.trees) _ both)

                    abbrev hit : ℕ
                    hit = hit_of p (exploration p t low' live).seen goal

                    hit_below : hit < p.trees
                    hit_below = ltb-true hit p.trees (and_first _ (eqb (mates_at p t goal) 0) both)

                    hit_seen : (exploration p t low' live).seen hit ≡ true
                    hit_seen =
                        and_first ((exploration p t low' live).seen hit) (p.covers hit goal)
                        ((first_is p.trees (λ x. (exploration p t low' live).seen x && p.covers x goal)).hit hit_below)

                    hit_same : hit_in (get_or b.cols goal 0) (get_or words₁ 64 0) ≡ hit
                    hit_same =
                        goal_hit_is h (mates_at p t) b.cols hp.pairs.columns known.able.few_trees (get_or words₁ 64 0) (exploration p t low' live).seen
                        (found p cols₀ r h hp).seen goal goal_spare goal_free hit_below

                    abbrev tree_of' : ℕ → ℕ
                    tree_of' = turn (exploration p t low' live) t n hit n (pairs_at p t).tree_of

                    -- The way back in the arrays is the model's.
                    own' : (k : ℕ) → k < suc n → get_or links' k 0 ≡ tree_of' k
                    own' k l =
                        put_in.links_are.own k (omega (arith, (fits p cols₀ r h hp).few))
                        ∙ rw (hit_same, ← hp.slots_are)
                        (ap (λ (f : ℕ → ℕ). f k)
                        (turn_same (ways links₁) (state_of words₁ links₁ live₁) (λ _. refl) (λ _. refl) t n hit n (λ j. get_or links₁ j 0)
                        ∙ (found p cols₀ r h hp).turns n hit n (λ j. get_or links₁ j 0) hit_seen))
                        ∙ turn_near (exploration p t low' live) t n hit n (λ j. get_or links₁ j 0) (pairs_at p t).tree_of k near
                      where
                        near : put (λ j. get_or links₁ j 0) n hit k ≡ put (pairs_at p t).tree_of n hit k
                        near = elim (ℕ_discrete k n) [
                          | yes e ↦ rw e (put_same (λ j. get_or links₁ j 0) n hit ∙ sym (put_same (pairs_at p t).tree_of n hit))
                          | no d ↦
                              put_other (λ j. get_or links₁ j 0) n hit k d
                              ∙ (pairs₁ p cols₀ r h hp).own k (omega arith)
                              ∙ sym (put_other (pairs_at p t).tree_of n hit k d)
                        ]

                    turned_on : built p (suc t) ≡ turned p t (built p t) goal (exploration p t low' live)
                    turned_on =
                        tried p cols₀ r h hp
                        ∙ tried_on p t (built p t) (exploration p t low' live) goal (goal_model p cols₀ r h hp)
                        (worth_on h known.able.rank known.high_is known.high_small goal least₁-is gain)

                    abbrev q' : Slots
                    q' = (turned p t (built p t) goal (exploration p t low' live)).pairs

                    below' : (k : ℕ) → k < suc n → tree_of' k < p.trees
                    below' =
                        slot_below p q'
                        (subst (λ (pr : Progress). HeldSlots p pr.pairs) turned_on (built_held p r (suc t) (rank p cols₀ r h hp)))
                        (subst (λ (pr : Progress). Valid p (mates_in pr.pairs)) turned_on (built_valid p r (suc t) (rank p cols₀ r h hp)))

                    on_holds : HoldsProgress p (built p (suc t)) cols₀ (slots + 1) low' live' (weight + (high - least₁)) b'
                    on_holds =
                        subst (λ (pr : Progress). HoldsProgress p pr cols₀ (slots + 1) low' live' (weight + (high - least₁)) b') (sym turned_on)
                        record {
                          slots_are = omega (arith, hp.slots_are);
                          live_are = added (bit live) (bit live') slots more ∙ rw (hp.live_are, hp.slots_are);
                          live_below = λ k v. elim (or_either (bit live k) (eqb slots k) (sym (more k) ∙ v)) [
                            | inl e ↦ omega (arith, hp.live_below k e)
                            | inr e ↦ omega (arith, eqb-true slots k e)
                          ];
                          weighs =
                              rw (hp.weighs, gain_is h known.able.rank known.high_is known.high_small goal least₁-is gain);
                          low_paired = λ s a l. mates_more s (low_paired p cols₀ r h hp s a l);
                          pairs = one_more;
                        }
                      where
                        held : HeldSlots p (pairs_at p t)
                        held = built_held p r t (omega (arith, rank p cols₀ r h hp))

                        clean₂ : Clean n words₁
                        clean₂ = rw hp.slots_are clean₁

                        few_spares : p.spares ≤ 256
                        few_spares = omega (arith, h.spares_are, known.able.few_spares)

                        room : n < p.trees
                        room = omega (arith, hp.slots_are, safe.few, rank p cols₀ r h hp)

                        mates_more : (s : ℕ) → mates_at p t s ≢ 0 → mates_in q' s ≢ 0
                        mates_more =
                            mates_kept sized₁ (pairs₁ p cols₀ r h hp) held clean₂ (fits p cols₀ r h hp).ranks few_spares room goal goal_spare goal_free tree_of'

                        one_more : HoldsPairs p q' cols₀ b'
                        one_more =
                            pairs_put sized₁ (pairs₁ p cols₀ r h hp) held clean₂ (fits p cols₀ r h hp).ranks few_spares room goal goal_spare goal_free tree_of'
                            (rw (← hp.slots_are) at put_in)
                            (λ x a. column_covers h (mates_at p t) b.cols hp.pairs.columns x goal a goal_spare goal_free)
                            own' below'

                -- The goal has a slot, and tree rank t is matched.
                pub augmented_on : Out (slots + 1) low' live' (weight + (high - least₁)) b'
                augmented_on = record { safe = safe'; holds = on_holds }
