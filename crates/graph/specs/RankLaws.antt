-- Laws of ranks: they list each member of a set exactly once, in order of cost, and a sum over the set is a sum over
-- ranks; a list of the same members in the same order is the list of ranks. Assumes nothing.
use Prim.Native.Nat.{ℕ, zero, suc, ◌+◌, ◌≤◌, ◌<◌}
use Rattle.std.specs.Prelude.{◌≡◌, ◌↔◌, ◌⊎◌, Bool, cond, leb, get_or}
use Rattle.std.proofs.Math.Path.{refl, ap}
use Rattle.std.proofs.Common.{sym, subst, ◌∙◌, arith, length-append, leb-true, leb-false}
use Rattle.std.proofs.Math.Logic.{inl, inr}
use Rattle.std.proofs.Math.Bool.{true, false}
use mathlib.Core.List.Memᴰ
use mathlib.Core.List.{List, [], ◌∷◌, Memᴰ}
use Rattle.std.proofs.Math.Decide.{ℕ_discrete}
use Rattle.std.proofs.Math.ListN.{length}
use Rattle.loops.specs.Below.{sum}
use Rattle.loops.specs.Loop.{gather}
use Rattle.loops.specs.SumLaws.{sum_same, sum_over, sum_over_lem}
use Rattle.loops.specs.Ordered.{Ordered, ordered_at, get_d_member, member_place}
use Rattle.loops.specs.GatherLaws.{gather_has, gather_from, gather_ordered, gather_sum}
use Rattle.graph.specs.Graph.{Graph, EdgeSet, NoneTwice, count}
use Rattle.graph.specs.Rank.{insert, sorted, members, tree_ranks, Lists}

-- Insertion.
module _ (before : ℕ → ℕ → Bool) (x : ℕ) where
  insert_here : (ys : List ℕ) {e : ℕ} → e ≡ x → Memᴰ e (insert before x ys)
  unfolding insert
  insert_here [] q = Memᴰ.head q
  insert_here (y ∷ ys) {e} q =
      elim (before x y) as (λ b. Memᴰ e (cond b (x ∷ y ∷ ys) (y ∷ insert before x ys))) [
        | true ↦ Memᴰ.head q
        | false ↦ Memᴰ.tail (insert_here ys q)
      ]

  insert_there : {e : ℕ} {ys : List ℕ} → Memᴰ e ys → Memᴰ e (insert before x ys)
  unfolding insert
  insert_there {e} (Memᴰ.head {x = y} {xs = ys} q) =
      elim (before x y) as (λ b. Memᴰ e (cond b (x ∷ y ∷ ys) (y ∷ insert before x ys))) [
        | true ↦ Memᴰ.tail (Memᴰ.head q)
        | false ↦ Memᴰ.head q
      ]
  insert_there {e} (Memᴰ.tail {x = y} {xs = ys} m) =
      elim (before x y) as (λ b. Memᴰ e (cond b (x ∷ y ∷ ys) (y ∷ insert before x ys))) [
        | true ↦ Memᴰ.tail (Memᴰ.tail m)
        | false ↦ Memᴰ.tail (insert_there m)
      ]

  insert_from : (ys : List ℕ) {e : ℕ} → Memᴰ e (insert before x ys) → (e ≡ x) ⊎ Memᴰ e ys
  unfolding insert
  insert_from [] m = inl (Memᴰ.eq_of_singleton m)
  insert_from (y ∷ ys) {e} m = of (before x y) (λ m'. insert_from ys m') m
    where
      under : (e ≡ x) ⊎ Memᴰ e ys → (e ≡ x) ⊎ Memᴰ e (y ∷ ys)
      under (inl q) = inl q
      under (inr n) = inr (Memᴰ.tail n)

      later :
          (Memᴰ e (insert before x ys) → (e ≡ x) ⊎ Memᴰ e ys)
          → (e ≡ y) ⊎ Memᴰ e (insert before x ys) → (e ≡ x) ⊎ Memᴰ e (y ∷ ys)
      later below (inl q) = inr (Memᴰ.head q)
      later below (inr n) = under (below n)

      of :
          (b : Bool) → (Memᴰ e (insert before x ys) → (e ≡ x) ⊎ Memᴰ e ys)
          → Memᴰ e (cond b (x ∷ y ∷ ys) (y ∷ insert before x ys)) → (e ≡ x) ⊎ Memᴰ e (y ∷ ys)
      of true below m' = Memᴰ.cases_cons m'
      of false below m' = later below (Memᴰ.cases_cons m')

  insert_length : (ys : List ℕ) → length (insert before x ys) ≡ suc (length ys)
  unfolding insert
  insert_length [] = refl
  insert_length (y ∷ ys) =
      elim (before x y) as (λ b. length (cond b (x ∷ y ∷ ys) (y ∷ insert before x ys)) ≡ suc (suc (length ys))) [
        | true ↦ refl
        | false ↦ ap suc (insert_length ys)
      ]

  insert_sum : (f : ℕ → ℕ) (ys : List ℕ) → sum_over f (insert before x ys) ≡ f x + sum_over f ys
  unfolding insert sum_over
  insert_sum f [] = refl
  insert_sum f (y ∷ ys) =
      elim (before x y) as (λ b. sum_over f (cond b (x ∷ y ∷ ys) (y ∷ insert before x ys)) ≡ f x + (f y + sum_over f ys)) [
        | true ↦ refl
        | false ↦ omega (arith, insert_sum f ys)
      ]

  insert_once : (ys : List ℕ) → NoneTwice ys → (Memᴰ x ys → ⊥) → NoneTwice (insert before x ys)
  unfolding insert
  insert_once [] once new = (Memᴰ.not-nil, tt)
  insert_once (y ∷ ys) once new =
      elim (before x y) as (λ b. NoneTwice (cond b (x ∷ y ∷ ys) (y ∷ insert before x ys))) [
        | true ↦ (new, once)
        | false ↦ (
          λ m. elim (insert_from ys m) [ inl q ↦ new (Memᴰ.head (sym q)) | inr n ↦ once.0 n ],
          insert_once ys once.1 (λ m. new (Memᴰ.tail m)),
        )
      ]

  insert_ordered :
      (R : ℕ → ℕ → Type 0) → ((a b c : ℕ) → R a b → R b c → R a c) → (ys : List ℕ) → Ordered R ys
      → ((y : ℕ) → Memᴰ y ys → before x y ≡ true → R x y)
      → ((y : ℕ) → Memᴰ y ys → before x y ≡ false → R y x) → Ordered R (insert before x ys)
  unfolding insert
  insert_ordered R trans [] o front behind = (λ y m. absurd (Memᴰ.not-nil m), tt)
  insert_ordered R trans (y ∷ ys) o front behind =
      of (before x y) refl
      (insert_ordered R trans ys o.1 (λ z m. front z (Memᴰ.tail m)) (λ z m. behind z (Memᴰ.tail m)))
    where
      all : before x y ≡ true → (z : ℕ) → (z ≡ y) ⊎ Memᴰ z ys → R x z
      all q z (inl e) = front z (Memᴰ.head e) (rw e q)
      all q z (inr m) = trans x y z (front y (Memᴰ.head refl) q) (o.0 z m)

      later : before x y ≡ false → (z : ℕ) → (z ≡ x) ⊎ Memᴰ z ys → R y z
      later q z (inl e) = rw e (behind y (Memᴰ.head refl) q)
      later q z (inr m) = o.0 z m

      of :
          (b : Bool) → before x y ≡ b → Ordered R (insert before x ys)
          → Ordered R (cond b (x ∷ y ∷ ys) (y ∷ insert before x ys))
      of true q rest = (λ z m. all q z (Memᴰ.cases_cons m), o)
      of false q rest = (λ z m. later q z (insert_from ys m), rest)

-- Sorting.
module _ (before : ℕ → ℕ → Bool) where
  pub sorted_has : {e : ℕ} {xs : List ℕ} → Memᴰ e xs → Memᴰ e (sorted before xs)
  unfolding sorted
  sorted_has (Memᴰ.head {x = x} {xs = xs} q) = insert_here before x (sorted before xs) q
  sorted_has (Memᴰ.tail {x = x} m) = insert_there before x (sorted_has m)

  pub sorted_from : (xs : List ℕ) {e : ℕ} → Memᴰ e (sorted before xs) → Memᴰ e xs
  unfolding sorted
  sorted_from [] m = m
  sorted_from (x ∷ xs) m = elim (insert_from before x (sorted before xs) m) [
    | inl q ↦ Memᴰ.head q
    | inr n ↦ Memᴰ.tail (sorted_from xs n)
  ]

  pub sorted_length : (xs : List ℕ) → length (sorted before xs) ≡ length xs
  unfolding sorted
  sorted_length [] = refl
  sorted_length (x ∷ xs) = insert_length before x (sorted before xs) ∙ ap suc (sorted_length xs)

  pub sorted_sum : (f : ℕ → ℕ) (xs : List ℕ) → sum_over f (sorted before xs) ≡ sum_over f xs
  unfolding sorted sum_over
  sorted_sum f [] = refl
  sorted_sum f (x ∷ xs) = omega (arith, insert_sum before x f (sorted before xs), sorted_sum f xs)

  pub sorted_once : (xs : List ℕ) → NoneTwice xs → NoneTwice (sorted before xs)
  unfolding sorted
  sorted_once [] once = tt
  sorted_once (x ∷ xs) once =
      insert_once before x (sorted before xs) (sorted_once xs once.1) (λ m. once.0 (sorted_from xs m))

  -- A rising list is sorted by R if R says in front of which higher numbers a number stands, and behind which.
  pub sorted_ordered :
      (R : ℕ → ℕ → Type 0) → ((a b c : ℕ) → R a b → R b c → R a c) → ((x y : ℕ) → x < y → before x y ≡ true → R x y)
      → ((x y : ℕ) → x < y → before x y ≡ false → R y x) → (xs : List ℕ) → Ordered ◌<◌ xs → Ordered R (sorted before xs)
  unfolding sorted
  sorted_ordered R trans front behind [] o = tt
  sorted_ordered R trans front behind (x ∷ xs) o =
      insert_ordered before x R trans (sorted before xs) (sorted_ordered R trans front behind xs o.1)
      (λ y m. front x y (o.0 y (sorted_from xs m))) (λ y m. behind x y (o.0 y (sorted_from xs m)))

pub rising_once : (xs : List ℕ) → Ordered ◌<◌ xs → NoneTwice xs
rising_once [] o = tt
rising_once (x ∷ xs) o = (λ m. absurd (omega (arith, o.0 x m)), rising_once xs o.1)

-- Two places of a list in which nothing stands twice.
pub once_place :
    (xs : List ℕ) (i j : ℕ) → NoneTwice xs → i < length xs → j < length xs → get_or xs i 0 ≡ get_or xs j 0 → i ≡ j
once_place [] i j once h l q = absurd (omega arith)
once_place (x ∷ xs) zero zero once h l q = refl
once_place (x ∷ xs) zero (suc j) once h l q =
    absurd (once.0 (rw (sym q) at (get_d_member 0 xs j (omega arith))))
once_place (x ∷ xs) (suc i) zero once h l q = absurd (once.0 (rw q at (get_d_member 0 xs i (omega arith))))
once_place (x ∷ xs) (suc i) (suc j) once h l q = ap suc (once_place xs i j once.1 (omega arith) (omega arith) q)

-- The members of a set.
one_from : (b : Bool) (e i : ℕ) → Memᴰ e (cond b (i ∷ []) []) → (e ≡ i) × (b ≡ true)
one_from true e i m = (Memᴰ.eq_of_singleton m, refl)
one_from false e i m = absurd (Memᴰ.not-nil m)

one_rising : (b : Bool) (e : ℕ) → Ordered ◌<◌ (cond b (e ∷ []) [])
one_rising true e = (λ y m. absurd (Memᴰ.not-nil m), tt)
one_rising false e = tt

one_sum : (f : ℕ → ℕ) (b : Bool) (e : ℕ) → sum_over f (cond b (e ∷ []) []) ≡ cond b (f e) 0
unfolding sum_over
one_sum f true e = omega arith
one_sum f false e = refl

one_length : (b : Bool) (e : ℕ) → length (cond b (e ∷ []) []) ≡ cond b 1 0
one_length true e = refl
one_length false e = refl

module _ (m : ℕ) (S : EdgeSet) where
  pub members_has : (e : ℕ) → e < m → S e ≡ true → Memᴰ e (members m S)
  members_has e h q = gather_has m (λ i. cond (S i) (i ∷ []) []) e h (rw q (Memᴰ.head refl))

  pub members_from : (e : ℕ) → Memᴰ e (members m S) → (e < m) × (S e ≡ true)
  members_from e k =
      let r = gather_from m (λ i. cond (S i) (i ∷ []) []) k in
      let s = one_from (S r.0) e r.0 r.2 in
      (rw s.0 r.1, rw s.0 s.1)

  pub members_rising : Ordered ◌<◌ (members m S)
  members_rising =
      gather_ordered ◌<◌ m (λ i. cond (S i) (i ∷ []) []) (λ i h. one_rising (S i) i) λ i j x y h l k k'.
      omega (arith, (one_from (S i) x i k).0, (one_from (S j) y j k').0)

  pub members_sum : (f : ℕ → ℕ) → sum_over f (members m S) ≡ sum m (λ e. cond (S e) (f e) 0)
  members_sum f =
      gather_sum m (λ i. cond (S i) (i ∷ []) []) f
      ∙ sum_same m (λ i. sum_over f (cond (S i) (i ∷ []) [])) (λ e. cond (S e) (f e) 0) (λ i h. one_sum f (S i) i)

pub members_length : (m : ℕ) (S : EdgeSet) → length (members m S) ≡ count m S
unfolding gather count
members_length zero S = refl
members_length (suc m) S =
    length-append (members m S) (cond (S m) (m ∷ []) []) ∙ omega (arith, members_length m S, one_length (S m) m)

-- Ranks: the members of a set, sorted in any way.
abbrev ranks : (ℕ → ℕ → Bool) → ℕ → EdgeSet → List ℕ
ranks before m S = sorted before (members m S)

module _ (before : ℕ → ℕ → Bool) (m : ℕ) (S : EdgeSet) where
  pub ranks_member : (e : ℕ) → Memᴰ e (ranks before m S) ↔ ((e < m) × (S e ≡ true))
  ranks_member e = (
    λ k. members_from m S e (sorted_from before (members m S) k),
    λ h. sorted_has before (members_has m S e h.0 h.1),
  )

  pub ranks_once : NoneTwice (ranks before m S)
  ranks_once = sorted_once before (members m S) (rising_once (members m S) (members_rising m S))

  pub ranks_list : Lists m S (ranks before m S)
  ranks_list =
      record {
        below = λ k h. (at k h).0;
        inside = λ k h. (at k h).1;
        every = λ e h q. member_place 0 ((ranks_member e).1 (h, q));
        once = λ i j. once_place (ranks before m S) i j ranks_once;
        size = sorted_length before (members m S) ∙ members_length m S;
      }
    where
      at :
          (k : ℕ) → k < length (ranks before m S)
          → (get_or (ranks before m S) k 0 < m) × (S (get_or (ranks before m S) k 0) ≡ true)
      at k h = (ranks_member (get_or (ranks before m S) k 0)).0 (get_d_member 0 (ranks before m S) k h)

  pub ranks_sum :
      (f : ℕ → ℕ)
      → sum m (λ e. cond (S e) (f e) 0) ≡ sum (length (ranks before m S)) (λ k. f (get_or (ranks before m S) k 0))
  ranks_sum f =
      sym (members_sum m S f) ∙ sym (sorted_sum before f (members m S)) ∙ sym (sum_over_lem f 0 (ranks before m S))

-- Listed by number, they are sorted where any may stand in front.
unsorted : (xs : List ℕ) → sorted (λ _ _. true) xs ≡ xs
unfolding sorted insert
unsorted [] = refl
unsorted (x ∷ xs) = rw (unsorted xs) (front xs)
  where
    front : (xs : List ℕ) → insert (λ _ _. true) x xs ≡ x ∷ xs
    front [] = refl
    front (y ∷ ys) = refl

pub members_list : (m : ℕ) (S : EdgeSet) → Lists m S (members m S)
members_list m S = subst (Lists m S) (unsorted (members m S)) (ranks_list (λ _ _. true) m S)

-- Edge x stands in front of edge y: it may, and if y may too, x has the lower number.
pub record Ahead (May : ℕ → ℕ → Type 0) (x y : ℕ) : Type 0 where
  pub cost : May x y
  pub number : May y x → x < y

-- A test that tells who may stand in front: of any two edges one may.
record Decides (before : ℕ → ℕ → Bool) (May : ℕ → ℕ → Type 0) : Type 0 where
  itself : (x : ℕ) → May x x
  trans : (x y z : ℕ) → May x y → May y z → May x z
  holds : (x y : ℕ) → before x y ≡ true → May x y
  fails : (x y : ℕ) → before x y ≡ false → May y x × (May x y → ⊥)

module _ {before : ℕ → ℕ → Bool} {May : ℕ → ℕ → Type 0} (test : Decides before May) where
  ahead_trans : (x y z : ℕ) → Ahead May x y → Ahead May y z → Ahead May x z
  ahead_trans x y z h k =
      record {
        cost = test.trans x y z h.cost k.cost;
        number =
            λ q. omega (arith, h.number (test.trans y z x k.cost q), k.number (test.trans z x y q h.cost));
      }

  module _ (m : ℕ) (S : EdgeSet) where
    ranks_ordered : Ordered (Ahead May) (ranks before m S)
    ranks_ordered =
        sorted_ordered before (Ahead May) ahead_trans (λ x y h q. record { cost = test.holds x y q; number = λ _. h })
        (λ x y h q. record { cost = (test.fails x y q).0; number = λ k. absurd ((test.fails x y q).1 k) }) (members m S)
        (members_rising m S)

    ranks_may :
        (i j : ℕ) → i ≤ j → j < length (ranks before m S)
        → May (get_or (ranks before m S) i 0) (get_or (ranks before m S) j 0)
    ranks_may i j h l = elim (ℕ_discrete i j) [
      | yes q ↦ rw q (test.itself (get_or (ranks before m S) j 0))
      | no q ↦ (ordered_at (Ahead May) 0 (ranks before m S) i j ranks_ordered (omega arith) l).cost
    ]

-- Tree edges stand by falling cost, non-tree edges by rising cost; of equal costs the lower number first.
abbrev pub by_falling : (ℕ → ℕ) → ℕ → ℕ → Bool
by_falling c x y = leb (c y) (c x)

abbrev pub by_rising : (ℕ → ℕ) → ℕ → ℕ → Bool
by_rising c x y = leb (c x) (c y)

falling : (c : ℕ → ℕ) → Decides (by_falling c) (λ x y. c y ≤ c x)
falling c =
    record {
      itself = λ x. omega arith;
      trans = λ x y z h k. omega arith;
      holds = λ x y. leb-true (c y) (c x);
      fails = λ x y q. (omega (arith, leb-false (c y) (c x) q), λ h. omega (arith, leb-false (c y) (c x) q));
    }

rising : (c : ℕ → ℕ) → Decides (by_rising c) (λ x y. c x ≤ c y)
rising c =
    record {
      itself = λ x. omega arith;
      trans = λ x y z h k. omega arith;
      holds = λ x y. leb-true (c x) (c y);
      fails = λ x y q. (omega (arith, leb-false (c x) (c y) q), λ h. omega (arith, leb-false (c x) (c y) q));
    }

pub ranks_rise :
    (c : ℕ → ℕ) (m : ℕ) (S : EdgeSet) (i j : ℕ) → i ≤ j → j < length (sorted (by_rising c) (members m S))
    → c (get_or (sorted (by_rising c) (members m S)) i 0) ≤ c (get_or (sorted (by_rising c) (members m S)) j 0)
ranks_rise c = ranks_may (rising c)

module _ (g : Graph) (tr : EdgeSet) (c : ℕ → ℕ) where
  pub tree_lists : Lists g.edges tr (tree_ranks g tr c)
  tree_lists = ranks_list (by_falling c) g.edges tr

  pub tree_falls :
      (t t' : ℕ) → t ≤ t' → t' < length (tree_ranks g tr c)
      → c (get_or (tree_ranks g tr c) t' 0) ≤ c (get_or (tree_ranks g tr c) t 0)
  tree_falls = ranks_may (falling c) g.edges tr
