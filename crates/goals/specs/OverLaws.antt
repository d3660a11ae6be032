-- Laws of the next spare rank over a set: what it means, and the searches for it, one column or eight at a time. Assumes nothing.
use Rattle.std.specs.Prelude.{ℕ, suc, ◌+◌, ◌-◌, ◌*◌, ◌/◌, ◌^◌, ◌≤◌, ◌<◌, ◌≡◌, Bool, true, false, not, ◌&&◌, ◌||◌, List, eqb, ltb, get_or}
use Rattle.std.specs.Prelude.{Option, Some, None, MatchOption, unwrap_or}
use Rattle.std.proofs.Math.Decide.{dec_lt, ℕ_discrete}
use Rattle.std.proofs.Common.{add-one, arith, sym, ap, ◌∙◌, inl, inr, ltb-true, lt-ltb, le-ltb, ne_eqb}
use Rattle.loops.specs.Loop.{first}
use Rattle.loops.specs.FirstLaws.{First, first_is, first_found, some_of, some_at}
use Rattle.loops.specs.TestLaws.{truth, clash, and_first, and_second}
use Rattle.bits.specs.Bit.{bit}
use Rattle.bits.specs.BitLaws.{bit_zero, first_below}
use Rattle.goals.specs.Over.{meets, next_over}

-- ---- what it means

-- r is the first column from `from` on that has a member of the set; `spares` if none has.
pub record NextOver (from spares trees : ℕ) (cols : List ℕ) (r : ℕ) : Type 0 where
  pub start : from ≤ r
  pub within : r ≤ spares
  pub before : (s : ℕ) → from ≤ s → s < r → meets trees cols s ≡ false
  pub hit : r < spares → meets trees cols r ≡ true

module _ (from spares trees : ℕ) (cols : List ℕ) (l : from ≤ spares) where
  pub over_is : NextOver from spares trees cols (next_over from spares trees cols)
  over_is =
      let f : First (spares - from) (λ i. meets trees cols (from + i)) (first (spares - from) (λ i. meets trees cols (from + i))) =
      first_is (spares - from) (λ i. meets trees cols (from + i)) in
      record {
        start = omega arith;
        within = omega (arith, f.within);
        before = λ s a b.
            let e : from + (s - from) ≡ s = omega arith in
            rw e at (f.before (s - from) (omega arith));
        hit = λ b. f.hit (omega arith);
      }

  -- Only one column is that.
  pub over_found : {r : ℕ} → NextOver from spares trees cols r → next_over from spares trees cols ≡ r
  over_found {r} g =
      let e : from + (r - from) ≡ r = omega (arith, g.start) in
      let is : first (spares - from) (λ i. meets trees cols (from + i)) ≡ r - from = first_found (record {
        within = omega (arith, g.within);
        before = λ i b. g.before (from + i) (omega arith) (omega arith);
        hit = λ b. rw e (g.hit (omega arith));
      }) in
      ap (λ x. from + x) is ∙ e

  -- A search from `from` on finds it, or nothing before `spares`.
  pub over_search :
      (r : Option ℕ)
      → MatchOption r ((s : ℕ) → from ≤ s → s < spares → meets trees cols s ≡ false)
      (λ s. (from ≤ s) × (s < spares) × (meets trees cols s ≡ true) × ((x : ℕ) → from ≤ x → x < s → meets trees cols x ≡ false))
      → unwrap_or r spares ≡ next_over from spares trees cols
  over_search None none =
      sym (over_found (record { start = l; within = omega arith; before = none; hit = λ b. absurd (omega arith) }))
  over_search (Some s) (a, b, h, none) =
      sym (over_found (record { start = a; within = omega arith; before = none; hit = λ _. h }))

  -- If none before has one, it is the first of all.
  pub over_first : ((s : ℕ) → s < from → meets trees cols s ≡ false) → next_over from spares trees cols ≡ first spares (meets trees cols)
  over_first none = sym (first_found (record {
    within = over_is.within;
    before = λ s b. elim (dec_lt s from) [ yes c ↦ none s c | no c ↦ over_is.before s (omega arith) b ];
    hit = over_is.hit;
  }))

  -- The lowest member that it has in common with the set.
  pub over_common :
      next_over from spares trees cols < spares
      → let column : ℕ = get_or cols (next_over from spares trees cols) 0 in
      let t : ℕ = first 64 (λ t. bit column t && bit trees t) in
      (t < 64) × (bit column t ≡ true) × (bit trees t ≡ true)
  over_common b =
      let column : ℕ = get_or cols (next_over from spares trees cols) 0 in
      let m : first 64 (λ t. bit column t && bit trees t) < 64 = ltb-true _ 64 (over_is.hit b) in
      let t : ℕ = first 64 (λ t. bit column t && bit trees t) in
      let h : (bit column t && bit trees t) ≡ true = (first_is 64 (λ t. bit column t && bit trees t)).hit m in
      (m, and_first (bit column t) (bit trees t) h, and_second (bit column t) (bit trees t) h)

-- ---- one column at a time

-- No column from `from` up to s has a member of the set.
abbrev pub PassedOver : ℕ → ℕ → ℕ → List ℕ → Type 0
PassedOver from s trees cols = (x : ℕ) → from ≤ x → x < s → meets trees cols x ≡ false

-- A word that holds what p holds of is 0 if p holds of none.
word_some : (r : ℕ) (p : ℕ → Bool) → r < 2 ^ 64 → ((j : ℕ) → bit r j ≡ p j) → 0 < r → ltb (first 64 p) 64 ≡ true
word_some r p fits is some =
    let l : first 64 (bit r) < 64 = first_below 64 r some fits in
    some_of 64 p (first 64 (bit r)) l (sym (is (first 64 (bit r))) ∙ (first_is 64 (bit r)).hit l)

-- The members of column s in the set, as a word.
module _ (trees : ℕ) (cols : List ℕ) (s r : ℕ) (both : (j : ℕ) → bit r j ≡ (bit (get_or cols s 0) j && bit trees j)) where
  meets_none : r ≡ 0 → meets trees cols s ≡ false
  meets_none none = elim (truth (meets trees cols s)) [
    | inl h ↦
        let (t, _, c) = some_at 64 (λ t. bit (get_or cols s 0) t && bit trees t) h in
        clash (both t ∙ c) (rw none (bit_zero t))
    | inr h ↦ h
  ]

  pub meets_is : r < 2 ^ 64 → not (eqb r 0) ≡ meets trees cols s
  meets_is fits = elim (ℕ_discrete r 0) [
    | yes e ↦ rw (e, meets_none e)
    | no d ↦ rw (ne_eqb r 0 d) (sym (word_some r (λ t. bit (get_or cols s 0) t && bit trees t) fits both (omega arith)))
  ]

module _ (from spares trees : ℕ) (cols : List ℕ) (s : ℕ) (l : from ≤ s) (m : s ≤ spares) (passed : PassedOver from s trees cols) where
  -- The rest of the way is as long from s as from `from`.
  pub over_later : next_over s spares trees cols ≡ next_over from spares trees cols
  over_later =
      let g : NextOver s spares trees cols (next_over s spares trees cols) = over_is s spares trees cols m in
      sym (over_found from spares trees cols (omega arith) (record {
        start = omega (arith, g.start);
        within = g.within;
        before = λ x a b. elim (dec_lt x s) [ yes c ↦ passed x a c | no c ↦ g.before x (omega arith) b ];
        hit = g.hit;
      }))

  pub over_end : spares ≤ s → s ≡ next_over from spares trees cols
  over_end e = sym (over_found from spares trees cols (omega arith) (record { start = l; within = m; before = passed; hit = λ b. absurd (omega arith) }))

  -- The members of column s in the set, as a word.
  module _ (r : ℕ) (both : (j : ℕ) → bit r j ≡ (bit (get_or cols s 0) j && bit trees j)) where
    pub over_here : r < 2 ^ 64 → 0 < r → s ≡ next_over from spares trees cols
    over_here fits some =
        sym (over_found from spares trees cols (omega arith) (record {
          start = l;
          within = m;
          before = passed;
          hit = λ _. word_some r (λ t. bit (get_or cols s 0) t && bit trees t) fits both some;
        }))

    pub over_pass : r ≡ 0 → PassedOver from (s + 1) trees cols
    over_pass none x a b = elim (ℕ_discrete x s) [
      | yes e ↦ rw e (meets_none trees cols s r both none)
      | no d ↦ passed x a (omega arith)
    ]

  -- ---- eight at a time

  -- The members of the eight columns from s on in the set.
  pub block_pass :
      (w r : ℕ) → ((t : ℕ) → bit w t ≡ ltb (first 8 (λ i. bit (get_or cols (s + i) 0) t)) 8)
      → ((j : ℕ) → bit r j ≡ (bit w j && bit trees j)) → r ≡ 0 → PassedOver from (s + 8) trees cols
  block_pass w r united both none x a b = elim (dec_lt x s) [
    | yes c ↦ passed x a c
    | no c ↦ elim (truth (meets trees cols x)) [
      | inl h ↦
          let (t, _, q) = some_at 64 (λ t. bit (get_or cols x 0) t && bit trees t) h in
          let e : s + (x - s) ≡ x = omega arith in
          let here : bit (get_or cols (s + (x - s)) 0) t ≡ true = rw e (and_first (bit (get_or cols x 0) t) (bit trees t) q) in
          let has : bit w t ≡ true = united t ∙ some_of 8 (λ i. bit (get_or cols (s + i) 0) t) (x - s) (omega arith) here in
          clash (both t ∙ rw has (and_second (bit (get_or cols x 0) t) (bit trees t) q)) (rw none (bit_zero t))
      | inr h ↦ h
    ]
  ]

-- Blocks of eight, one behind the other.
module _ (from spares trees : ℕ) (cols : List ℕ) (n : ℕ) (h : from + 8 * n ≤ spares) where
  blocks_pass :
      (k : ℕ) → ((b : ℕ) → 0 ≤ b → b < k → PassedOver (from + 8 * b) (from + 8 * b + 8) trees cols)
      → PassedOver from (from + 8 * k) trees cols
  blocks_pass k each x a b = each ((x - from) / 8) (omega arith) (omega arith) x (omega arith) (omega arith)

  -- A search among them for the first that has a member of the set: those before it have none.
  pub blocks_search :
      (Found : ℕ → Type 0) (r : Option ℕ)
      → MatchOption r ((b : ℕ) → 0 ≤ b → b < n → PassedOver (from + 8 * b) (from + 8 * b + 8) trees cols)
      (λ i. (0 ≤ i) × (i < n) × Found i × ((b : ℕ) → 0 ≤ b → b < i → PassedOver (from + 8 * b) (from + 8 * b + 8) trees cols))
      → (from + 8 * unwrap_or r n ≤ spares) × PassedOver from (from + 8 * unwrap_or r n) trees cols
  blocks_search Found None each = (omega arith, blocks_pass n each)
  blocks_search Found (Some i) (_, l, _, each) = (omega arith, blocks_pass i each)

-- One column more united.
some_next : (i : ℕ) (p : ℕ → Bool) → (ltb (first i p) i || p i) ≡ ltb (first (i + 1) p) (i + 1)
unfolding first
some_next i p = rw add-one (elim (dec_lt (first i p) i) [
  | yes l ↦ rw (lt-ltb (first i p) i l) (sym (lt-ltb (first i p) (suc i) (omega arith)))
  | no l ↦ rw (le-ltb (first i p) i (omega arith)) (elim (truth (p i)) [
    | inl h ↦ rw h (sym (lt-ltb i (suc i) (omega arith)))
    | inr h ↦ rw h (sym (le-ltb (suc i) (suc i) (omega arith)))
  ])
])

pub united_none : (from : ℕ) (cols : List ℕ) (t : ℕ) → bit 0 t ≡ ltb (first 0 (λ i. bit (get_or cols (from + i) 0) t)) 0
unfolding first
united_none from cols t = bit_zero t

pub united_turn :
    (from : ℕ) (cols : List ℕ) (i w w' : ℕ) → ((t : ℕ) → bit w t ≡ ltb (first i (λ i. bit (get_or cols (from + i) 0) t)) i)
    → ((t : ℕ) → bit w' t ≡ (bit w t || bit (get_or cols (from + i) 0) t))
    → (t : ℕ) → bit w' t ≡ ltb (first (i + 1) (λ i. bit (get_or cols (from + i) 0) t)) (i + 1)
united_turn from cols i w w' h more t = more t ∙ rw (h t) (some_next i (λ i. bit (get_or cols (from + i) 0) t))
