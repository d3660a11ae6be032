-- The pairs that violate the test of a minimum spanning tree, counted, and how one step of one cost changes the count. The laws hold
-- for any relation between n non-tree edges and m tree ranks. Assumes nothing.
use Rattle.std.specs.Prelude.{ℕ, zero, suc, ◌+◌, ◌*◌, ◌≤◌, ◌<◌, ◌≡◌, refl, Bool, true, false, cond, ◌&&◌, ltb, eqb}
use Rattle.std.proofs.Math.Decide.{dec_lt, ℕ_discrete}
use Rattle.std.proofs.Common.{suc-mul, arith, sym, ap, ◌∙◌, inl, inr, lt-ltb, le-ltb, eq-eqb, ne_eqb}
use Rattle.loops.specs.Below.{sum}
use Rattle.loops.specs.Loop.{put}
use Rattle.loops.specs.PutLaws.{put_same, put_other}
use Rattle.loops.specs.SumLaws.{sum_same, sum_plus, sum_change}
use Rattle.loops.specs.TestLaws.{truth}

-- 1 if so, else 0.
abbrev pub one : Bool → ℕ
one b = cond b 1 0

-- Pairs of a non-tree edge s, of n, and a tree rank k, of m: s lies over k and costs less.
abbrev pub violations : ℕ → ℕ → (ℕ → ℕ → Bool) → (ℕ → ℕ) → (ℕ → ℕ) → ℕ
violations n m over cs ct = sum n (λ s. sum m (λ k. one (over s k && ltb (cs s) (ct k))))

-- ---- one step

-- One cost more: what costs just x is now below it.
less_more : (b : Bool) (y x : ℕ) → one (b && ltb y (suc x)) ≡ one (b && ltb y x) + one (b && eqb y x)
less_more false y x = refl
less_more true y x = elim (dec_lt y x) [
  | yes l ↦ rw (lt-ltb y x l, lt-ltb y (suc x) (omega arith), ne_eqb y x (λ e. omega (arith, e))) refl
  | no l ↦ elim (ℕ_discrete y x) [
    | yes e ↦ rw (le-ltb y x (omega arith), lt-ltb y (suc x) (omega arith), eq-eqb y x e) refl
    | no e ↦ rw (le-ltb y x (omega arith), le-ltb y (suc x) (omega arith), ne_eqb y x e) refl
  ]
]

less_fewer : (b : Bool) (x z : ℕ) → one (b && ltb (suc x) z) + one (b && eqb z (suc x)) ≡ one (b && ltb x z)
less_fewer false x z = refl
less_fewer true x z = elim (dec_lt (suc x) z) [
  | yes l ↦ rw (lt-ltb (suc x) z l, lt-ltb x z (omega arith), ne_eqb z (suc x) (λ e. omega (arith, e))) refl
  | no l ↦ elim (ℕ_discrete z (suc x)) [
    | yes e ↦ rw (le-ltb (suc x) z (omega arith), lt-ltb x z (omega arith), eq-eqb z (suc x) e) refl
    | no e ↦ rw (le-ltb (suc x) z (omega arith), le-ltb x z (omega arith), ne_eqb z (suc x) e) refl
  ]
]

module _ (n m : ℕ) (over : ℕ → ℕ → Bool) (cs ct : ℕ → ℕ) where
  -- A tree rank one up: pairs with the edges over it that cost what it did are violated too.
  pub tree_up :
      (k : ℕ) → k < m
      → violations n m over cs (put ct k (suc (ct k))) ≡ violations n m over cs ct + sum n (λ s. one (over s k && eqb (cs s) (ct k)))
  tree_up k l =
      sum_same n _ (λ s. sum m (λ j. one (over s j && ltb (cs s) (ct j))) + one (over s k && eqb (cs s) (ct k))) (λ s h. row s)
      ∙ sum_plus n (λ s. sum m (λ j. one (over s j && ltb (cs s) (ct j)))) (λ s. one (over s k && eqb (cs s) (ct k)))
    where
      row :
          (s : ℕ) → sum m (λ j. one (over s j && ltb (cs s) (put ct k (suc (ct k)) j)))
          ≡ sum m (λ j. one (over s j && ltb (cs s) (ct j))) + one (over s k && eqb (cs s) (ct k))
      row s =
          let here : one (over s k && ltb (cs s) (put ct k (suc (ct k)) k))
          ≡ one (over s k && ltb (cs s) (ct k)) + one (over s k && eqb (cs s) (ct k)) =
          ap (λ (x : ℕ). one (over s k && ltb (cs s) x)) (put_same ct k (suc (ct k))) ∙ less_more (over s k) (cs s) (ct k) in
          omega (
            arith,
            here,
            sum_change m (λ j. one (over s j && ltb (cs s) (put ct k (suc (ct k)) j))) (λ j. one (over s j && ltb (cs s) (ct j))) k l
                (λ j h d. ap (λ (x : ℕ). one (over s j && ltb (cs s) x)) (put_other ct k (suc (ct k)) j d)),
          )

  -- A non-tree edge one up: pairs with the tree ranks under it that cost what it now does are violated no more.
  pub spare_up :
      (s : ℕ) → s < n
      → violations n m over (put cs s (suc (cs s))) ct + sum m (λ k. one (over s k && eqb (ct k) (suc (cs s)))) ≡ violations n m over cs ct
  spare_up s l =
      let here : sum m (λ k. one (over s k && ltb (put cs s (suc (cs s)) s) (ct k))) + sum m (λ k. one (over s k && eqb (ct k) (suc (cs s))))
      ≡ sum m (λ k. one (over s k && ltb (cs s) (ct k))) =
      sym (sum_plus m _ _)
      ∙ sum_same m _ _ (λ k h.
      ap (λ (x : ℕ). one (over s k && ltb x (ct k)) + one (over s k && eqb (ct k) (suc (cs s)))) (put_same cs s (suc (cs s)))
      ∙ less_fewer (over s k) (cs s) (ct k)) in
      omega (
        arith,
        here,
        sum_change n (λ e. sum m (λ k. one (over e k && ltb (put cs s (suc (cs s)) e) (ct k)))) (λ e. sum m (λ k. one (over e k && ltb (cs e) (ct k)))) s l
            (λ e h d. ap (λ (x : ℕ). sum m (λ k. one (over e k && ltb x (ct k)))) (put_other cs s (suc (cs s)) e d)),
      )

  -- Costs that are the same wherever one lies over the other.
  pub violations_same :
      (cs' ct' : ℕ → ℕ) → ((s k : ℕ) → s < n → k < m → over s k ≡ true → (cs s ≡ cs' s) × (ct k ≡ ct' k))
      → violations n m over cs ct ≡ violations n m over cs' ct'
  violations_same cs' ct' same = sum_same n _ _ (λ s a. sum_same m _ _ (λ k b. pair s k a b))
    where
      pair : (s k : ℕ) → s < n → k < m → one (over s k && ltb (cs s) (ct k)) ≡ one (over s k && ltb (cs' s) (ct' k))
      pair s k a b =
          elim (truth (over s k)) [
            | inl h ↦ let (p, q) = same s k a b h in rw (p, q) refl
            | inr h ↦ rw h refl
          ]

-- ---- how many there can be

one_most : (b : Bool) → one b ≤ 1
one_most true = omega arith
one_most false = omega arith

sum_most : (n b : ℕ) (f : ℕ → ℕ) → ((i : ℕ) → i < n → f i ≤ b) → sum n f ≤ n * b
unfolding sum
sum_most zero b f most = omega arith
sum_most (suc n) b f most = omega (arith, sum_most n b f (λ i l. most i (omega arith)), most n (omega arith), suc-mul n b)

pub ones_most : (n : ℕ) (p : ℕ → Bool) → sum n (λ i. one (p i)) ≤ n
ones_most n p = omega (arith, sum_most n 1 (λ i. one (p i)) (λ i l. one_most (p i)))

pub violations_most : (n m : ℕ) (over : ℕ → ℕ → Bool) (cs ct : ℕ → ℕ) → violations n m over cs ct ≤ n * m
violations_most n m over cs ct =
    sum_most n m (λ s. sum m (λ k. one (over s k && ltb (cs s) (ct k)))) (λ s l. ones_most m (λ k. over s k && ltb (cs s) (ct k)))
