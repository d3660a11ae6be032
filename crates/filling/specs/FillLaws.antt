-- A copy, element by element, into the first places of an array: each element is some numbers. Assumes nothing.
use Prim.Native.Nat.{ℕ, suc, ◌+◌, ◌*◌, ◌<◌, ◌≤◌}
use native.Mathlib.Omega.{arith}
use Rattle.std.specs.Prelude.{◌≡◌, set, take}
use Rattle.std.proofs.Math.Path.{refl, sym, ap}
use Rattle.std.proofs.Common.{◌∙◌, length-set, length-take-le, get_or-take}
use mathlib.Core.List.{List, [], ◌∷◌, ◌++◌, flat_map}
use Rattle.std.proofs.Math.ListN.{length, get_or, drop}
use Rattle.std.proofs.Math.Seq.{sets, drop-cons, drop-length}
use Rattle.loops.specs.GatherLaws.{length_tabulate, get_d_tabulate}
use Rattle.frame.specs.Job.{fields}
use Rattle.records.specs.declared.Link.{Link}
use Rattle.records.specs.Records.{zero_link}
use Rattle.accept.specs.ListJobs.{job_link}
use Rattle.codec.specs.Numbers.{numbers_at}
use Rattle.filling.specs.Filling.{link_numbers}

module _ {A : Type 0} (d : A) (g : A → List ℕ) (w : ℕ) (xs : List A) (before : List ℕ) where
  -- The first e elements stand in the array: with the others it holds what it is to hold.
  pub record Copying (room : List ℕ) (e : ℕ) : Type 0 where
    pub within : e ≤ length xs
    pub size : length room ≡ length before
    pub rest : sets room (w * e) (flat_map g (drop e xs)) ≡ sets before 0 (flat_map g xs)

  pub copy_start : Copying before 0
  copy_start = record { within = omega arith; size = refl; rest = ap (λ (k : ℕ). sets before k (flat_map g xs)) (omega arith) }

  pub copy_turn :
      (room after : List ℕ) (e : ℕ) →
      e < length xs →
      Copying room e →
      length after ≡ length room →
      ((ys : List ℕ) → sets room (w * e) (g (get_or xs e d) ++ ys) ≡ sets after (w * (e + 1)) ys) →
      Copying after (e + 1)
  unfolding flat_map
  copy_turn room after e l c size step =
      let one : suc e ≡ e + 1 = omega arith in
      let next : drop e xs ≡ get_or xs e d ∷ drop (e + 1) xs = drop-cons xs e d l ∙ ap (λ (k : ℕ). get_or xs e d ∷ drop k xs) one in
      record {
        within = omega (arith, l);
        size = size ∙ c.size;
        rest = sym (step (flat_map g (drop (e + 1) xs))) ∙ ap (λ (ys : List A). sets room (w * e) (flat_map g ys)) (sym next) ∙ c.rest;
      }

  pub copy_end : (room : List ℕ) (e : ℕ) → length xs ≤ e → Copying room e → room ≡ sets before 0 (flat_map g xs)
  unfolding flat_map
  copy_end room e l c =
      let all : length xs ≡ e = omega (arith, l, c.within) in
      let none : drop e xs ≡ [] = sym (ap (λ (k : ℕ). drop k xs) all) ∙ drop-length xs in
      sym (ap (λ (ys : List A). sets room (w * e) (flat_map g ys)) none) ∙ c.rest

-- What a turn of each loop stores.
one_stored : (room : List ℕ) (e a : ℕ) (ys : List ℕ) → sets room (1 * e) (a ∷ ys) ≡ sets (set room e a) (1 * (e + 1)) ys
one_stored room e a ys =
    let here : 1 * e ≡ e = omega arith in
    let next : suc e ≡ 1 * (e + 1) = omega arith in
    ap (λ (k : ℕ). sets room k (a ∷ ys)) here ∙ ap (λ (k : ℕ). sets (set room e a) k ys) next

four_stored :
    (room : List ℕ) (e a b c d : ℕ) (ys : List ℕ) →
    sets room (4 * e) (a ∷ b ∷ c ∷ d ∷ ys) ≡ sets (set (set (set (set room (4 * e) a) (4 * e + 1) b) (4 * e + 2) c) (4 * e + 3) d) (4 * (e + 1)) ys
four_stored room e a b c d ys =
    let k = 4 * e in
    let next : suc (suc (suc (suc k))) ≡ 4 * (e + 1) = omega arith in
    let p₁ : suc k ≡ k + 1 = omega arith in
    let p₂ : suc (suc k) ≡ k + 2 = omega arith in
    let p₃ : suc (suc (suc k)) ≡ k + 3 = omega arith in
    λ i. sets (set (set (set (set room k a) (p₁ i) b) (p₂ i) c) (p₃ i) d) (next i) ys

-- ---- links

module _ (links : List Link) (count : ℕ) (before : List ℕ) (many : count ≤ length links) where
  abbrev pub LinksCopying : List ℕ → ℕ → Type 0
  LinksCopying room e = Copying zero_link (λ l. fields (job_link l)) 4 (take count links) before room e

  pub links_turn :
      (room : List ℕ) (e : ℕ) → e < count → LinksCopying room e →
      let l = get_or links e zero_link in
      LinksCopying (set (set (set (set room (4 * e) l.end1) (4 * e + 1) l.end2) (4 * e + 2) l.cost) (4 * e + 3) l.mark) (e + 1)
  links_turn room e h c =
      let l = get_or links e zero_link in
      let here : get_or (take count links) e zero_link ≡ l = get_or-take count links e zero_link h in
      copy_turn zero_link (λ l. fields (job_link l)) 4 (take count links) before room _ e (omega (arith, h, length-take-le count links many)) c
      (simp length-set refl)
      λ ys. ap (λ (x : Link). sets room (4 * e) (x.end1 ∷ x.end2 ∷ x.cost ∷ x.mark ∷ ys)) here ∙
      four_stored room e l.end1 l.end2 l.cost l.mark ys

  pub links_end : (room : List ℕ) (e : ℕ) → count ≤ e → LinksCopying room e → room ≡ sets before 0 (link_numbers (take count links))
  links_end room e h c = copy_end zero_link (λ l. fields (job_link l)) 4 (take count links) before room e (omega (arith, h, length-take-le count links many)) c

-- ---- numbers

module _ (values : List ℕ) (count : ℕ) (before : List ℕ) where
  abbrev pub NumbersCopying : List ℕ → ℕ → Type 0
  NumbersCopying room e = Copying 0 (λ x. x ∷ []) 1 (numbers_at count values) before room e

  pub numbers_turn : (room : List ℕ) (e : ℕ) → e < count → NumbersCopying room e → NumbersCopying (set room e (get_or values e 0)) (e + 1)
  numbers_turn room e h c =
      let f : ℕ → ℕ = λ e. get_or values e 0 in
      copy_turn 0 (λ x. x ∷ []) 1 (numbers_at count values) before room _ e (omega (arith, h, length_tabulate f count)) c
      (simp length-set refl)
      λ ys. ap (λ (x : ℕ). sets room (1 * e) (x ∷ ys)) (get_d_tabulate f count e 0 h) ∙ one_stored room e (f e) ys

  ones : (xs : List ℕ) → flat_map (λ x. x ∷ []) xs ≡ xs
  unfolding flat_map
  ones [] = refl
  ones (x ∷ xs) = ap (λ (r : List ℕ). x ∷ r) (ones xs)

  pub numbers_end : (room : List ℕ) (e : ℕ) → count ≤ e → NumbersCopying room e → room ≡ sets before 0 (numbers_at count values)
  numbers_end room e h c =
      copy_end 0 (λ x. x ∷ []) 1 (numbers_at count values) before room e (omega (arith, h, length_tabulate (λ e. get_or values e 0) count)) c
      ∙ ap (λ (xs : List ℕ). sets before 0 xs) (ones (numbers_at count values))
