-- Laws of links in arrays: what the arrays hold after links were put there, past the last link too. Assumes nothing.
use Rattle.std.specs.Prelude.{ℕ, zero, ◌+◌, ◌<◌, ◌≤◌, ◌-◌, ◌≡◌, List, map, length, get_or, drop, replicate}
use Rattle.std.proofs.Common.{arith, sym, ap, ◌∙◌, get_or-drop, get_or-append-add}
use Rattle.std.proofs.Math.Path.{fun_ext}
use Rattle.std.proofs.lemmas.List.{length-map, length-replicate, get_or-replicate}
use Rattle.std.proofs.Math.ListN.{get_or-append, get_or-map, get_or-eq_default}
use Rattle.std.proofs.lemmas.List.Edits.{sets, sets-eq}
use Rattle.frame.specs.Job.{JobLink, no_link}
use Rattle.frame.specs.Arrays.{Columns, link_at, links_at}
use Rattle.loops.specs.GatherLaws.{length_tabulate}
use Rattle.std.proofs.Math.Decide.{dec_lt}

-- What the first places of an array hold after a list was put there.
pub sets_at : (xs l : List ℕ) (k : ℕ) → length xs ≤ length l → k < length xs → get_or (sets l 0 xs) k 0 ≡ get_or xs k 0
sets_at xs l k h m = rw (sets-eq xs l 0 (omega arith)) (get_or-append xs (drop (0 + length xs) l) 0 k m)

pub column :
    (f : JobLink → ℕ) →
    f no_link ≡ 0 →
    (ls : List JobLink) (l : List ℕ) (e : ℕ) →
    length ls ≤ length l →
    e < length ls →
    get_or (sets l 0 (map f ls)) e 0 ≡ f (get_or ls e no_link)
column f z ls l e h k =
    sets_at (map f ls) l e (omega (arith, length-map ls f)) (omega (arith, length-map ls f)) ∙
    ap (λ (d : ℕ). get_or (map f ls) e d) (sym z) ∙
    get_or-map f ls e no_link

-- Four arrays have as many links as are asked for.
pub rows_length : (edges : ℕ) (c : Columns) → length (links_at edges c) ≡ edges
rows_length edges c = length_tabulate (link_at c) edges

-- An array of zeros.
abbrev pub zeros : ℕ → List ℕ
zeros n = replicate n zero

pub length_zeros : (n : ℕ) → length (zeros n) ≡ n
length_zeros n = length-replicate n zero

pub zero_at : (n k : ℕ) → get_or (zeros n) k 0 ≡ zero
zero_at n k =
    elim (dec_lt k n) [
      | yes l ↦ get_or-replicate n k zero 0 l
      | no l ↦ get_or-eq_default (zeros n) 0 (omega (arith, length_zeros n))
    ]

past : (n : ℕ) (xs : List ℕ) (e : ℕ) → length xs ≤ n → length xs ≤ e → get_or (sets (zeros n) 0 xs) e 0 ≡ zero
past n xs e h l =
    let there : e ≡ length xs + (e - length xs) = omega arith in
    rw (sets-eq xs (zeros n) 0 (omega (arith, length_zeros n)), there)
    (get_or-append-add xs (drop (0 + length xs) (zeros n)) (e - length xs) 0 ∙ get_or-drop (0 + length xs) (zeros n) (e - length xs) 0 ∙
    zero_at n (0 + length xs + (e - length xs)))

-- A column of the links, as a function of the link's number.
pub column_held :
    (f : JobLink → ℕ) →
    f no_link ≡ 0 →
    (n : ℕ) (ls : List JobLink) →
    length ls ≤ n →
    ◌≡◌ {A = ℕ → ℕ} (λ e. get_or (sets (zeros n) 0 (map f ls)) e 0) (λ e. f (get_or ls e no_link))
column_held f z n ls h =
    fun_ext λ e.
    elim (dec_lt e (length ls)) [
      | yes l ↦ column f z ls (zeros n) e (omega (arith, length_zeros n)) l
      | no l ↦ past n (map f ls) e (omega (arith, length-map ls f)) (omega (arith, length-map ls f)) ∙
          sym (ap f (get_or-eq_default ls no_link (omega arith)) ∙ z)
    ]
