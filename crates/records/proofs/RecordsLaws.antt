-- Laws of links lent as a list: what the copy holds, one more link copied or tested, and a list tested whole.
-- Assumes nothing.
use Rattle.std.specs.Prelude.{ℕ, zero, suc, ◌+◌, ◌*◌, ◌<◌, ◌≤◌, min, ◌≡◌, refl, true, ◌&&◌, List, [], ◌∷◌, length, get_or, set, take, replicate, leb}
use Rattle.std.proofs.Math.Decide.{dec_lt}
use Rattle.std.proofs.Math.Nat.{sub-zero, zero-sub, suc-sub-suc, zero-min, suc-min-suc}
use Rattle.std.proofs.Common.{arith, sym, ap, ◌∙◌, le-leb}
use Rattle.std.proofs.lemmas.List.{length-replicate, get_or-replicate}
use Rattle.std.specs.Int.Bits.{bit_or, or_add_and}
use Rattle.std.proofs.lemmas.Nat.{or_lt, and_le_l, and_le_r}
use Rattle.std.proofs.lemmas.Bool.{lt-leb}
use Rattle.limits.specs.Limits.{max_number, number_bytes}
use Rattle.loops.specs.Below.{all_below}
use Rattle.records.specs.declared.Link.{Link}
use Rattle.records.specs.Records.{zero_link, first_links, column_put, small_link, small_to, all_small}

one_more : (i : ℕ) → i + 1 ≡ suc i
one_more i = omega arith

firsts_nil : (n : ℕ) → first_links n [] ≡ replicate n zero_link
unfolding first_links
firsts_nil zero = refl
firsts_nil (suc n) = ap (λ (k : ℕ). replicate k zero_link) (sub-zero (suc n))

firsts_cons : (n : ℕ) (y : Link) (ys : List Link) → first_links (suc n) (y ∷ ys) ≡ y ∷ first_links n ys
unfolding first_links
firsts_cons n y ys = rw (suc-sub-suc n (length ys)) refl

-- The copy of the first i links of a list: of none, of one more, of one more where the copy is full, and of all that are
-- looked at.
pub firsts_none : (n : ℕ) (ys : List Link) → first_links n (take 0 ys) ≡ replicate n zero_link
firsts_none n ys = firsts_nil n

more : (n i : ℕ) (ys : List Link) → i < n → i < length ys
    → set (first_links n (take i ys)) i (get_or ys i zero_link) ≡ first_links n (take (suc i) ys)
more zero i ys l k = absurd (omega arith)
more (suc n) i [] l k = absurd (omega arith)
more (suc n) zero (y ∷ ys) l k = rw (firsts_nil (suc n), firsts_cons n y [], firsts_nil n) refl
more (suc n) (suc i) (y ∷ ys) l k =
    rw (firsts_cons n y (take i ys), firsts_cons n y (take (suc i) ys)) (ap {B = List Link} (λ r. y ∷ r) (more n i ys (omega arith) (omega arith)))

pub firsts_more : (n i : ℕ) (ys : List Link) → i < n → i < length ys
    → set (first_links n (take i ys)) i (get_or ys i zero_link) ≡ first_links n (take (i + 1) ys)
firsts_more n i ys l k = more n i ys l k ∙ ap (λ (j : ℕ). first_links n (take j ys)) (sym (one_more i))

full : (n i : ℕ) (ys : List Link) → n ≤ i → first_links n (take i ys) ≡ first_links n (take (suc i) ys)
unfolding first_links
full zero i ys h = rw (zero-sub (length (take i ys)), zero-sub (length (take (suc i) ys))) refl
full (suc n) zero ys h = absurd (omega arith)
full (suc n) (suc i) [] h = refl
full (suc n) (suc i) (y ∷ ys) h =
    rw (firsts_cons n y (take i ys), firsts_cons n y (take (suc i) ys)) (ap {B = List Link} (λ r. y ∷ r) (full n i ys (omega arith)))

pub firsts_full : (n i : ℕ) (ys : List Link) → n ≤ i → first_links n (take i ys) ≡ first_links n (take (i + 1) ys)
firsts_full n i ys h = full n i ys h ∙ ap (λ (j : ℕ). first_links n (take j ys)) (sym (one_more i))

pub firsts_all : (n m : ℕ) (ys : List Link) → n ≤ m → first_links n (take (min (length ys) m) ys) ≡ first_links n ys
unfolding first_links
firsts_all zero m ys h = rw (zero-sub (length (take (min (length ys) m) ys)), zero-sub (length ys)) refl
firsts_all (suc n) m [] h = rw (zero-min m) refl
firsts_all (suc n) zero (y ∷ ys) h = absurd (omega arith)
firsts_all (suc n) (suc m) (y ∷ ys) h =
    rw (suc-min-suc (length ys) m, firsts_cons n y (take (min (length ys) m) ys), firsts_cons n y ys)
    (ap {B = List Link} (λ r. y ∷ r) (firsts_all n m ys (omega arith)))

-- The copy has n links: those of the list as far as it goes, then zeros.
pub firsts_length : (n : ℕ) (ys : List Link) → length (first_links n ys) ≡ n
unfolding first_links
firsts_length zero ys = rw (zero-sub (length ys)) refl
firsts_length (suc n) [] = rw (sub-zero (suc n)) (ap suc (length-replicate n zero_link))
firsts_length (suc n) (y ∷ ys) = rw (suc-sub-suc n (length ys)) (ap suc (firsts_length n ys))

pub firsts_at : (n : ℕ) (ys : List Link) (e : ℕ) → e < n → get_or (first_links n ys) e zero_link ≡ get_or ys e zero_link
unfolding first_links
firsts_at zero ys e l = absurd (omega arith)
firsts_at (suc n) [] e l = rw (sub-zero (suc n)) (get_or-replicate (suc n) e zero_link zero_link l)
firsts_at (suc n) (y ∷ ys) zero l = refl
firsts_at (suc n) (y ∷ ys) (suc e) l = rw (suc-sub-suc n (length ys)) (firsts_at n ys e (omega arith))

-- A list that the copy holds whole.
pub firsts_take : (n : ℕ) (ys : List Link) → length ys ≤ n → take (length ys) (first_links n ys) ≡ ys
unfolding first_links
firsts_take n [] h = refl
firsts_take zero (y ∷ ys) h = absurd (omega arith)
firsts_take (suc n) (y ∷ ys) h = rw (suc-sub-suc n (length ys)) (ap {B = List Link} (λ r. y ∷ r) (firsts_take n ys (omega arith)))

-- One number of each of the first links, put into a list of numbers: none yet, one more, and what it then holds.
pub filled_none : (f : Link → ℕ) (ys : List Link) (old : List ℕ) → old ≡ column_put f 0 ys old
unfolding column_put
filled_none f ys old = refl

more_filled :
    (f : Link → ℕ) (i : ℕ) (ys : List Link) (old : List ℕ) → i < length ys → i < length old → set (column_put f i ys old) i
    (f (get_or ys i zero_link)) ≡ column_put f (suc i) ys old
unfolding column_put
more_filled f i [] old l k = absurd (omega arith)
more_filled f i (y ∷ ys) [] l k = absurd (omega arith)
more_filled f zero (y ∷ ys) (x ∷ old) l k = refl
more_filled f (suc i) (y ∷ ys) (x ∷ old) l k = ap {B = List ℕ} (λ r. f y ∷ r) (more_filled f i ys old (omega arith) (omega arith))

pub filled_more :
    (f : Link → ℕ) (n i : ℕ) (ys : List Link) (old now : List ℕ) → length ys ≡ n → length old ≡ n → now ≡ column_put f i ys old → i < n → set now i
    (f (get_or ys i zero_link)) ≡ column_put f (i + 1) ys old
filled_more f n i ys old now l k so h =
    ap (λ (r : List ℕ). set r i (f (get_or ys i zero_link))) so ∙
    more_filled f i ys old (omega (arith, l)) (omega (arith, k)) ∙
    ap (λ (j : ℕ). column_put f j ys old) (sym (one_more i))

pub filled_length : (f : Link → ℕ) (n : ℕ) (ys : List Link) (old : List ℕ) → n ≤ length ys → n ≤ length old → length (column_put f n ys old) ≡ length old
unfolding column_put
filled_length f zero ys old l k = refl
filled_length f (suc n) [] old l k = absurd (omega arith)
filled_length f (suc n) (y ∷ ys) [] l k = absurd (omega arith)
filled_length f (suc n) (y ∷ ys) (x ∷ old) l k = ap suc (filled_length f n ys old (omega arith) (omega arith))

pub filled_at :
    (f : Link → ℕ) (n : ℕ) (ys : List Link) (old : List ℕ) (e : ℕ) →
    n ≤ length ys →
    n ≤ length old →
    e < n →
    get_or (column_put f n ys old) e 0 ≡ f (get_or ys e zero_link)
unfolding column_put
filled_at f zero ys old e l k h = absurd (omega arith)
filled_at f (suc n) [] old e l k h = absurd (omega arith)
filled_at f (suc n) (y ∷ ys) [] e l k h = absurd (omega arith)
filled_at f (suc n) (y ∷ ys) (x ∷ old) zero l k h = refl
filled_at f (suc n) (y ∷ ys) (x ∷ old) (suc e) l k h = filled_at f n ys old e (omega arith) (omega arith) (omega arith)

pub filled_past :
    (f : Link → ℕ) (n : ℕ) (ys : List Link) (old : List ℕ) (e : ℕ) →
    n ≤ length ys →
    n ≤ length old →
    n ≤ e →
    get_or (column_put f n ys old) e 0 ≡ get_or old e 0
unfolding column_put
filled_past f zero ys old e l k h = refl
filled_past f (suc n) [] old e l k h = absurd (omega arith)
filled_past f (suc n) (y ∷ ys) [] e l k h = absurd (omega arith)
filled_past f (suc n) (y ∷ ys) (x ∷ old) zero l k h = absurd (omega arith)
filled_past f (suc n) (y ∷ ys) (x ∷ old) (suc e) l k h = filled_past f n ys old e (omega arith) (omega arith) (omega arith)

-- No link tested, and one more.
pub small_none : (ys : List Link) → true ≡ small_to 0 ys
unfolding all_below
small_none ys = refl

pub small_more : (i : ℕ) (ys : List Link) → small_to (i + 1) ys ≡ (small_to i ys && small_link (get_or ys i zero_link))
unfolding all_below
small_more i ys = rw (one_more i) refl

-- A list that is not too long is tested whole.
pub all_small_whole : (ys : List Link) → length ys ≤ max_number → all_small ys ≡ small_to (length ys) ys
all_small_whole ys h = ap (λ (k : ℕ). small_to k ys) (omega arith)

-- The digits of two numbers at once: 2,097,151 has every digit below its highest.
or_small : (a b : ℕ) → leb (bit_or a b) max_number ≡ (leb a max_number && leb b max_number)
or_small a b = of (dec_lt max_number a) (dec_lt max_number b)
  where
    of : Dec (max_number < a) → Dec (max_number < b) → leb (bit_or a b) max_number ≡ (leb a max_number && leb b max_number)
    of (yes h) _ = rw (lt-leb a max_number h, lt-leb (bit_or a b) max_number (omega (arith, h, or_add_and a b, and_le_r a b)))
    of (no k) (yes h) =
        rw (le-leb a max_number (omega arith), lt-leb b max_number h, lt-leb (bit_or a b) max_number (omega (arith, h, or_add_and a b, and_le_l a b)))
    of (no k) (no h) =
        rw (
          le-leb a max_number (omega arith),
          le-leb b max_number (omega arith),
          le-leb (bit_or a b) max_number (omega (arith, or_lt (7 * number_bytes) a b (omega arith) (omega arith))),
        )

-- The test of one link, of all its digits at once.
pub small_at_once : (l : Link) → leb (bit_or (bit_or (bit_or l.end1 l.end2) l.cost) l.mark) max_number ≡ small_link l
small_at_once l =
    rw (or_small (bit_or (bit_or l.end1 l.end2) l.cost) l.mark, or_small (bit_or l.end1 l.end2) l.cost, or_small l.end1 l.end2)
