-- The reader of a sheet's entries, and what it finds: entries that rise, are in the job and lead to costs in range. One of them at
-- a time, from the front. Assumes nothing.
use Prim.Native.Nat.{ℕ, zero, suc, ◌+◌, ◌^◌, ◌<◌, ◌≤◌}
use Rattle.std.proofs.Math.Decide.{ℕ_discrete}
use Rattle.std.proofs.Common.{arith, sym, subst, ◌∙◌, take-append-drop, length-drop, drop-drop}
use Rattle.std.specs.Prelude.{◌≡◌, ◌≢◌, Bool, true, false, not, ◌&&◌, leb, ltb, eqb, pos, ◌+ℤ◌, length, drop}
use Rattle.std.proofs.Math.Path.{refl, ap}
use Rattle.std.proofs.Math.Logic.{inl, inr}
use mathlib.Core.List.Memᴰ
use mathlib.Core.List.{List, [], ◌∷◌, ◌++◌, flat_map, Memᴰ}
use Rattle.std.proofs.Math.Option.{Option, some, none}
use Rattle.std.proofs.Math.IntN.{+ℤ_idr}
use Rattle.std.proofs.Math.Seq.{drop-append_seam, drop-append-add}
use borrow.Author.Tests.{eq-eqb, ne_eqb, le-leb, lt-ltb, leb-true, ltb-true, eqb-false, not-true}
use Rattle.limits.specs.Limits.{max_number, change_bytes}
use Rattle.loops.specs.Below.{choose}
use Rattle.loops.specs.Loop.{put}
use Rattle.loops.specs.PutLaws.{put_same, put_other}
use Rattle.loops.specs.TestLaws.{and_first, and_second}
use Rattle.number.specs.Number.{Bytes, encode, Decoded, decode}
use Rattle.number.specs.Number.Decoded.{number}
use Rattle.number.proofs.Laws.{bytes_drop, decode_encode, encode_decode, decode_bound, decode_size}
use Rattle.frame.specs.Job.{bytes_by}
use Rattle.sheet.specs.Sheet.{Move, coded, move_numbers, sheet_frame, MoveIn, RisingMoves, InRange, change_of}
use Rattle.sheet.specs.Reading.{Entry, with_code, with_link, entry_of, change_from, cost_from, may_move, move_to, move_by, apply_from}
use Rattle.sheet.specs.Reading.Entry.{entry}
use Rattle.sheet.proofs.ChangeLaws.{change_back, code_back, coded_zero, cost_found, found_cost, pos_same, unnamed}

-- The bytes of entries.
abbrev pub entries_bytes : List Move → List ℕ
entries_bytes ks = bytes_by change_bytes (flat_map move_numbers ks)

-- ---- one entry

-- What stands in front of the bytes s: a link and a code, both in shortest form.
pub record InFront (s : List ℕ) (e z k : ℕ) : Type 0 where
  pub joined : encode change_bytes e ++ (encode change_bytes z ++ drop k s) ≡ s
  pub link_fits : e < 128 ^ change_bytes
  pub code_fits : z < 128 ^ change_bytes

coded_behind :
    (s : List ℕ) (e' n : ℕ) → Bytes s → decode change_bytes s ≡ number e' n → (r : Decoded) → decode change_bytes (drop n s) ≡ r
    → (e z k : ℕ) → with_code e' n r ≡ entry e z k → InFront s e z k
unfolding with_code
coded_behind s e' n h q Decoded.none f e z k g = let z : ◌≡◌ {A = ℕ} 0 1 = cc in absurd (omega arith)
coded_behind s e' n h q (number z' k') f e z k g =
    let same : e' ≡ e = cc in
    let code : z' ≡ z = cc in
    let size : n + k' ≡ k = cc in
    let rest : drop k' (drop n s) ≡ drop k s = drop-drop k' n s ∙ ap (λ (i : ℕ). drop i s) size in
    rw (← same, ← code)
    record {
      joined =
          rw (encode_decode change_bytes s e' n h q, encode_decode change_bytes (drop n s) z' k' (bytes_drop n s h) f, ← rest, take-append-drop k' (drop n s))
          (take-append-drop n s);
      link_fits = decode_bound change_bytes s e' n h q;
      code_fits = decode_bound change_bytes (drop n s) z' k' (bytes_drop n s h) f;
    }

linked : (s : List ℕ) → Bytes s → (r : Decoded) → decode change_bytes s ≡ r → (e z k : ℕ) → with_link s r ≡ entry e z k → InFront s e z k
unfolding with_link
linked s h Decoded.none q e z k g = let z : ◌≡◌ {A = ℕ} 0 1 = cc in absurd (omega arith)
linked s h (number e' n) q e z k g = coded_behind s e' n h q (decode change_bytes (drop n s)) refl e z k g

pub entry_read : (s : List ℕ) → Bytes s → (e z k : ℕ) → entry_of s ≡ entry e z k → InFront s e z k
entry_read s h e z k g = linked s h (decode change_bytes s) refl e z k g

-- It takes two bytes at least, and ends within the bytes.
size_behind :
    (s : List ℕ) (e' n : ℕ) → 0 < n → n ≤ length s → (r : Decoded) → decode change_bytes (drop n s) ≡ r
    → (e z k : ℕ) → with_code e' n r ≡ entry e z k → (2 ≤ k) × (k ≤ length s)
unfolding with_code
size_behind s e' n p l Decoded.none f e z k g = let z : ◌≡◌ {A = ℕ} 0 1 = cc in absurd (omega arith)
size_behind s e' n p l (number z' k') f e z k g =
    let size : n + k' ≡ k = cc in
    omega (arith, size, decode_size change_bytes (drop n s) z' k' f, length-drop n s)

size_linked :
    (s : List ℕ) (r : Decoded) → decode change_bytes s ≡ r → (e z k : ℕ) → with_link s r ≡ entry e z k → (2 ≤ k) × (k ≤ length s)
unfolding with_link
size_linked s Decoded.none q e z k g = let z : ◌≡◌ {A = ℕ} 0 1 = cc in absurd (omega arith)
size_linked s (number e' n) q e z k g =
    let (p, l, _) = decode_size change_bytes s e' n q in
    size_behind s e' n p l (decode change_bytes (drop n s)) refl e z k g

pub entry_size : (s : List ℕ) (e z k : ℕ) → entry_of s ≡ entry e z k → (2 ≤ k) × (k ≤ length s)
entry_size s e z k g = size_linked s (decode change_bytes s) refl e z k g

-- Written and read again.
pub entry_written :
    (e z : ℕ) (rest : List ℕ) → e < 128 ^ change_bytes → z < 128 ^ change_bytes
    → entry_of (encode change_bytes e ++ (encode change_bytes z ++ rest)) ≡ entry e z (length (encode change_bytes e) + length (encode change_bytes z))
unfolding with_link with_code
entry_written e z rest l l' =
    rw (
      decode_encode change_bytes e (encode change_bytes z ++ rest) (omega arith) l,
      drop-append_seam (encode change_bytes e) (encode change_bytes z ++ rest),
      decode_encode change_bytes z rest (omega arith) l',
    )

pub rest_behind :
    (e z : ℕ) (rest : List ℕ) →
    drop (length (encode change_bytes e) + length (encode change_bytes z)) (encode change_bytes e ++ (encode change_bytes z ++ rest)) ≡ rest
rest_behind e z rest =
    drop-append-add (encode change_bytes e) (encode change_bytes z ++ rest) (length (encode change_bytes z)) ∙ drop-append_seam (encode change_bytes z) rest

-- The bytes of entries, the first of them apart.
pub entries_more :
    (k : Move) (ks : List Move) →
    entries_bytes (k ∷ ks) ≡ encode change_bytes k.edge ++ (encode change_bytes (coded k.change) ++ entries_bytes ks)
unfolding flat_map
entries_more k ks = refl

-- A sheet is its count, then its entries.
pub sheet_parts : (ks : List Move) → sheet_frame ks ≡ encode change_bytes (length ks) ++ entries_bytes ks
unfolding flat_map
sheet_parts ks = refl

-- What may move: a link of the job, not below `least`, by a code other than 0.
pub moves_may : (m least e z : ℕ) → may_move m least e z ≡ true → (least ≤ e) × (e < m) × (z ≢ 0)
moves_may m least e z t =
    let first = and_first (leb least e && ltb e m) (not (eqb z 0)) t in (
      leb-true least e (and_first (leb least e) (ltb e m) first),
      ltb-true e m (and_second (leb least e) (ltb e m) first),
      eqb-false z 0 (not-true (eqb z 0) (and_second (leb least e && ltb e m) (not (eqb z 0)) t)),
    )

pub may_move_lem : (m least e z : ℕ) → least ≤ e → e < m → z ≢ 0 → may_move m least e z ≡ true
may_move_lem m least e z l k n = rw (le-leb least e l, lt-ltb e m k, ne_eqb z 0 n)

-- ---- what is found

-- The bytes s hold n entries, of links from `least` on, and from the costs c they lead to the costs d.
pub record Applied (m n least : ℕ) (c d : ℕ → ℕ) (s : List ℕ) : Type 0 where
  pub moves : List Move
  pub count : length moves ≡ n
  pub joined : entries_bytes moves ≡ s
  pub rising : RisingMoves moves
  pub each : (k : Move) → Memᴰ k moves → MoveIn m k
  pub from : (k : Move) → Memᴰ k moves → least ≤ k.edge
  pub changed : (e : ℕ) → pos (d e) ≡ pos (c e) +ℤ change_of moves e
  pub limit : (e : ℕ) → c e ≤ max_number → d e ≤ max_number

nothing_moved : (m least : ℕ) (c : ℕ → ℕ) → Applied m 0 least c c []
unfolding flat_map change_of
nothing_moved m least c =
    record {
      moves = [];
      count = refl;
      joined = refl;
      rising = tt;
      each = λ k m. absurd (Memᴰ.not-nil m);
      from = λ k m. absurd (Memᴰ.not-nil m);
      changed = λ e. sym (+ℤ_idr (pos (c e)));
      limit = λ e l. l;
    }

-- An entry in front of what was found behind it.
module _ (m n least : ℕ) (c d : ℕ → ℕ) (s : List ℕ) (e z k v : ℕ) (f : InFront s e z k) (low : least ≤ e) (high : e < m) (moved : z ≢ 0)
    (new : pos (c e) +ℤ change_from z ≡ pos v) (fits : v ≤ max_number) (a : Applied m n (suc e) (put c e v) d (drop k s)) where
  front : Move
  front = record { edge = e; change = change_from z }

  front_in : MoveIn m front
  unfolding front
  front_in =
      record {
        inside = high;
        moved = λ q. moved (sym (code_back z) ∙ ap coded q);
        limit = rw (code_back z) f.code_fits;
      }

  -- the links behind it are not its own
  behind_other : (x : Move) → Memᴰ x a.moves → x.edge ≢ e
  behind_other x q = λ r. omega (arith, r, a.from x q)

  new_cost : (x : ℕ) → pos (d x) ≡ pos (c x) +ℤ change_of (front ∷ a.moves) x
  unfolding front change_of
  new_cost x =
      elim (ℕ_discrete e x) [
        | yes q ↦
            rw (← q, eq-eqb e e refl, new)
            (a.changed e ∙ rw (put_same c e v, unnamed a.moves e behind_other) (+ℤ_idr (pos v)))
        | no q ↦
            rw (ne_eqb e x q, ← put_other c e v x (λ r. q (sym r)))
            (a.changed x)
      ]

  new_limit : (x : ℕ) → c x ≤ max_number → d x ≤ max_number
  new_limit x l =
      a.limit x
      (elim (ℕ_discrete e x) [
        | yes q ↦ rw (← q, put_same c e v) fits
        | no q ↦ rw (put_other c e v x (λ r. q (sym r))) l
      ])

  one_more : Applied m (suc n) least c d s
  unfolding front
  one_more =
      record {
        moves = front ∷ a.moves;
        count = ap suc a.count;
        joined = entries_more front a.moves ∙ rw (code_back z, a.joined) f.joined;
        rising = (λ x q. a.from x q, a.rising);
        each = λ x q. elim (Memᴰ.cases_cons q) [ inl r ↦ rw r front_in | inr r ↦ a.each x r ];
        from = λ x q. elim (Memᴰ.cases_cons q) [ inl r ↦ rw r low | inr r ↦ omega (arith, a.from x r) ];
        changed = new_cost;
        limit = new_limit;
      }

-- ---- the reader finds nothing else

sound_cost :
    (m n least : ℕ) (c d : ℕ → ℕ) (s : List ℕ) (e z k : ℕ) → InFront s e z k → (least ≤ e) × (e < m) × (z ≢ 0)
    → ((v : ℕ) → apply_from m n (suc e) (put c e v) (drop k s) ≡ some d → Applied m n (suc e) (put c e v) d (drop k s))
    → (o : Option ℕ) → cost_from (pos (c e) +ℤ change_from z) ≡ o → move_to e c o (λ c'. apply_from m n (suc e) c' (drop k s)) ≡ some d
    → Applied m (suc n) least c d s
unfolding move_to
sound_cost m n least c d s e z k f may rec none q g = let z : ◌≡◌ {A = ℕ} 0 1 = cc in absurd (omega arith)
sound_cost m n least c d s e z k f may rec (some v) q g =
    let (new, fits) = cost_found (pos (c e) +ℤ change_from z) v q in
    one_more m n least c d s e z k v f may.0 may.1 may.2 new fits (rec v g)

sound_entry :
    (m n least : ℕ) (c d : ℕ → ℕ) (s : List ℕ) → Bytes s
    → ((least' : ℕ) (c' : ℕ → ℕ) (s' : List ℕ) → Bytes s' → apply_from m n least' c' s' ≡ some d → Applied m n least' c' d s')
    → (x : Entry) → entry_of s ≡ x → move_by m least c x (λ k least' c'. apply_from m n least' c' (drop k s)) ≡ some d → Applied m (suc n) least c d s
unfolding move_by
sound_entry m n least c d s h rec Entry.unread q g = let z : ◌≡◌ {A = ℕ} 0 1 = cc in absurd (omega arith)
sound_entry m n least c d s h rec (entry e z k) q g = of (may_move m least e z) refl g
  where
    of :
        (b : Bool) → may_move m least e z ≡ b
        → choose b (λ _. move_to e c (cost_from (pos (c e) +ℤ change_from z)) (λ c'. apply_from m n (suc e) c' (drop k s))) (λ _. none) ≡ some d
        → Applied m (suc n) least c d s
    of false t g = let z : ◌≡◌ {A = ℕ} 0 1 = cc in absurd (omega arith)
    of true t g =
        sound_cost m n least c d s e z k (entry_read s h e z k q) (moves_may m least e z t)
        (λ v r. rec (suc e) (put c e v) (drop k s) (bytes_drop k s h) r)
        (cost_from (pos (c e) +ℤ change_from z)) refl g

pub apply_sound : (m n least : ℕ) (c d : ℕ → ℕ) (s : List ℕ) → Bytes s → apply_from m n least c s ≡ some d → Applied m n least c d s
unfolding apply_from
apply_sound m zero least c d [] h g =
    let same : c ≡ d = cc in
    subst (λ (d : ℕ → ℕ). Applied m 0 least c d []) same (nothing_moved m least c)
apply_sound m zero least c d (b ∷ s) h g = let z : ◌≡◌ {A = ℕ} 0 1 = cc in absurd (omega arith)
apply_sound m (suc n) least c d s h g = sound_entry m n least c d s h (λ least' c' s'. apply_sound m n least' c' d s') (entry_of s) refl g

-- ---- and it finds them all

-- One turn over an entry that was written.
apply_entry :
    (m n least : ℕ) (c : ℕ → ℕ) (k : Move) (rest : List ℕ) (v : ℕ) → m ≤ 128 ^ change_bytes → MoveIn m k → least ≤ k.edge
    → cost_from (pos (c k.edge) +ℤ k.change) ≡ some v
    → apply_from m (suc n) least c (encode change_bytes k.edge ++ (encode change_bytes (coded k.change) ++ rest))
    ≡ apply_from m n (suc k.edge) (put c k.edge v) rest
unfolding apply_from move_by move_to
apply_entry m n least c k rest v few f low cost =
    rw (
      entry_written k.edge (coded k.change) rest (omega (arith, f.inside)) f.limit,
      may_move_lem m least k.edge (coded k.change) low f.inside (λ q. f.moved (coded_zero k.change q)),
      change_back k.change,
      cost,
      rest_behind k.edge (coded k.change) rest,
    )

-- Entries of links from `least` on, that lead to costs in range, are applied.
pub apply_complete :
    (m : ℕ) → m ≤ 128 ^ change_bytes
    → (ks : List Move) (least : ℕ) (c d : ℕ → ℕ) → RisingMoves ks → ((k : Move) → Memᴰ k ks → MoveIn m k) → ((k : Move) → Memᴰ k ks → least ≤ k.edge)
    → ((e : ℕ) → e < m → pos (d e) ≡ pos (c e) +ℤ change_of ks e) → InRange m d
    → (d' : ℕ → ℕ) × (apply_from m (length ks) least c (entries_bytes ks) ≡ some d') × ((e : ℕ) → e < m → d' e ≡ d e)
unfolding apply_from flat_map change_of
apply_complete m few [] least c d o each from leads limit = (c, refl, λ e l. sym (pos_same (leads e l ∙ +ℤ_idr (pos (c e)))))
apply_complete m few (k ∷ ks) least c d o each from leads limit =
    let own = each k (Memᴰ.head refl) in
    let e = k.edge in
    let c' : ℕ → ℕ = put c e (d e) in
    let named : pos (d e) ≡ pos (c e) +ℤ k.change = rw (eq-eqb e e refl) at (leads e own.inside) in
    let none-behind : change_of ks e ≡ pos 0 = unnamed ks e (λ x q r. omega (arith, r, o.0 x q)) in
    let leads' : (x : ℕ) → x < m → pos (d x) ≡ pos (c' x) +ℤ change_of ks x = λ x l.
    elim (ℕ_discrete e x) [
      | yes q ↦ rw (← q, put_same c e (d e), none-behind) (sym (+ℤ_idr (pos (d e))))
      | no q ↦ rw (put_other c e (d e) x (λ r. q (sym r))) (rw (ne_eqb e x q) at (leads x l))
    ] in
    let (d', found, same) = apply_complete m few ks (suc e) c' d o.1 (λ x q. each x (Memᴰ.tail q)) (λ x q. o.0 x q) leads' limit in (
      d',
      ap (λ (s : List ℕ). apply_from m (suc (length ks)) least c s) (entries_more k ks)
          ∙ apply_entry m (length ks) least c k (entries_bytes ks) (d e) few own (from k (Memᴰ.head refl))
          (ap cost_from (sym named) ∙ found_cost (d e) (limit e own.inside)) ∙ found,
      same,
    )
