-- The reader of packet logs finds what is in form, and nothing else; how much to read does not matter; one packet at a time, from the
-- front and at a position. Assumes nothing.
use Prim.Native.Nat.{ℕ, zero, suc, ◌+◌, ◌*◌, ◌<◌, ◌≤◌}
use Rattle.std.proofs.Math.Decide.{ℕ_discrete}
use native.Mathlib.Omega.{arith}
use Rattle.std.proofs.Math.Path.{◌≡◌, refl, ap, subst}
use Rattle.std.proofs.Common.{sym, ◌∙◌, inl, inr, length-append, length-drop, drop_of_length-le, drop-drop, eq-eqb, ne_eqb, le-leb, lt-ltb, leb-true, ltb-true}
use Rattle.std.specs.Prelude.{◌↔◌, Bool, true, false, leb, ltb, eqb, drop}
use Rattle.std.proofs.Math.Bool.{cond}
use mathlib.Core.List.Memᴰ
use mathlib.Core.List.{List, [], ◌∷◌, ◌++◌, flat_map, Memᴰ}
use Rattle.std.proofs.Math.Option.{Option, some, none, map}
use Rattle.std.proofs.Math.ListN.{length}
use Rattle.limits.specs.Limits.{max_edges, number_bytes, change_bytes}
use Rattle.loops.specs.TestLaws.{and_first, and_second}
use Rattle.number.specs.Number.{Bytes, encode}
use Rattle.number.proofs.Laws.{bytes_drop, encode_wider, encode_size_pos}
use Rattle.sheet.specs.Reading.{is_some, Entry, entry_of}
use Rattle.sheet.specs.Reading.Entry.{entry, unread}
use Rattle.sheet.proofs.EntryLaws.{InFront, entry_read, entry_size, entry_written, rest_behind}
use Rattle.sheet.proofs.SheetLaws.{found_some}
use Rattle.replay.specs.Log.{Packet, log_frame, LogOf}
use Rattle.replay.specs.LogReading.{is_packet, packet_of, packet_front, log_up_to, read_log}

-- ---- a packet

-- Two numbers that are a packet, and the other way round.
pub packet_is : (m e d : ℕ) → is_packet m e d ≡ true → (e < m) × (d ≤ 1)
packet_is m e d t = (ltb-true e m (and_first (ltb e m) (leb d 1) t), leb-true d 1 (and_second (ltb e m) (leb d 1) t))

pub is_packet_lem : (m e d : ℕ) → e < m → d ≤ 1 → is_packet m e d ≡ true
is_packet_lem m e d l k = rw (lt-ltb e m l, le-leb d 1 k)

-- The second number gives the direction, and the direction gives it.
direction_back : (d : ℕ) → d ≤ 1 → cond (eqb d 1) 1 0 ≡ d
direction_back d l =
    elim (ℕ_discrete d 1) [
      | yes e ↦ rw (eq-eqb d 1 e) (sym e)
      | no n ↦ rw (ne_eqb d 1 n) (omega arith)
    ]

direction_small : (up : Bool) → cond up 1 0 ≤ 1
direction_small true = omega arith
direction_small false = omega arith

back_direction : (up : Bool) → eqb (cond up 1 0) 1 ≡ up
back_direction true = refl
back_direction false = refl

-- A small number's form, where four bytes are allowed and where three are.
same_form : (x : ℕ) → x < max_edges → encode change_bytes x ≡ encode number_bytes x
same_form x l = encode_wider number_bytes x (omega arith) (omega arith)

-- The bytes of a log, its first packet apart.
log_more :
    (q : Packet) (qs : List Packet) →
    log_frame (q ∷ qs) ≡ encode number_bytes q.edge ++ (encode number_bytes (cond q.up 1 0) ++ log_frame qs)
unfolding flat_map
log_more q qs = refl

-- A packet's two numbers are read as one entry, and it takes them all.
packet_written :
    (m : ℕ) → m ≤ max_edges → (q : Packet) (rest : List ℕ) → q.edge < m
    → let e = encode change_bytes q.edge in
    let d = encode change_bytes (cond q.up 1 0) in
    (entry_of (encode number_bytes q.edge ++ (encode number_bytes (cond q.up 1 0) ++ rest)) ≡ entry q.edge (cond q.up 1 0) (length e + length d))
    × (drop (length e + length d) (encode number_bytes q.edge ++ (encode number_bytes (cond q.up 1 0) ++ rest)) ≡ rest)
packet_written m few q rest l =
    let small = direction_small q.up in
    rw (← same_form q.edge (omega arith), ← same_form (cond q.up 1 0) (omega arith)) (
      entry_written q.edge (cond q.up 1 0) rest (omega arith) (omega arith),
      rest_behind q.edge (cond q.up 1 0) rest,
    )

-- ---- one step of the reader

-- Bytes that are not at their end.
log_step :
    (m most : ℕ) (s : List ℕ) → 0 < length s → log_up_to m (suc most) s ≡ packet_front m (λ k. log_up_to m most (drop k s)) (entry_of s)
unfolding log_up_to
log_step m most [] l = absurd (omega arith)
log_step m most (b ∷ s) l = refl

log_nothing : (m most : ℕ) → log_up_to m most [] ≡ some []
unfolding log_up_to
log_nothing m zero = refl
log_nothing m (suc most) = refl

-- By what stands in front.
front_unread : (m : ℕ) (rest : ℕ → Option (List Packet)) → packet_front m rest unread ≡ none
unfolding packet_front
front_unread m rest = refl

front_barred : (m : ℕ) (rest : ℕ → Option (List Packet)) (e d k : ℕ) → is_packet m e d ≡ false → packet_front m rest (entry e d k) ≡ none
unfolding packet_front
front_barred m rest e d k t = rw t

front_packet :
    (m : ℕ) (rest : ℕ → Option (List Packet)) (e d k : ℕ) → is_packet m e d ≡ true
    → packet_front m rest (entry e d k) ≡ map (packet_of e d ∷◌) (rest k)
unfolding packet_front
front_packet m rest e d k t = rw t

-- ---- how much to read does not matter

-- Readers that agree behind the entry agree.
front_same :
    (m : ℕ) (rest rest' : ℕ → Option (List Packet)) (x : Entry) → ((e d k : ℕ) → x ≡ entry e d k → rest k ≡ rest' k)
    → packet_front m rest x ≡ packet_front m rest' x
unfolding packet_front
front_same m rest rest' unread h = refl
front_same m rest rest' (entry e d k) h = rw (h e d k refl)

-- One packet more on both sides.
fuel_step :
    (m most most' : ℕ) (s : List ℕ) → ((most'' : ℕ) (s' : List ℕ) → length s' ≤ most → length s' ≤ most'' → log_up_to m most s' ≡ log_up_to m most'' s')
    → length s ≤ suc most → length s ≤ most' → log_up_to m (suc most) s ≡ log_up_to m most' s
fuel_step m most most' [] rec l l' = log_nothing m (suc most) ∙ sym (log_nothing m most')
fuel_step m most zero (b ∷ s) rec l l' = absurd (omega arith)
fuel_step m most (suc most') (b ∷ s) rec l l' =
    let t = b ∷ s in
    log_step m most t (omega arith)
    ∙ front_same m (λ k. log_up_to m most (drop k t)) (λ k. log_up_to m most' (drop k t)) (entry_of t)
    (λ e d k q. let size = entry_size t e d k q in
    rec most' (drop k t) (omega (arith, size, length-drop k t)) (omega (arith, size, length-drop k t)))
    ∙ sym (log_step m most' t (omega arith))

log_fuel : (m most most' : ℕ) (s : List ℕ) → length s ≤ most → length s ≤ most' → log_up_to m most s ≡ log_up_to m most' s
log_fuel m zero most' [] l l' = log_nothing m 0 ∙ sym (log_nothing m most')
log_fuel m zero most' (b ∷ s) l l' = absurd (omega arith)
log_fuel m (suc most) most' s l l' = fuel_step m most most' s (λ most'' s'. log_fuel m most most'' s') l l'

pub log_enough : (m most : ℕ) (s : List ℕ) → length s ≤ most → log_up_to m most s ≡ read_log m s
log_enough m most s l = log_fuel m most (length s) s l (omega arith)

-- ---- at a position

pub log_end : (m : ℕ) (s : List ℕ) (at : ℕ) → length s ≤ at → read_log m (drop at s) ≡ some []
log_end m s at l = rw (drop_of_length-le s {i = at} l) (log_nothing m 0)

module _ (m : ℕ) (s : List ℕ) (at : ℕ) where
  -- The reader, by the entry at the position.
  log_at : at < length s → read_log m (drop at s) ≡ packet_front m (λ k. log_up_to m (length (drop at s)) (drop k (drop at s))) (entry_of (drop at s))
  log_at l =
      let t = drop at s in
      sym (log_enough m (suc (length t)) t (omega arith)) ∙ log_step m (length t) t (omega (arith, length-drop at s))

  pub log_unread : at < length s → entry_of (drop at s) ≡ unread → read_log m (drop at s) ≡ none
  log_unread l q = log_at l ∙ ap (packet_front m (λ k. log_up_to m (length (drop at s)) (drop k (drop at s)))) q ∙ front_unread m _

  module _ (e d k : ℕ) (q : entry_of (drop at s) ≡ entry e d k) where
    -- There is an entry only where there are bytes, and two of them at least.
    pub log_inside : (at < length s) × (at + 2 ≤ at + k) × (at + k ≤ length s)
    log_inside = omega (arith, entry_size (drop at s) e d k q, length-drop at s)

    by_entry : read_log m (drop at s) ≡ packet_front m (λ k. log_up_to m (length (drop at s)) (drop k (drop at s))) (entry e d k)
    by_entry = log_at log_inside.0 ∙ ap (packet_front m (λ k. log_up_to m (length (drop at s)) (drop k (drop at s)))) q

    pub log_barred : is_packet m e d ≡ false → read_log m (drop at s) ≡ none
    log_barred t = by_entry ∙ front_barred m _ e d k t

    pub log_turn : is_packet m e d ≡ true → read_log m (drop at s) ≡ map (packet_of e d ∷◌) (read_log m (drop (at + k) s))
    log_turn t =
        let rest = drop k (drop at s) in
        let same : log_up_to m (length (drop at s)) rest ≡ read_log m (drop (at + k) s) = log_enough m (length (drop at s)) rest
        (omega (arith, length-drop k (drop at s))) ∙ ap (read_log m) (drop-drop k at s) in
        by_entry ∙ front_packet m _ e d k t ∙ ap (map (packet_of e d ∷◌)) same

-- ---- the reader finds nothing else

log_nil : (m : ℕ) → LogOf m [] []
unfolding flat_map
log_nil m = record { joined = refl; inside = λ q r. absurd (Memᴰ.not-nil r) }

module _ (m : ℕ) (few : m ≤ max_edges) where
  -- A packet in front of what was found behind it.
  log_cons : (s : List ℕ) (e d k : ℕ) → InFront s e d k → is_packet m e d ≡ true → (qs : List Packet) → LogOf m (drop k s) qs → LogOf m s (packet_of e d ∷ qs)
  log_cons s e d k f t qs v =
      let (l, low) = packet_is m e d t in
      record {
        joined = log_more (packet_of e d) qs
            ∙ rw (direction_back d low, ← same_form e (omega arith), ← same_form d (omega arith), v.joined) f.joined;
        inside = λ q r. elim (Memᴰ.cases_cons r) [ inl w ↦ rw w l | inr w ↦ v.inside q w ];
      }

  sound_rest :
      (s : List ℕ) (e d k : ℕ) → InFront s e d k → is_packet m e d ≡ true
      → (o : Option (List Packet)) → ((qs : List Packet) → o ≡ some qs → LogOf m (drop k s) qs)
      → (qs : List Packet) → map (packet_of e d ∷◌) o ≡ some qs → LogOf m s qs
  sound_rest s e d k f t none rec qs g = let z : ◌≡◌ {A = ℕ} 0 1 = cc in absurd (omega arith)
  sound_rest s e d k f t (some ps) rec qs g =
      let same : packet_of e d ∷ ps ≡ qs = cc in
      subst (λ (l : List Packet). LogOf m s l) same (log_cons s e d k f t ps (rec ps refl))

  sound_entry :
      (s : List ℕ) → Bytes s → (rest : ℕ → Option (List Packet)) → ((k : ℕ) (qs : List Packet) → rest k ≡ some qs → LogOf m (drop k s) qs)
      → (x : Entry) → entry_of s ≡ x → (qs : List Packet) → packet_front m rest x ≡ some qs → LogOf m s qs
  sound_entry s h rest rec unread q qs g = let z : ◌≡◌ {A = ℕ} 0 1 = cc (front_unread m rest) in absurd (omega arith)
  sound_entry s h rest rec (entry e d k) q qs g = of (is_packet m e d) refl
    where
      of : (b : Bool) → is_packet m e d ≡ b → LogOf m s qs
      of false t = let z : ◌≡◌ {A = ℕ} 0 1 = cc (front_barred m rest e d k t) in absurd (omega arith)
      of true t = sound_rest s e d k (entry_read s h e d k q) t (rest k) (rec k) qs (sym (front_packet m rest e d k t) ∙ g)

  log_sound : (most : ℕ) (s : List ℕ) → Bytes s → (qs : List Packet) → log_up_to m most s ≡ some qs → LogOf m s qs
  unfolding log_up_to
  log_sound zero [] h qs g = let same : [] ≡ qs = cc in subst (λ (l : List Packet). LogOf m [] l) same (log_nil m)
  log_sound zero (b ∷ s) h qs g = let z : ◌≡◌ {A = ℕ} 0 1 = cc in absurd (omega arith)
  log_sound (suc most) [] h qs g = let same : [] ≡ qs = cc in subst (λ (l : List Packet). LogOf m [] l) same (log_nil m)
  log_sound (suc most) (b ∷ s) h qs g =
      sound_entry (b ∷ s) h (λ k. log_up_to m most (drop k (b ∷ s)))
      (λ k ps. log_sound most (drop k (b ∷ s)) (bytes_drop k (b ∷ s) h) ps) (entry_of (b ∷ s)) refl qs g

  -- ---- and it finds them all

  written : (qs : List Packet) → ((q : Packet) → Memᴰ q qs → q.edge < m) → read_log m (log_frame qs) ≡ some qs
  unfolding flat_map
  written [] h = log_nothing m 0
  written (q ∷ qs) h =
      let d : ℕ = cond q.up 1 0 in
      let k : ℕ = length (encode change_bytes q.edge) + length (encode change_bytes d) in
      let own = h q (Memᴰ.head refl) in
      let (read, rest) = packet_written m few q (log_frame qs) own in
      let turn = log_turn m (log_frame (q ∷ qs)) 0 q.edge d k read (is_packet_lem m q.edge d own (direction_small q.up)) in
      let here : 0 + k ≡ k = omega arith in
      let behind : read_log m (drop (0 + k) (log_frame (q ∷ qs))) ≡ some qs = rw (here, rest) (written qs (λ p r. h p (Memᴰ.tail r))) in
      turn ∙ ap (map (packet_of q.edge d ∷◌)) behind
      ∙ ap (λ (b : Bool). some (record { edge = q.edge; up = b } ∷ qs)) (back_direction q.up)

  pub log_read : (s : List ℕ) (qs : List Packet) → LogOf m s qs → read_log m s ≡ some qs
  log_read s qs v = subst (λ (s : List ℕ). read_log m s ≡ some qs) v.joined (written qs v.inside)

  -- The reader finds the packets qs exactly if the bytes are the log qs.
  pub log_means : (s : List ℕ) → Bytes s → (qs : List Packet) → (read_log m s ≡ some qs) ↔ LogOf m s qs
  log_means s h qs = (log_sound (length s) s h qs, log_read s qs)

  -- It finds some exactly if they are a log, and they are one in one way only.
  pub log_found : (s : List ℕ) → Bytes s → (is_some (read_log m s) ≡ true) ↔ ((qs : List Packet) × LogOf m s qs)
  log_found s h = (
    λ e. let (qs, q) = found_some (read_log m s) e in (qs, log_sound (length s) s h qs q),
    λ v. rw (log_read s v.0 v.1),
  )

  pub log_unique : (s : List ℕ) (qs qs' : List Packet) → LogOf m s qs → LogOf m s qs' → qs ≡ qs'
  log_unique s qs qs' v v' = cc (log_read s qs v, log_read s qs' v')

-- ---- how many packets

frame_size : (qs : List Packet) → 2 * length qs ≤ length (log_frame qs)
unfolding flat_map
frame_size [] = omega arith
frame_size (q ∷ qs) =
    let e = encode number_bytes q.edge in
    let d = encode number_bytes (cond q.up 1 0) in
    omega (
      arith,
      ap length (log_more q qs),
      length-append e (d ++ log_frame qs),
      length-append d (log_frame qs),
      encode_size_pos 2 q.edge,
      encode_size_pos 2 (cond q.up 1 0),
      frame_size qs,
    )

-- A packet takes two bytes at least.
pub log_size : (m : ℕ) (s : List ℕ) (qs : List Packet) → LogOf m s qs → 2 * length qs ≤ length s
log_size m s qs v = omega (arith, ap length v.joined, frame_size qs)
