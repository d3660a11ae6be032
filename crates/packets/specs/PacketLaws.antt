-- The reader of packets, by the steps of the code: what is known after each, and what the model then gives. Assumes nothing.
use Rattle.std.specs.Prelude.{ℕ, suc, ◌+◌, ◌*◌, ◌-◌, ◌<◌, ◌≤◌, ◌≡◌, Bool, true, false, List, ◌∷◌, Some, None, eqb, length, get_or, set, drop}
use Rattle.std.proofs.Math.Decide.{ℕ_discrete, dec_lt}
use Rattle.std.proofs.Common.{add-one, arith, ap, ◌∙◌, length-drop, eq-eqb, ne_eqb, lt-ltb, le-ltb}
use Rattle.std.proofs.Math.Path.{refl, sym}
use Rattle.std.proofs.Math.Option.{some, none, map}
use Rattle.std.proofs.Math.Option as maybe
use Rattle.std.proofs.lemmas.Option.{none-some, same_Some}
use Rattle.std.proofs.Math.Seq.{drop-cons, drop-drop}
use Rattle.std.proofs.lemmas.Bool.{lt-leb}
use Rattle.loops.specs.PutLaws.{set_put}
use Rattle.limits.specs.Limits.{max_number, change_bytes}
use Rattle.loops.specs.Below.{choose}
use Rattle.loops.specs.Loop.{put}
use Rattle.number.specs.Number.{Decoded, extend, decode}
use Rattle.number.specs.Number.Decoded.{number}
use Rattle.number.proofs.Laws.{decode_size}
use Rattle.leb128.specs.Positions.{read_at, located_value, located_refused}
use Rattle.leb128.specs.declared.Number.{Number}
use Rattle.sheet.specs.Reading as Model
use Rattle.sheet.specs.Reading.{costs_at, with_code, with_link, entry_of}
use Rattle.replay.specs.Log as Log
use Rattle.replay.specs.Log.{stepped, heard, replayed}
use Rattle.replay.specs.LogReading.{is_packet, read_log}
use Rattle.replay.proofs.LogLaws.{packet_is, is_packet_lem, log_end, log_unread, log_inside, log_barred, log_turn}
use Rattle.packets.specs.declared.Packet.{Packet}
use Rattle.packets.specs.Packets.{packet_from, packet_at, step_in}

-- ---- one packet: a link, and behind it the byte of its direction

-- A number of one byte; and one that begins with a byte above 1 is above 1 itself.
decode_one : (k b : ℕ) (s : List ℕ) → b < 128 → decode (suc k) (b ∷ s) ≡ number b 1
unfolding decode
decode_one k b s l = rw (lt-ltb b 128 l)

extend_above : (low : ℕ) (x : Decoded) (v n : ℕ) → extend low x ≡ number v n → 1 < v
unfolding extend
extend_above low Decoded.none v n e = let z : ◌≡◌ {A = ℕ} 0 1 = cc in absurd (omega arith)
extend_above low (number w k) v n e =
    elim (ℕ_discrete w 0) [
      | yes z ↦ let none_is : Decoded.none ≡ number v n = rw (eq-eqb w 0 z) at e in let q : ◌≡◌ {A = ℕ} 0 1 = cc in absurd (omega arith)
      | no z ↦
          let whole : number (low + 128 * w) (suc k) ≡ number v n = rw (ne_eqb w 0 z) at e in
          let same : low + 128 * w ≡ v = cc in
          omega (arith, same)
    ]

decode_above : (k b : ℕ) (s : List ℕ) → 1 < b → (v n : ℕ) → decode (suc k) (b ∷ s) ≡ number v n → 1 < v
unfolding decode
decode_above k b s l v n e =
    elim (dec_lt b 128) [
      | yes h ↦ let one_byte : number b 1 ≡ number v n = rw (lt-ltb b 128 h) at e in let same : b ≡ v = cc in omega (arith, same)
      | no h ↦ extend_above (b - 128) (decode k s) v n (rw (le-ltb b 128 (omega arith)) at e)
    ]

module _ (m : ℕ) (s : List ℕ) (at : ℕ) where
  pub packet_unread : read_at change_bytes s at ≡ None → None ≡ packet_at m s at
  unfolding with_link packet_from
  packet_unread q = rw (located_refused at (decode change_bytes (drop at s)) q)

  module _ (link : Number) (q : read_at change_bytes s at ≡ Some link) where
    -- What stands behind the link decides.
    linked :
        (n : ℕ) × (link.next ≡ at + n) × (packet_at m s at ≡ packet_from m at (with_code link.value n (decode change_bytes (drop link.next s))))
    unfolding with_link
    linked =
        let (n, here, there) = located_value at (decode change_bytes (drop at s)) link q in
        (n, there, behind n here there)
      where
        behind :
            (n : ℕ) → decode change_bytes (drop at s) ≡ number link.value n → link.next ≡ at + n
            → packet_at m s at ≡ packet_from m at (with_code link.value n (decode change_bytes (drop link.next s)))
        behind n here there = rw (here, drop-drop n at s, ← there)

    -- No packet, whatever the second number is.
    barred :
        ((v n : ℕ) → decode change_bytes (drop link.next s) ≡ number v n → is_packet m link.value v ≡ false) → None ≡ packet_at m s at
    unfolding with_code packet_from
    barred no-packet = let (n, there, whole) = linked in sym (whole ∙ of n (decode change_bytes (drop link.next s)) refl)
      where
        of : (n : ℕ) (x : Decoded) → decode change_bytes (drop link.next s) ≡ x → packet_from m at (with_code link.value n x) ≡ None
        of n Decoded.none f = refl
        of n (number v k) f = rw (no-packet v k f)

    pub packet_outside : m ≤ link.value → None ≡ packet_at m s at
    packet_outside l = barred (λ v n f. rw (le-ltb link.value m l))

    pub packet_cut : length s ≤ link.next → None ≡ packet_at m s at
    packet_cut l =
        barred λ v n f. absurd (omega (arith, decode_size change_bytes (drop link.next s) v n f, length-drop link.next s))

    pub packet_undirected : link.value < m → link.next < length s → 1 < get_or s link.next 0 → None ≡ packet_at m s at
    packet_undirected l h k =
        barred λ v n f.
        let above : 1 < v =
        decode_above 3 (get_or s link.next 0) (drop (suc link.next) s) k v n (rw (drop-cons s link.next 0 h) at f) in
        rw (lt-ltb link.value m l, lt-leb v 1 above)

    pub packet_whole :
        link.value < m → link.next < length s → get_or s link.next 0 ≤ 1
        → Some (record { edge = link.value; up = eqb (get_or s link.next 0) 1; next = link.next + 1 }) ≡ packet_at m s at
    unfolding with_code packet_from
    packet_whole l h k =
        let (n, there, whole) = linked in
        let behind : at + (n + 1) ≡ link.next + 1 = omega (arith, there) in
        sym (whole ∙ rw (
          drop-cons s link.next 0 h,
          decode_one 3 (get_or s link.next 0) (drop (suc link.next) s) (omega arith),
          is_packet_lem m link.value (get_or s link.next 0) l k,
          behind,
        ))

-- ---- a step of a cost

module _ (up : Bool) (x : ℕ) where
  pub step_up : up ≡ true → x < max_number → x + 1 ≡ stepped up x
  step_up u l = rw (u, lt-ltb x max_number l, add-one x)

  pub step_stays : up ≡ true → max_number ≤ x → x ≡ stepped up x
  step_stays u l = rw (u, le-ltb x max_number l)

  pub step_zero : up ≡ false → x ≡ 0 → 0 ≡ stepped up x
  step_zero u z = rw (u, z)

  pub step_down : up ≡ false → x - 1 ≡ stepped up x
  step_down u = rw u

-- A cost stored is a packet heard.
pub heard_set :
    (xs : List ℕ) (e : ℕ) (up : Bool) (v : ℕ) → e < length xs → v ≡ stepped up (costs_at xs e)
    → costs_at (set xs e v) ≡ heard (record { edge = e; up = up }) (costs_at xs)
heard_set xs e up v l q = set_put xs e v l ∙ ap (put (costs_at xs) e) q

-- ---- a turn over a log

-- What a packet at a position says of the two numbers there.
record Taken (m at : ℕ) (x : Model.Entry) (p : Packet) : Type 0 where
  pub second : ℕ
  pub size : ℕ
  pub here : x ≡ Model.Entry.entry p.edge second size
  pub packet : is_packet m p.edge second ≡ true
  pub direction : eqb second 1 ≡ p.up
  pub there : at + size ≡ p.next

taken : (m at : ℕ) (x : Model.Entry) (p : Packet) → Some p ≡ packet_from m at x → Taken m at x p
unfolding packet_from
taken m at Model.Entry.unread p q = absurd (none-some p (sym q))
taken m at (Model.Entry.entry e d k) p q = of (is_packet m e d) refl q
  where
    of :
        (b : Bool) → is_packet m e d ≡ b → Some p ≡ choose b (λ _. Some (record { edge = e; up = eqb d 1; next = at + k })) (λ _. None)
        → Taken m at (Model.Entry.entry e d k) p
    of false t q = absurd (none-some p (sym q))
    of true t q =
        rw (same_Some p _ q) (record { second = d; size = k; here = refl; packet = t; direction = refl; there = refl })

-- What stands there if it is refused: nothing to read, or two numbers that are no packet.
refused_none :
    (m : ℕ) (s : List ℕ) (at : ℕ) → at < length s → (x : Model.Entry) → entry_of (drop at s) ≡ x → None ≡ packet_from m at x → read_log m (drop at s) ≡ none
unfolding packet_from
refused_none m s at l Model.Entry.unread h q = log_unread m s at l h
refused_none m s at l (Model.Entry.entry e d k) h q = of _ (is_packet m e d) refl q
  where
    of : (p : Packet) (b : Bool) → is_packet m e d ≡ b → None ≡ choose b (λ _. Some p) (λ _. None) → read_log m (drop at s) ≡ none
    of p false t q = log_barred m s at e d k h t
    of p true t q = absurd (none-some p q)

module _ (m : ℕ) (s : List ℕ) (at : ℕ) where
  pub packet_refused : at < length s → None ≡ packet_at m s at → read_log m (drop at s) ≡ none
  packet_refused l q = refused_none m s at l (entry_of (drop at s)) refl q

  pub hear_refused :
      (c : ℕ → ℕ) (whole : maybe.Option (ℕ → ℕ)) → at < length s → None ≡ packet_at m s at
      → map (λ qs. replayed qs c) (read_log m (drop at s)) ≡ whole → none ≡ whole
  hear_refused c whole l q rest = sym (ap (map (λ qs. replayed qs c)) (packet_refused l q)) ∙ rest

  module _ (p : Packet) (q : Some p ≡ packet_at m s at) where
    found : Taken m at (entry_of (drop at s)) p
    found = taken m at (entry_of (drop at s)) p q

    pub packet_inside : p.edge < m
    packet_inside = (packet_is m p.edge found.second found.packet).0

    -- It takes two bytes at least, and ends within the log.
    pub packet_within : (at + 2 ≤ p.next) × (p.next ≤ length s)
    packet_within = omega (arith, found.there, log_inside m s at p.edge found.second found.size found.here)

    pub packet_rest : read_log m (drop at s) ≡ map (step_in p ∷◌) (read_log m (drop p.next s))
    packet_rest =
        log_turn m s at p.edge found.second found.size found.here found.packet
        ∙ rw (found.direction, found.there)

    -- The log's costs are those of what is left, from the cost moved.
    pub hear_turn :
        (c : ℕ → ℕ) → map (λ qs. replayed qs (heard (step_in p) c)) (read_log m (drop p.next s))
        ≡ map (λ qs. replayed qs c) (read_log m (drop at s))
    unfolding replayed
    hear_turn c = sym (ap (map (λ qs. replayed qs c)) packet_rest ∙ in_front (read_log m (drop p.next s)))
      where
        in_front :
            (o : maybe.Option (List Log.Packet)) → map (λ qs. replayed qs c) (map (step_in p ∷◌) o)
            ≡ map (λ qs. replayed qs (heard (step_in p) c)) o
        in_front (some qs) = refl
        in_front none = refl

-- At the end there is nothing to hear.
pub hear_end : (m : ℕ) (s : List ℕ) (at : ℕ) (c : ℕ → ℕ) → length s ≤ at → some c ≡ map (λ qs. replayed qs c) (read_log m (drop at s))
unfolding replayed
hear_end m s at c l = rw (log_end m s at l)
