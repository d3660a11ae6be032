-- A log heard packet by packet: what is known when some packets have been heard, and at the end the final costs and the first number
-- of packets after which a test of the costs holds. Assumes nothing.
use Rattle.std.specs.Prelude.{ℕ, suc, ◌+◌, ◌*◌, ◌≤◌, ◌<◌, ◌≡◌, refl, Bool, true, false, cond, ltb, take, drop}
use Rattle.std.proofs.Common.{arith, ◌∙◌, lt-ltb, le-ltb}
use Rattle.std.proofs.Math.Decide.{dec_lt}
use Rattle.std.proofs.Math.Path.{sym, ap}
use mathlib.Core.List.{List, [], ◌∷◌, ◌++◌, append_assoc}
use Rattle.std.proofs.Math.Option.{Option, some, none, map}
use Rattle.std.proofs.Math.ListN.{length, length-append}
use Rattle.std.proofs.lemmas.List.{take-append-le}
use Rattle.std.proofs.Math.Seq.{take-append_seam}
use Rattle.loops.specs.Loop.{first}
use Rattle.loops.specs.FirstLaws.{first_found}
use Rattle.replay.specs.Log.{Packet, heard, replayed}
use Rattle.replay.specs.LogReading.{read_log}
use Rattle.replay.proofs.LogLaws.{log_end}
use Rattle.replay.proofs.ReplayLaws.{replayed_append}

-- From the costs c, the first `count` packets of the log s, those in front of a position, have led to the costs d. Before the last of
-- them the test of the costs held never.
pub record HeardTo (m : ℕ) (s : List ℕ) (c : ℕ → ℕ) (holds : (ℕ → ℕ) → Bool) (at count : ℕ) (d : ℕ → ℕ) : Type 0 where
  pub packets : List Packet
  pub counted : length packets ≡ count
  pub within : at ≤ length s
  pub bytes : 2 * count ≤ at
  pub rest : read_log m s ≡ map (packets ++◌) (read_log m (drop at s))
  pub costs : d ≡ replayed packets c
  pub before : (i : ℕ) → i < count → holds (replayed (take i packets) c) ≡ false

map_none : {A B : Type 0} (f : A → B) (o : Option A) → none ≡ map f o → o ≡ none
map_none f (some x) e = let z : ◌≡◌ {A = ℕ} 0 1 = cc in absurd (omega arith)
map_none f none e = refl

map_some : {A B : Type 0} (f : A → B) (o : Option A) (y : B) → some y ≡ map f o → (x : A) × (o ≡ some x) × (y ≡ f x)
map_some f (some x) y e = (x, refl, cc)
map_some f none y e = let z : ◌≡◌ {A = ℕ} 0 1 = cc in absurd (omega arith)

map_nil : (o : Option (List Packet)) → o ≡ map ([] ++◌) o
map_nil (some x) = refl
map_nil none = refl

map_twice : (qs : List Packet) (q : Packet) (o : Option (List Packet)) → map (qs ++◌) (map (q ∷◌) o) ≡ map ((qs ++ (q ∷ [])) ++◌) o
map_twice qs q (some x) = ap some (sym (append_assoc qs (q ∷ []) x))
map_twice qs q none = refl

module _ (m : ℕ) (s : List ℕ) (c : ℕ → ℕ) (holds : (ℕ → ℕ) → Bool) where
  pub heard_none : HeardTo m s c holds 0 0 c
  unfolding replayed
  heard_none =
      record {
        packets = [];
        counted = refl;
        within = omega arith;
        bytes = omega arith;
        rest = map_nil (read_log m s);
        costs = refl;
        before = λ i l. absurd (omega arith);
      }

  module _ (at count : ℕ) (d : ℕ → ℕ) (h : HeardTo m s c holds at count d) where
    -- One packet more, where the test did not hold.
    pub heard_more :
        (q : Packet) (next : ℕ) → holds d ≡ false → at + 2 ≤ next → next ≤ length s
        → read_log m (drop at s) ≡ map (q ∷◌) (read_log m (drop next s)) → HeardTo m s c holds next (count + 1) (heard q d)
    unfolding replayed
    heard_more q next miss l k e =
        record {
          packets = h.packets ++ (q ∷ []);
          counted = length-append h.packets (q ∷ []) ∙ ap (λ (n : ℕ). n + 1) h.counted;
          within = k;
          bytes = omega (arith, h.bytes);
          rest = h.rest ∙ ap (map (h.packets ++◌)) e ∙ map_twice h.packets q (read_log m (drop next s));
          costs = ap (heard q) h.costs ∙ sym (replayed_append h.packets (q ∷ []) c);
          before = λ i b.
              elim (dec_lt i count) [
                | yes b' ↦
                    rw (take-append-le i h.packets (q ∷ []) (omega (arith, h.counted)))
                    (h.before i b')
                | no b' ↦
                    let same : i ≡ length h.packets = omega (arith, h.counted) in
                    rw (same, take-append_seam h.packets (q ∷ []), ← h.costs) miss
              ];
        }

    -- Bytes behind them that hold no packets: then it is no log.
    pub heard_unread : read_log m (drop at s) ≡ none → read_log m s ≡ none
    heard_unread e = h.rest ∙ ap (map (h.packets ++◌)) e

    pub rest_unread : none ≡ map (λ qs. replayed qs d) (read_log m (drop at s)) → read_log m s ≡ none
    rest_unread e = heard_unread (map_none _ (read_log m (drop at s)) e)

    -- The packets behind them are heard too.
    module _ (d' : ℕ → ℕ) (e : some d' ≡ map (λ qs. replayed qs d) (read_log m (drop at s))) where
      behind : (rs : List Packet) × (read_log m (drop at s) ≡ some rs) × (d' ≡ replayed rs d)
      behind = map_some (λ qs. replayed qs d) (read_log m (drop at s)) d' e

      pub all_packets : List Packet
      all_packets = h.packets ++ behind.0

      pub all_read : read_log m s ≡ some all_packets
      unfolding all_packets
      all_read = h.rest ∙ ap (map (h.packets ++◌)) behind.1

      pub all_costs : d' ≡ replayed all_packets c
      unfolding all_packets
      all_costs = behind.2 ∙ ap (replayed behind.0) h.costs ∙ sym (replayed_append h.packets behind.0 c)

      size : length all_packets ≡ count + length behind.0
      unfolding all_packets
      size = length-append h.packets behind.0 ∙ ap (λ (n : ℕ). n + length behind.0) h.counted

      earlier : (i : ℕ) → i < count → holds (replayed (take i all_packets) c) ≡ false
      unfolding all_packets
      earlier i l = rw (take-append-le i h.packets behind.0 (omega (arith, h.counted))) (h.before i l)

      here : replayed (take count all_packets) c ≡ d
      unfolding all_packets
      here =
          ap (λ (n : ℕ). replayed (take n (h.packets ++ behind.0)) c) (sym h.counted)
          ∙ ap (λ (qs : List Packet). replayed qs c) (take-append_seam h.packets behind.0)
          ∙ sym h.costs

      abbrev asked : ℕ → Bool
      asked k = holds (replayed (take k all_packets) c)

      abbrev first_number : Option ℕ
      first_number =
          let most : ℕ = length all_packets in
          let k : ℕ = first (suc most) asked in
          cond (ltb k (suc most)) (some k) none

      -- The test holds where the first packets have led to.
      pub first_here : holds d ≡ true → first_number ≡ some count
      first_here yes-d =
          let found : first (suc (length all_packets)) asked ≡ count = first_found (record {
            within = omega (arith, size);
            before = earlier;
            hit = λ _. ap holds here ∙ yes-d;
          }) in
          rw (found, lt-ltb count (suc (length all_packets)) (omega (arith, size)))

      -- It does not hold there, and no packet is left.
      pub first_nowhere : holds d ≡ false → length s ≤ at → first_number ≡ none
      first_nowhere no-d l =
          let last : some [] ≡ some behind.0 = sym (log_end m s at l) ∙ behind.1 in
          let empty : [] ≡ behind.0 = cc in
          let found : first (suc (length all_packets)) asked ≡ suc (length all_packets) = first_found (record {
            within = omega arith;
            before = λ i b.
                elim (dec_lt i count) [
                  | yes b' ↦ earlier i b'
                  | no b' ↦ let same : i ≡ count = omega (arith, size, ap length empty) in rw same (ap holds here ∙ no-d)
                ];
            hit = λ b. absurd (omega arith);
          }) in
          rw (found, le-ltb (suc (length all_packets)) (suc (length all_packets)) (omega arith))
