-- How a packet log is read, as functions that compute. Definitions only. Assumes nothing.
use Rattle.std.specs.Prelude.{ℕ, zero, suc, Bool, ◌&&◌, List, [], ◌∷◌, leb, ltb, eqb, length, drop}
use Rattle.std.proofs.Math.Option.{Option, some, none, map}
use Rattle.loops.specs.Below.{choose}
use Rattle.sheet.specs.Reading.{Entry, entry_of}
use Rattle.replay.specs.Log.{Packet}

-- Two numbers are a packet, if the first is a link of the job and the second 0 or 1.
abbrev pub is_packet : ℕ → ℕ → ℕ → Bool
is_packet m e d = ltb e m && leb d 1

abbrev pub packet_of : ℕ → ℕ → Packet
packet_of e d = record { edge = e; up = eqb d 1 }

-- A packet in front of what follows it.
unfoldable pub packet_front : ℕ → (ℕ → Option (List Packet)) → Entry → Option (List Packet)
packet_front m rest (Entry.entry e d k) = choose (is_packet m e d) (λ _. map (packet_of e d ∷◌) (rest k)) (λ _. none)
packet_front m rest Entry.unread = none

-- The packets that a list of bytes holds, if it is a log; at most `most` packets.
unfoldable pub log_up_to : ℕ → ℕ → List ℕ → Option (List Packet)
log_up_to m zero [] = some []
log_up_to m zero (b ∷ s) = none
log_up_to m (suc most) [] = some []
log_up_to m (suc most) (b ∷ s) = packet_front m (λ k. log_up_to m most (drop k (b ∷ s))) (entry_of (b ∷ s))

abbrev pub read_log : ℕ → List ℕ → Option (List Packet)
read_log m s = log_up_to m (length s) s
