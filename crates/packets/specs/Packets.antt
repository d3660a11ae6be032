-- What the reader of packets computes. Definitions only. Assumes nothing.
use Rattle.std.specs.Prelude.{ℕ, ◌+◌, List, Option, Some, None, eqb, drop}
use Rattle.loops.specs.Below.{choose}
use Rattle.sheet.specs.Reading.{Entry, entry_of}
use Rattle.replay.specs.Log as Log
use Rattle.replay.specs.LogReading.{is_packet}
use Rattle.packets.specs.declared.Packet.{Packet}

-- The model's entry, for what stands at a position of a log to a job of m links.
unfoldable pub packet_from : ℕ → ℕ → Entry → Option Packet
packet_from m at (Entry.entry e d k) = choose (is_packet m e d) (λ _. Some (record { edge = e; up = eqb d 1; next = at + k })) (λ _. None)
packet_from m at Entry.unread = None

abbrev pub packet_at : ℕ → List ℕ → ℕ → Option Packet
packet_at m s at = packet_from m at (entry_of (drop at s))

-- The code's packet, in the words of the definitions.
abbrev pub step_in : Packet → Log.Packet
step_in p = record { edge = p.edge; up = p.up }
