-- `packets::packet_at` meets its contract: a link, and the byte of its direction; each test is one of the model's. Assumes nothing.
use native.Mathlib.Omega.{arith}
use mathlib.Core.Path.{sym, ◌∙◌}
use Rattle.packets.specs.PacketLaws.{packet_unread, packet_outside, packet_cut, packet_undirected, packet_whole}
use Rattle.packets.proofs.packet_at.Goals as goal

pub returns-in_err-link : goal.returns-in_err-link
returns-in_err-link c = c.from_residual.ensures ∙ packet_unread _ _ _ (sym c.in_err-link.ensures)

pub returns-then-edges-edge : goal.returns-then-edges-edge
returns-then-edges-edge c = packet_outside _ _ c.args.at _ (sym c.in_ok-link.ensures) c.if-edges-edge.true

pub returns-in_err-direction : goal.returns-in_err-direction
returns-in_err-direction c =
    c.from_residual-in_err-direction.ensures
    ∙ packet_cut _ _ c.args.at _ (sym c.in_ok-link.ensures) (omega (arith, c.in_err-direction.ensures.lookup))

pub returns-then-direction-gt1 : goal.returns-then-direction-gt1
returns-then-direction-gt1 c =
    let there = c.in_ok-direction.ensures.lookup.3 in
    packet_undirected _ _ c.args.at _ (sym c.in_ok-link.ensures) (omega arith) there.0 (omega (arith, there.1 0))

pub returns : goal.returns
returns c =
    let there = c.in_ok-direction.ensures.lookup.3 in
    rw (there.1 0) (packet_whole _ _ c.args.at _ (sym c.in_ok-link.ensures) (omega arith) there.0 (omega (arith, there.1 0)))
