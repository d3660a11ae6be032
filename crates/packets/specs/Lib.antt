-- What the reader of packets computes, and laws about it.
pub mod Packets
pub mod PacketLaws
