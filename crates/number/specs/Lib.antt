-- Canonical LEB128 numbers: their layout, and laws about it.
pub mod Number
