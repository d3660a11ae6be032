-- Numbers at a position of a slice.
pub mod Positions
