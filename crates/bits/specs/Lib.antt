-- A word as the set of the numbers of its set digits.
pub mod Bit
pub mod BitLaws
pub mod ChangeLaws
