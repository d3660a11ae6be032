-- The tests of a listed pairing.
pub mod Pairs
pub mod PairLaws
