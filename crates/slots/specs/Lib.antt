-- A pair and its slot: what the arrays hold once it is there, and the laws of the loops that put it there.
pub mod Paired
pub mod PairLaws
