-- The next spare rank over a set of tree ranks: what it is, and its laws.
pub mod Over
pub mod OverLaws
