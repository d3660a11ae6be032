-- Ranks: the keys that edges are sorted by, and their laws.
pub mod Keys
