-- Packets heard until the marked tree is cheapest: definitions and laws.
pub mod Watching
pub mod WatchLaws
