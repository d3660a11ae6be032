-- Spanning trees of a graph: the definitions, the executable model of paths and judge, and the theorems about them.
pub mod Graph
pub mod Rank
pub mod Paths
pub mod RankLaws
pub mod Integers
pub mod CountLaws
pub mod Walks
pub mod Labels
pub mod Sides
pub mod Swap
pub mod Criterion
pub mod Violations
