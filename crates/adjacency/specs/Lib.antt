-- The words of the tree edges.
pub mod Words
pub mod AdjacencyLaws
