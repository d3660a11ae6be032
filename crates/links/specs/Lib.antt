-- Links in four arrays, and the questions over them.
pub mod Columns
pub mod ColumnLaws
pub mod ListLaws
