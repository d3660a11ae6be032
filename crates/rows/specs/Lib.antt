-- The bench rows.
pub mod Rows
