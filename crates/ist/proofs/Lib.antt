pub mod Lent
pub mod WriteEntry
