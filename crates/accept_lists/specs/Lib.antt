-- A list of links accepted into arrays, and laws about it.
pub mod Lists
pub mod ListLaws
pub mod Given
pub mod ListAcceptLaws
pub mod ListJobLaws
