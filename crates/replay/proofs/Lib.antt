pub mod Hearing
pub mod LogLaws
pub mod ReplayLaws
