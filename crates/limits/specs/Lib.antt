-- The limits, the marks and the refusals of the format.
pub mod Limits
pub mod Refusals
pub mod ResultLaws
pub mod MarkLaws
