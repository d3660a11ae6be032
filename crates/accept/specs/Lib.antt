-- A job frame accepted into arrays, and laws about it; the job of a list of records.
pub mod Accepting
pub mod AcceptLaws
pub mod ArrayLaws
pub mod AskedLaws
pub mod ListJobs
