-- What the judges say, and laws about it.
pub mod Verdicts
