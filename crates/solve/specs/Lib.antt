-- The answer to a job in arrays, and laws about it.
pub mod Solving
pub mod SettleLaws
pub mod SolveLaws
