-- When a job stands in arrays, and what follows of it.
pub mod Held
pub mod HeldLaws
