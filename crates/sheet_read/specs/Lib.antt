-- What the readers of costs and sheets compute, and laws about it.
pub mod Applying
pub mod ApplyLaws
