-- What the finders hand back, and laws about it.
pub mod Parts
pub mod PartLaws
