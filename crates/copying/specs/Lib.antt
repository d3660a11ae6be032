-- What is copied of job and answer frames, and laws about it.
pub mod Copies
pub mod ServiceLaws
pub mod CopiedLaws
