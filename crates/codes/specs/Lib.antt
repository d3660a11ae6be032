-- What the functions for C promise, and laws about it.
pub mod Exports
pub mod ExportLaws
