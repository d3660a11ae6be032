-- What is put into arrays, and laws about it.
pub mod Filling
pub mod FillLaws
