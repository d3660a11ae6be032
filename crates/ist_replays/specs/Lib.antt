-- What the function for C on packet logs promises, and laws about it.
pub mod ReplayTold
pub mod ToldLaws
