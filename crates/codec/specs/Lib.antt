-- Numbers in a frame, one behind the other.
pub mod Numbers
pub mod NumberLaws
pub mod ListLaws
pub mod WritingLaws
pub mod Held
pub mod HeldLaws
