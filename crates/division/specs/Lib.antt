-- Question 1 of a frame, as the code puts it.
pub mod Counting
pub mod CountingLaws
pub mod BlockLaws
