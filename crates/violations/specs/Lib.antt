-- Violations of the test over arrays, counted.
pub mod Counting
pub mod CountingLaws
pub mod StepLaws
