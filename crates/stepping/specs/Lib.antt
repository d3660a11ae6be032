-- What the services on step sheets promise, and laws about it.
pub mod Stepping
pub mod SteppingLaws
pub mod HeldSteps
