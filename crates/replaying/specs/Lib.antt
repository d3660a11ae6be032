-- What the service that replays packet logs promises, and laws about it.
pub mod Replayed
pub mod ReplayedLaws
pub mod HeldCounts
pub mod ReplaySteps
