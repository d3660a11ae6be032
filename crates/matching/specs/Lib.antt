-- The matching in progress in arrays: what it is in the words of the model, what the code promises, and the laws of its steps.
pub mod Tables
pub mod Build
pub mod FindLaws
pub mod PairSteps
pub mod AugmentSteps
pub mod BuildSteps
