-- The exploration in arrays: what they say in the words of the model, the steps of the code, and the law for its callers.
pub mod Board
pub mod SlotSteps
pub mod TreeSteps
pub mod ExploreSteps
pub mod BoardLaws
