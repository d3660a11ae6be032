-- The labels of the pairs: what the code's state says in the words of the model, the laws of the model's turns, and the steps.
pub mod Labels
pub mod TurnLaws
pub mod FillSteps
pub mod LabelSteps
pub mod OriginSteps
