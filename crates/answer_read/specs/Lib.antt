-- The model and the laws of reading answer frames into arrays.
pub mod Reading
pub mod AnswerLaws
pub mod Costs
pub mod CostLaws
