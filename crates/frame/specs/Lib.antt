-- Job and answer frames: the definitions, the executable model, and the theorems about it.
pub mod Job
pub mod Arrays
pub mod Meaning
pub mod AnswerMeaning
pub mod Services
pub mod Questions
pub mod Answers
pub mod Replies
