-- What is read of job and answer frames, and laws about it.
pub mod JobsRead
pub mod JobReadLaws
pub mod AnswersRead
pub mod AnswerReadLaws
