-- What the answer service promises, and laws about it.
pub mod Answering
pub mod AnswerLaws
