-- The list of an answer's pairs, and laws that tie it to the model's answer.
pub mod Contents
pub mod ContentsLaws
