-- Laws of the text of an answer.
pub mod DigitLaws
pub mod TextLaws
