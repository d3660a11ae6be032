-- Laws of the writer of step sheets.
pub mod MoveSteps
