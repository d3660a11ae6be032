-- The numbers of a job frame in groups, laws about them, and that the reader reads back what is written.
pub mod Groups
pub mod WritingLaws
pub mod JobRoundTrip
