-- What the functions on job frames compute, and laws that tie it to the frame's definitions.
pub mod Reading
pub mod LoadLaws
pub mod CountLaws
pub mod LayoutLaws
pub mod Finding
