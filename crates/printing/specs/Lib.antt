-- What is printed for a job frame.
pub mod Printed
