-- The laws that tie what is printed to what the services give.
pub mod PrintedLaws
