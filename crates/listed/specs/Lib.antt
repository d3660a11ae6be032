-- What the services on lists of links promise, and laws about it.
pub mod ListServices
