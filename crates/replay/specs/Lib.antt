-- Packet logs: the definitions, the executable model, and the theorems about it.
pub mod Log
pub mod LogReading
pub mod Replaying
