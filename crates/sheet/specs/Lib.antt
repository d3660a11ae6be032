-- Step sheets: what they are, how they are read, and that a sheet and new costs each give the other.
pub mod Sheet
pub mod Reading
