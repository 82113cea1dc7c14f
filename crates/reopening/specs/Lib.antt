-- Reopening and its steps, as the code makes them.
pub mod Steps
pub mod Reopens
