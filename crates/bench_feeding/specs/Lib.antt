-- The input of the bench program, byte by byte.
pub mod Reading
pub mod Steps
