-- The ranges of a record's words.
pub mod Ranges
