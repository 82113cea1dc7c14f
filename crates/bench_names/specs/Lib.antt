-- The calls of the bench program by their names.
pub mod Names
