-- The output lines of the bench program.
pub mod Output
pub mod Examples
