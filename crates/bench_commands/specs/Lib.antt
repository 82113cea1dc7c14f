-- The command of a line of the bench program.
pub mod Commands
pub mod Examples
