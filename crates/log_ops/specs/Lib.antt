-- The log and its counts, in the terms that the code works in.
pub mod Logs
