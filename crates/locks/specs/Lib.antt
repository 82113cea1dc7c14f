-- The tests of both locks as one.
pub mod Checks
