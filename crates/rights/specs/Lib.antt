-- The tests of a change of a right, as the code makes them.
pub mod Checks
