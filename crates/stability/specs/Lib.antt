-- The checks of force, store page and empty log, as the code makes them.
pub mod Checks
