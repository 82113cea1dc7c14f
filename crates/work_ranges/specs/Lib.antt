-- How the scans of the code give the tests of the working tables.
pub mod Scans
