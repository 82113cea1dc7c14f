-- A page by columns and back: rows of one length, what the calls answer, and what is claimed of both arrangements.
pub mod Grids
pub mod Arranging
pub mod Arrangements
