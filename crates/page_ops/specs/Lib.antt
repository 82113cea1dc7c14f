-- Laws of page areas, in the terms that the code works in.
pub mod Filling
