-- Whether whatever the root reaches in a page area is there, and the walk that finds out.
pub mod Wholeness
pub mod Walk
