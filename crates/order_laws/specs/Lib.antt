-- The sweeping step in the paper's order: what it frees, and what is claimed of it.
pub mod Freeing
pub mod Orders
