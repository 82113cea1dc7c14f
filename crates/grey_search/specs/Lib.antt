-- The search for the lowest grey object.
pub mod Greys
