-- The input of the bench program served byte by byte.
pub mod Serving
pub mod Laws
pub mod Held
