-- Definitions opened for proofs by computation, in one place, and what the tables of examples share.
pub mod Calls
pub mod Book
pub mod Stores
pub mod Rows
