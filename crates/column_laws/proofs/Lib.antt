-- The proofs of the statements.
pub mod Arrangements
