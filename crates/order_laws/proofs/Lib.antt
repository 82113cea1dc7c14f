-- The proofs of the statements.
pub mod Orders
