-- The proofs of the statements.
pub mod Sets
pub mod OldOnes
