-- The proofs that belong to no one function.
pub mod Counting
pub mod Invariant
pub mod Recovery
pub mod Shapes
pub mod Masks
pub mod Reopening
pub mod Reversal
pub mod Decided
pub mod Maps
pub mod Appending
pub mod Changes
pub mod Steps
pub mod Cells
pub mod Naming
pub mod Logged
