-- The proofs that belong to no one function.
pub mod Kept
pub mod Masks
pub mod Mark
pub mod Start
pub mod Sweep
pub mod PassFacts
