-- The proofs that belong to no one function.
pub mod Places
pub mod Slots
pub mod Effects
pub mod Records
