-- This machine serves the proof of demand 3: the store's words are shown to be a state of it. The claim of demand 3 itself
-- never mentions it.
pub mod Bits
pub mod Objects
pub mod State
pub mod Calls
pub mod Undo
pub mod Claim
