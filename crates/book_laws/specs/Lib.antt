-- The book's lines read object by object, and the book's own invariant. This serves the proof of demand 3; its claim never mentions it.
pub mod Seen
pub mod Striking
pub mod Keeping
pub mod After
