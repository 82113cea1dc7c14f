-- The log as lines over objects, and its records read as lines. This serves the proof of demand 3; its claim never mentions it.
pub mod Lines
pub mod Moves
pub mod Shapes
