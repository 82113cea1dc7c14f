-- What the search's arrays stand for, step by step, and what it leaves.
pub mod Entering
pub mod Following
pub mod Ending
