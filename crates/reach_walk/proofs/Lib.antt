-- Laws of the walk, and that its answer is settled.
pub mod Range
pub mod Entering
pub mod Following
pub mod Outcomes
pub mod End
pub mod Settled
