-- That the search finds the chain that is ahead of all others, or that there is none.
pub mod Order
pub mod Passing
pub mod Queues
pub mod Links
pub mod Searching
pub mod Answers
