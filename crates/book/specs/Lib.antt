-- Document 01, 'The book', and demand 3 over every list of calls and cuts.
pub mod Lines
pub mod Books
pub mod Feeding
pub mod Pointers
pub mod Demand
