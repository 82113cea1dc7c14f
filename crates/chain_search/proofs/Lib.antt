-- Laws of the search's arrays.
pub mod Inserting
pub mod OneMore
pub mod Takes
pub mod Words
pub mod Steps
pub mod Ends
