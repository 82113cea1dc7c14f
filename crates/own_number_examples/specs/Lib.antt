-- Examples of document 02's L8: sets that write an object's own number, and stores that hold one.
pub mod OwnNumbers
