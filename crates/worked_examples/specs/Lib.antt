-- The examples that document 01 marks to be proved, and the numbers of all tests.
pub mod Table
pub mod Numbers
