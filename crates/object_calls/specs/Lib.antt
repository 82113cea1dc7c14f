-- What the tests of a read, a create, a set and a flush give the code, and its outcomes.
pub mod Reading
pub mod Changing
pub mod Flushing
