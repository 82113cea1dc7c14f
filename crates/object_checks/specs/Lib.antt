-- Laws for the tests of a read, a create, a set and a flush.
pub mod Tests
