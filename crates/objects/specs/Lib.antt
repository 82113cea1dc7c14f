-- Laws for the code of a read and a flush.
pub mod Reading
pub mod Flushing
