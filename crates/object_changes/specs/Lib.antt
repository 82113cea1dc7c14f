-- Laws for the code of a create and a set.
pub mod Changing
