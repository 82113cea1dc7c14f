-- Laws for the code of the calls: the working tables.
pub mod Tables
