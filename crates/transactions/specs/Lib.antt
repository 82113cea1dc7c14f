-- How the code's tests and runs of words give begin, commit and the end of a transaction.
pub mod Tables
pub mod Checks
