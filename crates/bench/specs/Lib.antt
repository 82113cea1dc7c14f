-- Where the bench program can stand between two chunks of its input.
pub mod Turns
