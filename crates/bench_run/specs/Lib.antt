-- Document 01, 'The bench program', as a function from the bytes of its input to those of its output.
pub mod Bench
