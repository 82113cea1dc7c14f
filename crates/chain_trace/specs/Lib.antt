-- The chain traced back, and into its buffer.
pub mod Tracing
pub mod Showing
