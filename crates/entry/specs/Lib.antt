-- Refusal 1 besides the lengths, test by test.
pub mod Range
