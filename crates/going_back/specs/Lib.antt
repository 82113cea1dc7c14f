-- Laws of going back: the tests and the outcome.
pub mod Checks
pub mod Outcomes
