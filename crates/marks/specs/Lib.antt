-- Laws of marks: their order, the tests and the outcome.
pub mod Places
pub mod Checks
pub mod Outcomes
