-- What the tests of the calls that only look give the code, and their outcomes.
pub mod Looks
pub mod Chains
pub mod PassShares
