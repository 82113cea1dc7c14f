-- What transactions reserve, as a walk down the log finds it.
pub mod Reserves
