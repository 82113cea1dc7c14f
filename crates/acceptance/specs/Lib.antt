-- What an accepted call tells: of the lengths and the working words, and of each call's own tests, by name; a refused call changes nothing.
pub mod Lengths
pub mod Working
pub mod Entered
pub mod Ran
pub mod Room
pub mod Rights
pub mod Transactions
pub mod Locks
pub mod Objects
pub mod Stability
pub mod Pass
pub mod Reopening
pub mod Marks
pub mod Looks
pub mod Calls
