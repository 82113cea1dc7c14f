-- Laws of an abort: the changes of a transaction undone down the log, and its outcome.
pub mod Rolling
pub mod Aborts
