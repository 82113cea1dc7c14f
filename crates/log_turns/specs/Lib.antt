-- What a walk down the log for the changes that are left does at each record, turn by turn.
pub mod Turns
