-- A marking step: the targets that turn grey, and the tables after it.
pub mod Targets
pub mod Steps
