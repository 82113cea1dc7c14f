-- Laws of the walk that undoes the newest changes: what one undoing leaves, and the walk.
pub mod Taking
pub mod Going
