-- Laws of the way back by the finders, and of the buffer.
pub mod Trailing
pub mod Shown
