-- How each change of the working tables reads as the collector machine's.
pub mod Frames
pub mod Masks
pub mod Phases
pub mod Colours
pub mod Areas
pub mod Begun
pub mod Ended
pub mod Locking
pub mod Learned
pub mod Created
pub mod Written
pub mod Flushed
pub mod TakenBack
pub mod Shows
pub mod Facts
