pub mod Reading
pub mod Rebuilding
