-- Laws of the page that a flush of the bench program sends.
pub mod Sent
