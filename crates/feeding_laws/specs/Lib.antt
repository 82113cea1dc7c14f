-- Laws of the bench program's input: bytes fed one by one give the commands of its lines.
pub mod Fed
pub mod Long
pub mod Stream
