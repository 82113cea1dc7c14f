-- Lists of calls and cuts with their books, computed.
pub mod Run
pub mod Broken
