-- The rights that the bench program gives, page by page, as the code gives them.
pub mod Giving
