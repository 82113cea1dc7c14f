-- Examples of document 02's L5: a page by columns and back.
pub mod Columns
