-- Examples of document 02's L6: a page swept under its reader, and images that are flushed.
pub mod Readers
