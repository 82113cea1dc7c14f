-- Examples of document 02's L2: who has the page.
pub mod Holders
