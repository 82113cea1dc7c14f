-- Examples of document 02's L3: marks, and going back.
pub mod Marks
