-- Examples of document 02's L9: clients that begin, and the rights that their locks need.
pub mod Rights
