-- Examples of document 02's L4: the share of a pass, and its steps.
pub mod Shares
pub mod Steps
