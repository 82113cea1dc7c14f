-- Examples of document 02's L1: chains.
pub mod Chains
