-- What a page area reaches from the root, and by which chain.
pub mod Reaching
pub mod Chains
pub mod Search
