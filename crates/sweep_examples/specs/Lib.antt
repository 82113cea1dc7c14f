-- Examples of document 02's L7: sweeping steps that end at each test.
pub mod Sweeps
